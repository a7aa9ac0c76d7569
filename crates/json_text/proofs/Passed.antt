-- Values that are passed over, and what has been passed of a list or of an object.
use Rattle.std.proofs.Common.{◌≡◌, ◌∙◌, ℕ, ◌+◌, ◌<◌, ◌≤◌, List, ◌∷◌, length, get_or, refl, ap, arith, Bool, false}
use Rattle.std.specs.Prelude.{slice_range}
use Rattle.json_text.specs.Text.{IsSpace}
use Rattle.json_text.specs.Kept.{Wishes}
use Rattle.json_text.specs.Lending.{IsColon}
use Rattle.json_text.specs.Machine.{State, Frame, Goes_to, StaysAtSpace, from, class, value, first_element, first_key, key, colon, after, finish, for_value, for_key, if_kept, wanted_value, scalar_value, skip_list, skip_object}
use Rattle.json_text.specs.Cutting.{Listed, Named, IsScalarText, NumberStops}
use Rattle.json_text.specs.Passing.{EndsString, EndsKey, IsPassed}
use Rattle.json_text.specs.declared.class.Class.TheVariants.{Quote, Comma, OpenList, CloseList, OpenObject, CloseObject, Space}
use Rattle.json_text.specs.declared.literals.Scalar.{Scalar}
use Rattle.json_text.proofs.Steps.{from-class, from-first_element, from-first_key, from-list-opens, from-object-opens}
use Rattle.json_text.proofs.Lexed.{from-quote}
use Rattle.json_text.proofs.Reading.{class-34, class-44, class-91, class-93, class-123, class-125}
use Rattle.json_text.proofs.Cuts.{string_ok, other_stops, is_number_class}
use Rattle.json_text.proofs.Contexts.{scalar_value_text, string_value_text, open_value, listed_first, listed_more, list_ends, list_ends_first, named_first, MemberAt, named_more, object_ends, object_ends_first}

-- white space between two places is passed in each state that stays at it
abbrev pub Skips : List ℕ → ℕ → ℕ → Type 0
Skips bytes a b = (w : Wishes) (σ : State) → StaysAtSpace σ → from w bytes a σ ≡ from w bytes b σ

pub passed_string : (bytes : List ℕ) (at quote d : ℕ) → d ≤ 200 → at < length bytes → class (get_or bytes at 0) ≡ Quote → quote < length bytes → EndsString bytes (at + 1) quote → IsPassed bytes at d (quote + 1)
passed_string bytes at quote d few lt c within s =
    let behind = s.behind in
    record {
      text = string_value_text d (slice_range bytes at (quote + 1)) few (string_ok bytes at quote (omega arith) within (class-34 (get_or bytes at 0) c) s.closes s.runs s.whole);
      stops = other_stops bytes at (quote + 1) (omega arith) (ap is_number_class c);
      goes = λ w n fs e. from-class w bytes at (value false n fs) Quote lt c ∙ from-quote w bytes (at + 1) quote (for_value false at) n fs behind within s.runs s.whole s.closes;
    }

pub passed_scalar : (bytes : List ℕ) (at end d : ℕ) (s : Scalar) → d ≤ 200 → IsScalarText (slice_range bytes at end) → NumberStops bytes at end
    → ((w : Wishes) (keep : Bool) (n : ℕ) (fs : List Frame) → from w bytes at (value keep n fs) ≡ from w bytes end (finish (if_kept keep at (scalar_value s at (slice_range bytes at end))) n fs)) → IsPassed bytes at d end
passed_scalar bytes at end d s few t stops goes = record { text = scalar_value_text d (slice_range bytes at end) few t; stops = stops; goes = λ w n fs e. goes w false n fs }

-- of the list that begins at a place all is passed before the element at another
pub record InList (bytes : List ℕ) (at d place : ℕ) : Type 0 where
  pub listed : Listed d bytes (at + 1) place
  pub goes : Goes_to bytes at place d (value false) (λ n fs. value false n (skip_list at ∷ fs))

pub list_first : (bytes : List ℕ) (at d place : ℕ) → d < 200 → at < length bytes → class (get_or bytes at 0) ≡ OpenList → place < length bytes → IsSpace (slice_range bytes (at + 1) place) → Skips bytes (at + 1) place
    → (class (get_or bytes place 0) ≡ Space → ⊥) → (class (get_or bytes place 0) ≡ CloseList → ⊥) → InList bytes at d place
list_first bytes at d place few lt c within space skips no_space no_end = record {
  listed = listed_first d bytes (at + 1) place space;
  goes = λ w n fs e. from-list-opens w bytes at n false fs lt c (omega (arith, e)) ∙ skips w (first_element n (skip_list at) fs) tt ∙ from-first_element w bytes place n (skip_list at) fs within refl no_space no_end;
}

pub list_none : (bytes : List ℕ) (at d place : ℕ) → d < 200 → at < length bytes → class (get_or bytes at 0) ≡ OpenList → at + 1 ≤ place → place < length bytes → IsSpace (slice_range bytes (at + 1) place) → Skips bytes (at + 1) place
    → class (get_or bytes place 0) ≡ CloseList → IsPassed bytes at d (place + 1)
list_none bytes at d place few lt c on within space skips close = record {
  text = open_value 91 d bytes at (place + 1) (omega arith) (omega arith) (class-91 (get_or bytes at 0) c) (list_ends_first d bytes (at + 1) place few on within space (class-93 (get_or bytes place 0) close));
  stops = other_stops bytes at (place + 1) (omega arith) (ap is_number_class c);
  goes = λ w n fs e. from-list-opens w bytes at n false fs lt c (omega (arith, e)) ∙ skips w (first_element n (skip_list at) fs) tt ∙ from-class w bytes place (first_element n (skip_list at) fs) CloseList within close;
}

module _ (bytes : List ℕ) (at d place end next : ℕ) (i : InList bytes at d place) (on : at + 1 ≤ place) (some : place < end) (p : IsPassed bytes place (d + 1) end) (further : end ≤ next) (lt : next < length bytes) (space : IsSpace (slice_range bytes end next)) (skips : Skips bytes end next) where
  pub list_more : (later : ℕ) → class (get_or bytes next 0) ≡ Comma → next + 1 ≤ later → later ≤ length bytes → IsSpace (slice_range bytes (next + 1) later) → Skips bytes (next + 1) later → InList bytes at d later
  list_more later comma behind within space2 skips2 = record {
    listed = listed_more d bytes (at + 1) place end next later on (omega arith) further (omega arith) within i.listed p.text space comma (class-44 (get_or bytes next 0)) space2;
    goes = λ w n fs e.
        let longer : length (skip_list at ∷ fs) ≡ d + 1 = omega (arith, e) in
        i.goes w n fs e ∙ p.goes w n (skip_list at ∷ fs) longer ∙ skips w (after n (skip_list at) fs) tt ∙ from-class w bytes next (after n (skip_list at) fs) Comma lt comma ∙ skips2 w (value false n (skip_list at ∷ fs)) tt;
  }

  pub list_close : at < length bytes → class (get_or bytes at 0) ≡ OpenList → class (get_or bytes next 0) ≡ CloseList → IsPassed bytes at d (next + 1)
  list_close within c close = record {
    text = open_value 91 d bytes at (next + 1) (omega arith) (omega arith) (class-91 (get_or bytes at 0) c) (list_ends d bytes (at + 1) place end next on (omega arith) further lt i.listed p.text space (class-93 (get_or bytes next 0) close));
    stops = other_stops bytes at (next + 1) (omega arith) (ap is_number_class c);
    goes = λ w n fs e.
        let longer : length (skip_list at ∷ fs) ≡ d + 1 = omega (arith, e) in
        i.goes w n fs e ∙ p.goes w n (skip_list at ∷ fs) longer ∙ skips w (after n (skip_list at) fs) tt ∙ from-class w bytes next (after n (skip_list at) fs) CloseList lt close;
  }

-- of the object that begins at a place all is passed before the key at another
pub record InObject (bytes : List ℕ) (at d place : ℕ) : Type 0 where
  pub named : Named d bytes (at + 1) place
  pub goes : Goes_to bytes at place d (value false) (λ n fs. key n (skip_object at) fs)

pub object_first : (bytes : List ℕ) (at d place : ℕ) → d < 200 → at < length bytes → class (get_or bytes at 0) ≡ OpenObject → place < length bytes → IsSpace (slice_range bytes (at + 1) place) → Skips bytes (at + 1) place
    → (class (get_or bytes place 0) ≡ Space → ⊥) → (class (get_or bytes place 0) ≡ CloseObject → ⊥) → InObject bytes at d place
object_first bytes at d place few lt c within space skips no_space no_end = record {
  named = named_first d bytes (at + 1) place space;
  goes = λ w n fs e. from-object-opens w bytes at n false fs lt c (omega (arith, e)) ∙ skips w (first_key n (skip_object at) fs) tt ∙ from-first_key w bytes place n (skip_object at) fs within refl no_space no_end;
}

pub object_none : (bytes : List ℕ) (at d place : ℕ) → d < 200 → at < length bytes → class (get_or bytes at 0) ≡ OpenObject → at + 1 ≤ place → place < length bytes → IsSpace (slice_range bytes (at + 1) place) → Skips bytes (at + 1) place
    → class (get_or bytes place 0) ≡ CloseObject → IsPassed bytes at d (place + 1)
object_none bytes at d place few lt c on within space skips close = record {
  text = open_value 123 d bytes at (place + 1) (omega arith) (omega arith) (class-123 (get_or bytes at 0) c) (object_ends_first d bytes (at + 1) place few on within space (class-125 (get_or bytes place 0) close));
  stops = other_stops bytes at (place + 1) (omega arith) (ap is_number_class c);
  goes = λ w n fs e. from-object-opens w bytes at n false fs lt c (omega (arith, e)) ∙ skips w (first_key n (skip_object at) fs) tt ∙ from-class w bytes place (first_key n (skip_object at) fs) CloseObject within close;
}

-- a member: its key, the colon, its value, and white space
pub record Member (bytes : List ℕ) (d place quote start end next : ℕ) : Type 0 where
  pub at : place < length bytes
  pub inside : quote < length bytes
  pub name : EndsKey bytes place quote
  pub start_behind : quote + 1 < start
  pub spelled : IsColon (slice_range bytes (quote + 1) start)
  pub colon_goes : (w : Wishes) (n : ℕ) (f : Frame) (fs : List Frame) → from w bytes (quote + 1) (colon n f fs) ≡ from w bytes start (value (wanted_value w f fs) n (f ∷ fs))
  pub some : start < end
  pub passed : IsPassed bytes start (d + 1) end
  pub further : end ≤ next
  pub within : next < length bytes
  pub space : IsSpace (slice_range bytes end next)
  pub skips : Skips bytes end next

member_at : (bytes : List ℕ) (d place quote start end next : ℕ) → Member bytes d place quote start end next → MemberAt d bytes place quote start end next
member_at bytes d place quote start end next m =
    let behind = m.name.string.behind in
    record {
      quote_behind = omega arith;
      start_behind = omega (arith, m.start_behind);
      end_behind = omega (arith, m.some);
      next_behind = m.further;
      within = omega (arith, m.within);
      key = string_ok bytes place quote (omega arith) m.inside (class-34 (get_or bytes place 0) m.name.opens) m.name.string.closes m.name.string.runs m.name.string.whole;
      colon = m.spelled;
      value = m.passed.text;
      space = m.space;
    }

member_goes : (bytes : List ℕ) (at d place quote start end next : ℕ) → Member bytes d place quote start end next → (w : Wishes) (n : ℕ) (fs : List Frame) → length fs ≡ d → from w bytes place (key n (skip_object at) fs) ≡ from w bytes next (after n (skip_object at) fs)
member_goes bytes at d place quote start end next m w n fs e =
    let longer : length (skip_object at ∷ fs) ≡ d + 1 = omega (arith, e) in
    from-class w bytes place (key n (skip_object at) fs) Quote m.at m.name.opens
    ∙ from-quote w bytes (place + 1) quote (for_key (skip_object at)) n fs m.name.string.behind m.inside m.name.string.runs m.name.string.whole m.name.string.closes
    ∙ m.colon_goes w n (skip_object at) fs ∙ m.passed.goes w n (skip_object at ∷ fs) longer ∙ m.skips w (after n (skip_object at) fs) tt

module _ (bytes : List ℕ) (at d place quote start end next : ℕ) (i : InObject bytes at d place) (on : at + 1 ≤ place) (m : Member bytes d place quote start end next) where
  pub object_more : (later : ℕ) → class (get_or bytes next 0) ≡ Comma → next + 1 ≤ later → later ≤ length bytes → IsSpace (slice_range bytes (next + 1) later) → Skips bytes (next + 1) later → InObject bytes at d later
  object_more later comma behind within space2 skips2 = record {
    named = named_more d bytes (at + 1) place quote start end next later on (omega arith) within i.named (member_at bytes d place quote start end next m) (class-44 (get_or bytes next 0) comma) space2;
    goes = λ w n fs e. i.goes w n fs e ∙ member_goes bytes at d place quote start end next m w n fs e ∙ from-class w bytes next (after n (skip_object at) fs) Comma m.within comma ∙ skips2 w (key n (skip_object at) fs) tt;
  }

  pub object_close : at < length bytes → class (get_or bytes at 0) ≡ OpenObject → class (get_or bytes next 0) ≡ CloseObject → IsPassed bytes at d (next + 1)
  object_close within c close =
      let order : place < next + 1 = omega (arith, m.name.string.behind, m.start_behind, m.some, m.further) in
      record {
        text = open_value 123 d bytes at (next + 1) (omega arith) (omega (arith, m.within)) (class-123 (get_or bytes at 0) c) (object_ends d bytes (at + 1) place quote start end next on m.within i.named (member_at bytes d place quote start end next m) (class-125 (get_or bytes next 0) close));
        stops = other_stops bytes at (next + 1) (omega arith) (ap is_number_class c);
        goes = λ w n fs e. i.goes w n fs e ∙ member_goes bytes at d place quote start end next m w n fs e ∙ from-class w bytes next (after n (skip_object at) fs) CloseObject m.within close;
      }
