-- What was read of a list or of an object, and what completes it.
use Rattle.std.proofs.Common.{◌≡◌, ◌∙◌, ℕ, ◌+◌, ◌<◌, ◌≤◌, List, [], ◌∷◌, ◌++◌, length, get_or, refl, ap, sym, subst, arith, Bool, true, false, append_assoc, append-nil, length-append}
use Rattle.std.specs.Prelude.{slice_range, codes, IsTrue}
use Rattle.json_text.specs.Text.{IsSpace, string_text, IsNumber}
use Rattle.json_text.specs.Json.{Json, Elements, Members, text, elements_text, members_text, IsJson, AreElements, AreMembers, depth, elements_depth, members_depth}
use Rattle.json_text.specs.Json as json
use Rattle.json_text.specs.Lending.{IsColon}
use Rattle.json_text.specs.Machine.{class}
use Rattle.json_text.specs.Skipping.{IsValueText}
use Rattle.json_text.specs.Cutting.{IsScalarText, ScalarCut, IsStringText, StringCut, ValueCut, OpenCut, OpenFront, DeepFront, ElementsText, MembersText, Listed, Named}
use Rattle.json_text.specs.declared.class.Class.TheVariants.{Comma}
use Rattle.json_text.proofs.Steps.{slice-more, slice-one, slice-empty}
use Rattle.json_text.proofs.Lexed.{slice_join}
use Rattle.json_text.proofs.Spaces.{space_append}
use Rattle.json_text.proofs.Cuts.{slice_first}

-- values
pub scalar_value_text : (d : ℕ) (bytes : List ℕ) → d ≤ 200 → IsScalarText bytes → IsValueText true d bytes
scalar_value_text d bytes few t = record { value = t.value; is_json = t.is_json; few = λ e. omega (arith, t.flat); spelled = t.spelled }

pub string_value_text : (d : ℕ) (bytes : List ℕ) → d ≤ 200 → IsStringText bytes → IsValueText true d bytes
string_value_text d bytes few t = record { value = json.string t.chars; is_json = t.are; few = λ e. omega arith; spelled = t.spelled }

pub scalar_value_cut : (d : ℕ) (bytes : List ℕ) (at k : ℕ) → d ≤ 200 → ScalarCut bytes at k → ValueCut d bytes at k
scalar_value_cut d bytes at k few c = record { behind = c.behind; within = c.within; more = c.more; some = c.some; value = scalar_value_text d (slice_range bytes at k ++ c.more) few c.scalar; no_number = c.no_number }

pub string_value_cut : (d : ℕ) (bytes : List ℕ) (at k : ℕ) → d ≤ 200 → (IsNumber (slice_range bytes at k) → ⊥) → StringCut bytes at k → ValueCut d bytes at k
string_value_cut d bytes at k few nn c = record { behind = c.behind; within = c.within; more = c.more; some = c.some; value = string_value_text d (slice_range bytes at k ++ c.more) few c.string; no_number = nn }

-- a list or an object from its bracket on
pub open_value : (b d : ℕ) (bytes : List ℕ) (at end : ℕ) → at < end → end ≤ length bytes → get_or bytes at 0 ≡ b → IsValueText true d (b ∷ slice_range bytes (at + 1) end) → IsValueText true d (slice_range bytes at end)
open_value b d bytes at end lt within e h = subst (IsValueText true d) (sym (slice_first bytes at end b lt within e)) h

pub open_cut : (b d : ℕ) (bytes : List ℕ) (at k : ℕ) → get_or bytes at 0 ≡ b → (IsNumber (slice_range bytes at k) → ⊥) → OpenCut b d bytes (at + 1) k → ValueCut d bytes at k
open_cut b d bytes at k e nn c = record {
  behind = omega (arith, c.behind);
  within = c.within;
  more = c.more;
  some = c.some;
  value = subst (IsValueText true d) (ap (λ x. x ++ c.more) (sym (slice_first bytes at k b (omega (arith, c.behind)) c.within e))) c.value;
  no_number = nn;
}

pub open_deep : (b d : ℕ) (bytes : List ℕ) (at k : ℕ) → at < k → get_or bytes at 0 ≡ b → OpenFront b d bytes (at + 1) k → DeepFront d bytes at k
open_deep b d bytes at k lt e h = (h.0, (h.1, subst (IsValueText false d) (ap (λ x. x ++ h.1) (sym (slice_first bytes at (k + 1) b (omega arith) (let inside : k < length bytes = h.0 in omega arith) e))) h.2))

none_open : (b : ℕ) (d : ℕ) (bytes : List ℕ) (at close : ℕ) → at < length bytes → get_or bytes at 0 ≡ b → IsValueText false d (b ∷ close ∷ []) → DeepFront d bytes at at
none_open b d bytes at close lt e h = (lt, (close ∷ [], subst (IsValueText false d) (ap (λ x. x ++ close ∷ []) (sym (slice-one bytes at lt ∙ ap (λ c. c ∷ []) e))) h))

pub list_opens : (d : ℕ) (bytes : List ℕ) (at : ℕ) → at < length bytes → get_or bytes at 0 ≡ 91 → DeepFront d bytes at at
list_opens d bytes at lt e = none_open 91 d bytes at 93 lt e (record { value = json.empty_list []; is_json = refl; few = λ t. absurd (let wrong : false ≡ true = t in cc); spelled = refl })

pub object_opens : (d : ℕ) (bytes : List ℕ) (at : ℕ) → at < length bytes → get_or bytes at 0 ≡ 123 → DeepFront d bytes at at
object_opens d bytes at lt e = none_open 123 d bytes at 125 lt e (record { value = json.empty_object []; is_json = refl; few = λ t. absurd (let wrong : false ≡ true = t in cc); spelled = refl })

-- with a bracket to come
pub list_cut_at : (d : ℕ) (bytes : List ℕ) (at : ℕ) → d < 200 → at ≤ length bytes → (IsNumber (slice_range bytes at at) → ⊥) → ValueCut d bytes at at
list_cut_at d bytes at few within nn = record { behind = omega arith; within = within; more = 91 ∷ 93 ∷ []; some = omega arith; value = subst (λ x. IsValueText true d (x ++ (91 ∷ 93 ∷ []))) (sym (slice-empty bytes at)) (record { value = json.empty_list []; is_json = refl; few = λ t. omega arith; spelled = refl }); no_number = nn }

-- lists
space_elements : (s : List ℕ) (es : Elements) → IsSpace s → AreElements es → (fs : Elements) × AreElements fs × (elements_depth fs ≡ elements_depth es) × (s ++ elements_text es ≡ elements_text fs)
space_elements s (json.last_element t v u) h a = (json.last_element (s ++ t) v u, (space_append s t h a.0, a.1, a.2), refl, sym (append_assoc s t (text v ++ u)))
space_elements s (json.element t v u rest) h a = (json.element (s ++ t) v u rest, (space_append s t h a.0, a.1, a.2, a.3), refl, sym (append_assoc s t (text v ++ (u ++ (codes "," ++ elements_text rest)))))

elements_space : (n : Bool) (d : ℕ) (s xs : List ℕ) → IsSpace s → ElementsText n d xs → ElementsText n d (s ++ xs)
elements_space n d s xs h t =
    let f = space_elements s t.elements h t.are in
    record { elements = f.0; are = f.1; few = λ e. omega (arith, t.few e, f.2); spelled = ap (λ x. s ++ x) t.spelled ∙ f.3 }

elements_last : (n : Bool) (d : ℕ) (vs ts : List ℕ) → IsValueText true (d + 1) vs → IsSpace ts → ElementsText n d (vs ++ ts)
elements_last n d vs ts v t = record { elements = json.last_element [] v.value ts; are = (refl, v.is_json, t); few = λ e. omega (arith, v.few refl); spelled = ap (λ x. x ++ ts) v.spelled }

elements_more : (n : Bool) (d : ℕ) (vs ts xs : List ℕ) → IsValueText true (d + 1) vs → IsSpace ts → ElementsText n d xs → ElementsText n d (vs ++ (ts ++ (44 ∷ xs)))
elements_more n d vs ts xs v t h = record {
  elements = json.element [] v.value ts h.elements;
  are = (refl, v.is_json, t, h.are);
  few = λ e. omega (arith, v.few refl, h.few e);
  spelled = ap (λ x. x ++ (ts ++ (44 ∷ xs))) v.spelled ∙ ap (λ x. text v.value ++ (ts ++ (44 ∷ x))) h.spelled;
}

list_closed : (n : Bool) (d : ℕ) (xs : List ℕ) → ElementsText n d xs → IsValueText n d (91 ∷ (xs ++ 93 ∷ []))
list_closed n d xs t = record { value = json.list t.elements; is_json = t.are; few = t.few; spelled = ap (λ x. 91 ∷ (x ++ 93 ∷ [])) t.spelled }

list_none : (d : ℕ) (s : List ℕ) → d < 200 → IsSpace s → IsValueText true d (91 ∷ (s ++ 93 ∷ []))
list_none d s few h = record { value = json.empty_list s; is_json = h; few = λ e. omega arith; spelled = refl }

pub listed_first : (d : ℕ) (bytes : List ℕ) (at place : ℕ) → IsSpace (slice_range bytes at place) → Listed d bytes at place
listed_first d bytes at place h n xs t = elements_space n d (slice_range bytes at place) xs h t

pub listed_more : (d : ℕ) (bytes : List ℕ) (at place end next start : ℕ) → at ≤ place → place ≤ end → end ≤ next → next < start → start ≤ length bytes → Listed d bytes at place → IsValueText true (d + 1) (slice_range bytes place end) → IsSpace (slice_range bytes end next)
    → class (get_or bytes next 0) ≡ Comma → (class (get_or bytes next 0) ≡ Comma → get_or bytes next 0 ≡ 44) → IsSpace (slice_range bytes (next + 1) start) → Listed d bytes at start
listed_more d bytes at place end next start a b c l within h v t comma is u n xs more =
    let vs = slice_range bytes place end in
    let ts = slice_range bytes end next in
    let us = slice_range bytes (next + 1) start in
    let rest : slice_range bytes next start ≡ 44 ∷ us = slice_first bytes next start 44 l within (is comma) in
    let whole : slice_range bytes place start ≡ vs ++ (ts ++ (44 ∷ us)) = sym (slice_join bytes place end start b (omega arith) within) ∙ ap (λ x. vs ++ x) (sym (slice_join bytes end next start c (omega arith) within) ∙ ap (λ x. ts ++ x) rest) in
    let all : slice_range bytes at start ++ xs ≡ slice_range bytes at place ++ (vs ++ (ts ++ (44 ∷ (us ++ xs)))) = ap (λ x. x ++ xs) (sym (slice_join bytes at place start a (omega arith) within)) ∙ append_assoc (slice_range bytes at place) (slice_range bytes place start) xs
    ∙ ap (λ x. slice_range bytes at place ++ x) (ap (λ x. x ++ xs) whole ∙ append_assoc vs (ts ++ (44 ∷ us)) xs ∙ ap (λ x. vs ++ x) (append_assoc ts (44 ∷ us) xs)) in
    subst (ElementsText n d) (sym all) (h n (vs ++ (ts ++ (44 ∷ (us ++ xs)))) (elements_more n d vs ts (us ++ xs) v t (elements_space n d us xs u more)))

-- up to behind an element and the white space behind it
listed_to : (d : ℕ) (bytes : List ℕ) (at place end next : ℕ) → at ≤ place → place ≤ end → end ≤ next → next ≤ length bytes → Listed d bytes at place → IsValueText true (d + 1) (slice_range bytes place end) → IsSpace (slice_range bytes end next) → (n : Bool) → ElementsText n d (slice_range bytes at next)
listed_to d bytes at place end next a b c within h v t n =
    let whole : slice_range bytes at place ++ (slice_range bytes place end ++ slice_range bytes end next) ≡ slice_range bytes at next = ap (λ x. slice_range bytes at place ++ x) (slice_join bytes place end next b c within) ∙ slice_join bytes at place next a (omega arith) within in
    subst (ElementsText n d) whole (h n (slice_range bytes place end ++ slice_range bytes end next) (elements_last n d (slice_range bytes place end) (slice_range bytes end next) v t))

pub list_ends : (d : ℕ) (bytes : List ℕ) (at place end next : ℕ) → at ≤ place → place ≤ end → end ≤ next → next < length bytes → Listed d bytes at place → IsValueText true (d + 1) (slice_range bytes place end) → IsSpace (slice_range bytes end next) → get_or bytes next 0 ≡ 93
    → IsValueText true d (91 ∷ slice_range bytes at (next + 1))
list_ends d bytes at place end next a b c lt h v t e =
    subst (λ x. IsValueText true d (91 ∷ x)) (sym (slice-more bytes at next (omega arith) lt ∙ ap (λ y. slice_range bytes at next ++ y ∷ []) e)) (list_closed true d (slice_range bytes at next) (listed_to d bytes at place end next a b c (omega arith) h v t true))

pub list_cut_behind : (d : ℕ) (bytes : List ℕ) (at place end next : ℕ) → at ≤ place → place ≤ end → end ≤ next → next ≤ length bytes → Listed d bytes at place → IsValueText true (d + 1) (slice_range bytes place end) → IsSpace (slice_range bytes end next) → OpenCut 91 d bytes at next
list_cut_behind d bytes at place end next a b c within h v t = record { behind = omega arith; within = within; more = 93 ∷ []; some = omega arith; value = list_closed true d (slice_range bytes at next) (listed_to d bytes at place end next a b c within h v t true) }

pub list_cut_first : (d : ℕ) (bytes : List ℕ) (at place : ℕ) → d < 200 → at ≤ place → place ≤ length bytes → IsSpace (slice_range bytes at place) → OpenCut 91 d bytes at place
list_cut_first d bytes at place few le within h = record { behind = le; within = within; more = 93 ∷ []; some = omega arith; value = list_none d (slice_range bytes at place) few h }

pub list_ends_first : (d : ℕ) (bytes : List ℕ) (at place : ℕ) → d < 200 → at ≤ place → place < length bytes → IsSpace (slice_range bytes at place) → get_or bytes place 0 ≡ 93 → IsValueText true d (91 ∷ slice_range bytes at (place + 1))
list_ends_first d bytes at place few le lt h e = subst (λ x. IsValueText true d (91 ∷ x)) (sym (slice-more bytes at place le lt ∙ ap (λ y. slice_range bytes at place ++ y ∷ []) e)) (list_none d (slice_range bytes at place) few h)

-- an element that is cut short
inner : (n : Bool) (d : ℕ) (bytes : List ℕ) (at place k : ℕ) (more : List ℕ) → at ≤ place → place ≤ k → k ≤ length bytes → Listed d bytes at place → ElementsText n d (slice_range bytes place k ++ more) → IsValueText n d (91 ∷ (slice_range bytes at k ++ (more ++ 93 ∷ [])))
inner n d bytes at place k more a b within h t =
    let joined : slice_range bytes at place ++ (slice_range bytes place k ++ more) ≡ slice_range bytes at k ++ more = sym (append_assoc (slice_range bytes at place) (slice_range bytes place k) more) ∙ ap (λ x. x ++ more) (slice_join bytes at place k a b within) in
    subst (λ x. IsValueText n d (91 ∷ x)) (append_assoc (slice_range bytes at k) more (93 ∷ [])) (list_closed n d (slice_range bytes at k ++ more) (subst (ElementsText n d) joined (h n (slice_range bytes place k ++ more) t)))

pub list_cut_inside : (d : ℕ) (bytes : List ℕ) (at place k : ℕ) → at ≤ place → Listed d bytes at place → ValueCut (d + 1) bytes place k → OpenCut 91 d bytes at k
list_cut_inside d bytes at place k a h c = record {
  behind = omega (arith, c.behind);
  within = c.within;
  more = c.more ++ 93 ∷ [];
  some = omega (arith, length-append c.more (93 ∷ []));
  value = inner true d bytes at place k c.more a c.behind c.within h (subst (ElementsText true d) (append-nil (slice_range bytes place k ++ c.more)) (elements_last true d (slice_range bytes place k ++ c.more) [] c.value refl));
}

elements_front : (d : ℕ) (vs : List ℕ) → IsValueText false (d + 1) vs → ElementsText false d vs
elements_front d vs v = record { elements = json.last_element [] v.value []; are = (refl, v.is_json, refl); few = λ t. absurd (let wrong : false ≡ true = t in cc); spelled = v.spelled ∙ sym (append-nil (text v.value)) }

pub list_deep : (d : ℕ) (bytes : List ℕ) (at place k : ℕ) → at ≤ place → place ≤ k → Listed d bytes at place → DeepFront (d + 1) bytes place k → OpenFront 91 d bytes at k
list_deep d bytes at place k a b h f =
    let inside : k < length bytes = f.0 in
    (inside, f.1.0 ++ 93 ∷ [], inner false d bytes at place (k + 1) f.1.0 a (omega arith) (omega arith) h (elements_front d (slice_range bytes place (k + 1) ++ f.1.0) f.1.1))

-- objects
space_members : (s : List ℕ) (ms : Members) → IsSpace s → AreMembers ms → (ns : Members) × AreMembers ns × (members_depth ns ≡ members_depth ms) × (s ++ members_text ms ≡ members_text ns)
space_members s (json.last_member r name t u v x) h a = (json.last_member (s ++ r) name t u v x, (space_append s r h a.0, a.1, a.2, a.3, a.4, a.5), refl, sym (append_assoc s r (string_text name ++ (t ++ (codes ":" ++ (u ++ (text v ++ x)))))))
space_members s (json.member r name t u v x rest) h a = (json.member (s ++ r) name t u v x rest, (space_append s r h a.0, a.1, a.2, a.3, a.4, a.5, a.6), refl, sym (append_assoc s r (string_text name ++ (t ++ (codes ":" ++ (u ++ (text v ++ (x ++ (codes "," ++ members_text rest)))))))))

members_space : (n : Bool) (d : ℕ) (s xs : List ℕ) → IsSpace s → MembersText n d xs → MembersText n d (s ++ xs)
members_space n d s xs h t =
    let f = space_members s t.members h t.are in
    record { members = f.0; are = f.1; few = λ e. omega (arith, t.few e, f.2); spelled = ap (λ x. s ++ x) t.spelled ∙ f.3 }

-- a member in its pieces
members_last : (n m : Bool) (d : ℕ) (ks ts us vs xs : List ℕ) → (IsTrue n → IsTrue m) → IsStringText ks → IsSpace ts → IsSpace us → IsValueText m (d + 1) vs → IsSpace xs → MembersText n d (ks ++ (ts ++ (58 ∷ (us ++ (vs ++ xs)))))
members_last n m d ks ts us vs xs im k t u v x = record {
  members = json.last_member [] k.chars ts us v.value xs;
  are = (refl, k.are, t, u, v.is_json, x);
  few = λ e. omega (arith, v.few (im e));
  spelled = ap (λ y. y ++ (ts ++ (58 ∷ (us ++ (vs ++ xs))))) k.spelled ∙ ap (λ y. string_text k.chars ++ (ts ++ (58 ∷ (us ++ (y ++ xs))))) v.spelled;
}

members_more : (n : Bool) (d : ℕ) (ks ts us vs ws xs : List ℕ) → IsStringText ks → IsSpace ts → IsSpace us → IsValueText true (d + 1) vs → IsSpace ws → MembersText n d xs → MembersText n d (ks ++ (ts ++ (58 ∷ (us ++ (vs ++ (ws ++ (44 ∷ xs)))))))
members_more n d ks ts us vs ws xs k t u v w h = record {
  members = json.member [] k.chars ts us v.value ws h.members;
  are = (refl, k.are, t, u, v.is_json, w, h.are);
  few = λ e. omega (arith, v.few refl, h.few e);
  spelled = ap (λ y. y ++ (ts ++ (58 ∷ (us ++ (vs ++ (ws ++ (44 ∷ xs))))))) k.spelled ∙ ap (λ y. string_text k.chars ++ (ts ++ (58 ∷ (us ++ (y ++ (ws ++ (44 ∷ xs))))))) v.spelled
      ∙ ap (λ y. string_text k.chars ++ (ts ++ (58 ∷ (us ++ (text v.value ++ (ws ++ (44 ∷ y))))))) h.spelled;
}

object_closed : (n : Bool) (d : ℕ) (xs : List ℕ) → MembersText n d xs → IsValueText n d (123 ∷ (xs ++ 125 ∷ []))
object_closed n d xs t = record { value = json.object t.members; is_json = t.are; few = t.few; spelled = ap (λ x. 123 ∷ (x ++ 125 ∷ [])) t.spelled }

object_none : (d : ℕ) (s : List ℕ) → d < 200 → IsSpace s → IsValueText true d (123 ∷ (s ++ 125 ∷ []))
object_none d s few h = record { value = json.empty_object s; is_json = h; few = λ e. omega arith; spelled = refl }

pub named_first : (d : ℕ) (bytes : List ℕ) (at place : ℕ) → IsSpace (slice_range bytes at place) → Named d bytes at place
named_first d bytes at place h n xs t = members_space n d (slice_range bytes at place) xs h t

-- where a member stands: its key up to a quote, its value between two places, and white space behind it
pub record MemberAt (d : ℕ) (bytes : List ℕ) (place quote start end next : ℕ) : Type 0 where
  pub quote_behind : place < quote
  pub start_behind : quote + 1 ≤ start
  pub end_behind : start ≤ end
  pub next_behind : end ≤ next
  pub within : next ≤ length bytes
  pub key : IsStringText (slice_range bytes place (quote + 1))
  pub colon : IsColon (slice_range bytes (quote + 1) start)
  pub value : IsValueText true (d + 1) (slice_range bytes start end)
  pub space : IsSpace (slice_range bytes end next)

-- the bytes of a key and a colon, and something behind them
key_and_colon : (bytes : List ℕ) (place quote start k : ℕ) (c : IsColon (slice_range bytes (quote + 1) start)) (rest : List ℕ) → place < quote → quote + 1 ≤ start → start ≤ k → k ≤ length bytes
    → slice_range bytes place k ++ rest ≡ slice_range bytes place (quote + 1) ++ (c.before ++ (58 ∷ (c.behind ++ (slice_range bytes start k ++ rest))))
key_and_colon bytes place quote start k c rest a b e within =
    let ks = slice_range bytes place (quote + 1) in
    let vs = slice_range bytes start k in
    let whole : slice_range bytes place k ≡ ks ++ ((c.before ++ (58 ∷ c.behind)) ++ vs) = sym (slice_join bytes place (quote + 1) k (omega arith) (omega arith) within) ∙ ap (λ x. ks ++ x) (sym (slice_join bytes (quote + 1) start k b e within) ∙ ap (λ x. x ++ vs) c.spelled) in
    ap (λ x. x ++ rest) whole ∙ append_assoc ks ((c.before ++ (58 ∷ c.behind)) ++ vs) rest ∙ ap (λ x. ks ++ x) (append_assoc (c.before ++ (58 ∷ c.behind)) vs rest ∙ append_assoc c.before (58 ∷ c.behind) (vs ++ rest))

member_last : (n : Bool) (d : ℕ) (bytes : List ℕ) (place quote start end next : ℕ) → MemberAt d bytes place quote start end next → MembersText n d (slice_range bytes place next)
member_last n d bytes place quote start end next m =
    let xs = slice_range bytes end next in
    let vs = slice_range bytes start end in
    let all : slice_range bytes place next ≡ slice_range bytes place (quote + 1) ++ (m.colon.before ++ (58 ∷ (m.colon.behind ++ (vs ++ xs)))) =
    sym (slice_join bytes place end next (omega (arith, m.quote_behind, m.start_behind, m.end_behind)) m.next_behind m.within) ∙ key_and_colon bytes place quote start end m.colon xs m.quote_behind m.start_behind m.end_behind (omega (arith, m.next_behind, m.within)) in
    subst (MembersText n d) (sym all) (members_last n true d (slice_range bytes place (quote + 1)) m.colon.before m.colon.behind vs xs (λ e. refl) m.key m.colon.space_before m.colon.space_behind m.value m.space)

pub named_more : (d : ℕ) (bytes : List ℕ) (at place quote start end next later : ℕ) → at ≤ place → next < later → later ≤ length bytes → Named d bytes at place → MemberAt d bytes place quote start end next → get_or bytes next 0 ≡ 44 → IsSpace (slice_range bytes (next + 1) later) → Named d bytes at later
named_more d bytes at place quote start end next later a lt within h m comma u n xs more =
    let us = slice_range bytes (next + 1) later in
    let ws = slice_range bytes end next in
    let vs = slice_range bytes start end in
    let up : end ≤ next = m.next_behind in
    let before : place ≤ end = omega (arith, m.quote_behind, m.start_behind, m.end_behind) in
    let rest : slice_range bytes next later ≡ 44 ∷ us = slice_first bytes next later 44 lt within comma in
    let tail : slice_range bytes end later ++ xs ≡ ws ++ (44 ∷ (us ++ xs)) = ap (λ x. x ++ xs) (sym (slice_join bytes end next later up (omega arith) within) ∙ ap (λ x. ws ++ x) rest) ∙ append_assoc ws (44 ∷ us) xs in
    let all : slice_range bytes at later ++ xs ≡ slice_range bytes at place ++ (slice_range bytes place (quote + 1) ++ (m.colon.before ++ (58 ∷ (m.colon.behind ++ (vs ++ (ws ++ (44 ∷ (us ++ xs)))))))) =
    ap (λ x. x ++ xs) (sym (slice_join bytes at place later a (omega arith) within)) ∙ append_assoc (slice_range bytes at place) (slice_range bytes place later) xs
    ∙ ap (λ x. slice_range bytes at place ++ x) (ap (λ x. x ++ xs) (sym (slice_join bytes place end later before (omega arith) within)) ∙ append_assoc (slice_range bytes place end) (slice_range bytes end later) xs ∙ ap (λ x. slice_range bytes place end ++ x) tail
    ∙ key_and_colon bytes place quote start end m.colon (ws ++ (44 ∷ (us ++ xs))) m.quote_behind m.start_behind m.end_behind (omega arith)) in
    subst (MembersText n d) (sym all) (h n _ (members_more n d (slice_range bytes place (quote + 1)) m.colon.before m.colon.behind vs ws (us ++ xs) m.key m.colon.space_before m.colon.space_behind m.value m.space (members_space n d us xs u more)))

named_to : (d : ℕ) (bytes : List ℕ) (at place quote start end next : ℕ) → at ≤ place → Named d bytes at place → MemberAt d bytes place quote start end next → (n : Bool) → MembersText n d (slice_range bytes at next)
named_to d bytes at place quote start end next a h m n = subst (MembersText n d) (slice_join bytes at place next a (omega (arith, m.quote_behind, m.start_behind, m.end_behind, m.next_behind)) m.within) (h n (slice_range bytes place next) (member_last n d bytes place quote start end next m))

pub object_ends : (d : ℕ) (bytes : List ℕ) (at place quote start end next : ℕ) → at ≤ place → next < length bytes → Named d bytes at place → MemberAt d bytes place quote start end next → get_or bytes next 0 ≡ 125 → IsValueText true d (123 ∷ slice_range bytes at (next + 1))
object_ends d bytes at place quote start end next a lt h m e =
    subst (λ x. IsValueText true d (123 ∷ x)) (sym (slice-more bytes at next (omega (arith, m.quote_behind, m.start_behind, m.end_behind, m.next_behind)) lt ∙ ap (λ y. slice_range bytes at next ++ y ∷ []) e)) (object_closed true d (slice_range bytes at next) (named_to d bytes at place quote start end next a h m true))

pub object_cut_behind : (d : ℕ) (bytes : List ℕ) (at place quote start end next : ℕ) → at ≤ place → Named d bytes at place → MemberAt d bytes place quote start end next → OpenCut 123 d bytes at next
object_cut_behind d bytes at place quote start end next a h m = record { behind = omega (arith, m.quote_behind, m.start_behind, m.end_behind, m.next_behind); within = m.within; more = 125 ∷ []; some = omega arith; value = object_closed true d (slice_range bytes at next) (named_to d bytes at place quote start end next a h m true) }

pub object_cut_first : (d : ℕ) (bytes : List ℕ) (at place : ℕ) → d < 200 → at ≤ place → place ≤ length bytes → IsSpace (slice_range bytes at place) → OpenCut 123 d bytes at place
object_cut_first d bytes at place few le within h = record { behind = le; within = within; more = 125 ∷ []; some = omega arith; value = object_none d (slice_range bytes at place) few h }

pub object_ends_first : (d : ℕ) (bytes : List ℕ) (at place : ℕ) → d < 200 → at ≤ place → place < length bytes → IsSpace (slice_range bytes at place) → get_or bytes place 0 ≡ 125 → IsValueText true d (123 ∷ slice_range bytes at (place + 1))
object_ends_first d bytes at place few le lt h e = subst (λ x. IsValueText true d (123 ∷ x)) (sym (slice-more bytes at place le lt ∙ ap (λ y. slice_range bytes at place ++ y ∷ []) e)) (object_none d (slice_range bytes at place) few h)

-- a member that is cut short
within_member : (n : Bool) (d : ℕ) (bytes : List ℕ) (at place k : ℕ) (more : List ℕ) → at ≤ place → place ≤ k → k ≤ length bytes → Named d bytes at place → MembersText n d (slice_range bytes place k ++ more) → IsValueText n d (123 ∷ (slice_range bytes at k ++ (more ++ 125 ∷ [])))
within_member n d bytes at place k more a b within h t =
    let joined : slice_range bytes at place ++ (slice_range bytes place k ++ more) ≡ slice_range bytes at k ++ more = sym (append_assoc (slice_range bytes at place) (slice_range bytes place k) more) ∙ ap (λ x. x ++ more) (slice_join bytes at place k a b within) in
    subst (λ x. IsValueText n d (123 ∷ x)) (append_assoc (slice_range bytes at k) more (125 ∷ [])) (object_closed n d (slice_range bytes at k ++ more) (subst (MembersText n d) joined (h n (slice_range bytes place k ++ more) t)))

null_value : (d : ℕ) → d ≤ 200 → IsValueText true d (codes "null")
null_value d few = record { value = json.null; is_json = tt; few = λ e. omega arith; spelled = refl }

-- in its key
pub object_cut_key : (d : ℕ) (bytes : List ℕ) (at place k : ℕ) → d < 200 → at ≤ place → Named d bytes at place → StringCut bytes place k → OpenCut 123 d bytes at k
object_cut_key d bytes at place k few a h c = record {
  behind = omega (arith, c.behind);
  within = c.within;
  more = (c.more ++ codes ":null") ++ 125 ∷ [];
  some = omega (arith, length-append (c.more ++ codes ":null") (125 ∷ []));
  value = within_member true d bytes at place k (c.more ++ codes ":null") a c.behind c.within h
      (subst (MembersText true d) (append_assoc (slice_range bytes place k) c.more (codes ":null")) (members_last true true d (slice_range bytes place k ++ c.more) [] [] (codes "null") [] (λ e. refl) c.string refl refl (null_value (d + 1) (omega arith)) refl));
}

-- behind its key
pub object_cut_colon : (d : ℕ) (bytes : List ℕ) (at place quote k : ℕ) → d < 200 → at ≤ place → place < quote → quote + 1 ≤ k → k ≤ length bytes → Named d bytes at place → IsStringText (slice_range bytes place (quote + 1)) → IsSpace (slice_range bytes (quote + 1) k) → OpenCut 123 d bytes at k
object_cut_colon d bytes at place quote k few a lt le within h key s =
    let ks = slice_range bytes place (quote + 1) in
    let ts = slice_range bytes (quote + 1) k in
    let whole : ks ++ (ts ++ codes ":null") ≡ slice_range bytes place k ++ codes ":null" = sym (append_assoc ks ts (codes ":null")) ∙ ap (λ x. x ++ codes ":null") (slice_join bytes place (quote + 1) k (omega arith) le within) in
    record {
      behind = omega arith;
      within = within;
      more = codes ":null" ++ 125 ∷ [];
      some = omega arith;
      value = within_member true d bytes at place k (codes ":null") a (omega arith) within h (subst (MembersText true d) whole (members_last true true d ks ts [] (codes "null") [] (λ e. refl) key s refl (null_value (d + 1) (omega arith)) refl));
    }

-- in its value
member_front : (n m : Bool) (d : ℕ) (bytes : List ℕ) (place quote start k : ℕ) (more : List ℕ) → (IsTrue n → IsTrue m) → place < quote → quote + 1 ≤ start → start ≤ k → k ≤ length bytes → IsStringText (slice_range bytes place (quote + 1)) → IsColon (slice_range bytes (quote + 1) start)
    → IsValueText m (d + 1) (slice_range bytes start k ++ more) → MembersText n d (slice_range bytes place k ++ more)
member_front n m d bytes place quote start k more im a b e within key colon v =
    let vs = slice_range bytes start k ++ more in
    let all : slice_range bytes place (quote + 1) ++ (colon.before ++ (58 ∷ (colon.behind ++ (vs ++ [])))) ≡ slice_range bytes place k ++ more =
    ap (λ x. slice_range bytes place (quote + 1) ++ (colon.before ++ (58 ∷ (colon.behind ++ x)))) (append-nil vs) ∙ sym (key_and_colon bytes place quote start k colon more a b e within) in
    subst (MembersText n d) all (members_last n m d (slice_range bytes place (quote + 1)) colon.before colon.behind vs [] im key colon.space_before colon.space_behind v refl)

pub object_cut_inside : (d : ℕ) (bytes : List ℕ) (at place quote start k : ℕ) → at ≤ place → place < quote → quote + 1 ≤ start → Named d bytes at place → IsStringText (slice_range bytes place (quote + 1)) → IsColon (slice_range bytes (quote + 1) start) → ValueCut (d + 1) bytes start k → OpenCut 123 d bytes at k
object_cut_inside d bytes at place quote start k a lt le h key colon c = record {
  behind = omega (arith, c.behind);
  within = c.within;
  more = c.more ++ 125 ∷ [];
  some = omega (arith, length-append c.more (125 ∷ []));
  value = within_member true d bytes at place k c.more a (omega (arith, c.behind)) c.within h (member_front true true d bytes place quote start k c.more (λ e. refl) lt le c.behind c.within key colon c.value);
}

pub object_deep : (d : ℕ) (bytes : List ℕ) (at place quote start k : ℕ) → at ≤ place → place < quote → quote + 1 ≤ start → start ≤ k → Named d bytes at place → IsStringText (slice_range bytes place (quote + 1)) → IsColon (slice_range bytes (quote + 1) start) → DeepFront (d + 1) bytes start k → OpenFront 123 d bytes at k
object_deep d bytes at place quote start k a lt le behind h key colon f =
    let inside : k < length bytes = f.0 in
    (inside, f.1.0 ++ 125 ∷ [], within_member false d bytes at place (k + 1) f.1.0 a (omega arith) (omega arith) h (member_front false false d bytes place quote start (k + 1) f.1.0 (λ e. e) lt le (omega arith) (omega arith) key colon f.1.1))
