-- Where the machine faults in a value, and of which kind, whatever stands behind the value.
use Rattle.std.proofs.Common.{◌≡◌, ◌∙◌, ℕ, suc, ◌+◌, ◌<◌, ◌≤◌, List, [], ◌∷◌, ◌++◌, length, get_or, drop, refl, ap, sym, subst, arith, Bool, true, false, inl, inr, append_assoc, append-nil, length-append, zero}
use Rattle.std.specs.Prelude.{slice_range, IsTrue, nat_le}
use Rattle.std.proofs.lemmas.Bool.Decides.{nat_tests}
use Rattle.std.specs.Str.{IsUtf8}
use Rattle.std.proofs.lemmas.Str.{IsUtf8-nil}
use Rattle.std.proofs.Math.Seq.{drop-cons}
use Rattle.std.proofs.lemmas.List.{length-drop}
use Rattle.json_text.specs.Text.{IsNumber}
use Rattle.json_text.specs.Json.{text, IsJson}
use Rattle.json_text.specs.Kept.{Wishes}
use Rattle.json_text.specs.Kept as k
use Rattle.json_text.specs.Accepted.{Bounds, all_bounds, IsInsideString, inside_from, outside}
use Rattle.json_text.specs.Machine.{State, Frame, Go, next, names, refused, limited, run, step, go_on, class, value, faulted, fault, from, skip_list, Fails, tree}
use Rattle.json_text.specs.Skipping.{IsValueText, IsFront, IsSkipped, IsSkipFault, HoldsAt, NoneBefore}
use Rattle.json_text.specs.Cutting.{ValueCut, DeepFront, NumberStops, IsSkipCode}
use Rattle.json_text.specs.declared.fault.JsonCode.{JsonCode}
use Rattle.json_text.specs.declared.fault.JsonCode.TheVariants.{NotUtf8, TooDeep, Repeated, TooMany, NotJson}
use Rattle.json_text.specs.declared.class.Class.TheVariants.{Space}
use Rattle.json_text.proofs.Steps.{run-faulted, slice-more, slice-one, slice-empty, slice-length}
use Rattle.json_text.proofs.Lexed.{drop_split}
use Rattle.json_text.proofs.Complete.{skip_text, head}
use Rattle.json_text.proofs.Places.{steps, run-steps, steps-push, IsWell, GoWell, go-well, closers, closers_end, closes}
use Rattle.json_text.proofs.Faults.{TextOf, GoText, go-text, Utf8Choice, refuses, allows, choice, answer_fault}
use Rattle.json_text.proofs.Cuts.{scalar_none}
use Rattle.json_text.proofs.Contexts.{scalar_value_cut}
use Rattle.json_text.proofs.Extensions.{no_extension}

-- what a byte does under all bounds: it is a fault there, or it leads on under any bounds
data Move (p : ℕ) (g : Go) (front : List ℕ) : Type 0 where
  stops : (code : JsonCode) → limited all_bounds p g ≡ faulted code p → Move p g front
  goes : (τ : State) → IsWell τ → TextOf τ front → ((l : Bounds) → limited l p g ≡ τ) → Move p g front

move : (p : ℕ) (g : Go) (front : List ℕ) → GoWell g → GoText g front → Move p g front
move p (next true many τ) front h t = stops TooDeep refl
move p (next false true τ) front h t = stops TooMany refl
move p (next false false τ) front h t = goes τ h t (λ l. refl)
move p (names true τ) front h t = stops Repeated refl
move p (names false τ) front h t = goes τ h t (λ l. refl)
move p (refused code) front h t = stops code refl

-- a fault is not before the place from which it is read
late : (w : Wishes) (p : ℕ) (σ : State) (front bytes : List ℕ) (code : JsonCode) (at : ℕ) → IsWell σ → TextOf σ front → run all_bounds w p σ bytes ≡ fault code at → p ≤ at
late w p σ front [] code at h t e = omega (arith, (answer_fault p σ code at h e).1)
late w p σ front (b ∷ bytes) code at h t e = on (move p (go_on w p σ b (class b)) (front ++ b ∷ []) (go-well w p b σ h) (go-text w p b σ front h t)) (λ τ i u g. late w (suc p) τ (front ++ b ∷ []) bytes code at i u g)
  where
    on : Move p (go_on w p σ b (class b)) (front ++ b ∷ []) → ((τ : State) → IsWell τ → TextOf τ (front ++ b ∷ []) → run all_bounds w (suc p) τ bytes ≡ fault code at → suc p ≤ at) → p ≤ at
    on (stops c f) again =
        let same : fault c p ≡ fault code at = sym (run-faulted all_bounds w (suc p) c p bytes) ∙ sym (ap (λ x. run all_bounds w (suc p) x bytes) f) ∙ e in
        let place : p ≡ at = cc in
        omega arith
    on (goes τ i u f) again = omega (arith, again τ i u (sym (ap (λ x. run all_bounds w (suc p) x bytes) (f all_bounds)) ∙ e))

-- at the end of the input it is no JSON
pub at_end : (w : Wishes) (p : ℕ) (σ : State) (front bytes : List ℕ) (code : JsonCode) → IsWell σ → TextOf σ front → run all_bounds w p σ bytes ≡ fault code (p + length bytes) → code ≡ NotJson
at_end w p σ front [] code h t e = (answer_fault p σ code (p + 0) h e).0
at_end w p σ front (b ∷ bytes) code h t e = on (move p (go_on w p σ b (class b)) (front ++ b ∷ []) (go-well w p b σ h) (go-text w p b σ front h t)) (λ τ i u g. at_end w (suc p) τ (front ++ b ∷ []) bytes code i u g)
  where
    on : Move p (go_on w p σ b (class b)) (front ++ b ∷ []) → ((τ : State) → IsWell τ → TextOf τ (front ++ b ∷ []) → run all_bounds w (suc p) τ bytes ≡ fault code (suc p + length bytes) → code ≡ NotJson) → code ≡ NotJson
    on (stops c f) again =
        let same : fault c p ≡ fault code (p + length (b ∷ bytes)) = sym (run-faulted all_bounds w (suc p) c p bytes) ∙ sym (ap (λ x. run all_bounds w (suc p) x bytes) f) ∙ e in
        let place : p ≡ p + length (b ∷ bytes) = cc in
        absurd (omega arith)
    on (goes τ i u f) again =
        let there : p + length (b ∷ bytes) ≡ suc p + length bytes = omega arith in
        again τ i u (sym (ap (λ x. run all_bounds w (suc p) x bytes) (f all_bounds)) ∙ e ∙ ap (fault code) there)

-- the state before the byte with which it faults
pub record Stopped (w : Wishes) (p0 : ℕ) (start : State) (front : List ℕ) (b : ℕ) (code : JsonCode) : Type 0 where
  pub state : State
  pub well : IsWell state
  pub text_of : TextOf state front
  pub there : (l : Bounds) → steps l w p0 start front ≡ state
  pub here : limited all_bounds (p0 + length front) (go_on w (p0 + length front) state b (class b)) ≡ faulted code (p0 + length front)

reach : (w : Wishes) (p0 : ℕ) (start σ : State) (front xs : List ℕ) (b : ℕ) (rest : List ℕ) (code : JsonCode) → IsWell σ → TextOf σ front → ((l : Bounds) → steps l w p0 start front ≡ σ)
    → run all_bounds w (p0 + length front) σ (xs ++ b ∷ rest) ≡ fault code (p0 + length (front ++ xs)) → Stopped w p0 start (front ++ xs) b code
reach w p0 start σ front [] b rest code h t there e =
    let same : front ++ [] ≡ front = append-nil front in
    let p = p0 + length front in
    let place : p0 + length (front ++ []) ≡ p = ap (λ x. p0 + length x) same in
    subst (λ x. Stopped w p0 start x b code) (sym same) (on (move p (go_on w p σ b (class b)) (front ++ b ∷ []) (go-well w p b σ h) (go-text w p b σ front h t)) (e ∙ ap (fault code) place))
  where
    on : Move (p0 + length front) (go_on w (p0 + length front) σ b (class b)) (front ++ b ∷ []) → run all_bounds w (p0 + length front) σ (b ∷ rest) ≡ fault code (p0 + length front) → Stopped w p0 start front b code
    on (stops c f) g =
        let p = p0 + length front in
        let same : fault c p ≡ fault code p = sym (run-faulted all_bounds w (suc p) c p rest) ∙ sym (ap (λ x. run all_bounds w (suc p) x rest) f) ∙ g in
        let is : c ≡ code = cc in
        record { state = σ; well = h; text_of = t; there = there; here = f ∙ ap (λ x. faulted x p) is }
    on (goes τ i u f) g =
        let p = p0 + length front in
        let later = late w (suc p) τ (front ++ b ∷ []) rest code p i u (sym (ap (λ x. run all_bounds w (suc p) x rest) (f all_bounds)) ∙ g) in
        absurd (omega arith)
reach w p0 start σ front (x ∷ xs) b rest code h t there e = on (move (p0 + length front) (go_on w (p0 + length front) σ x (class x)) (front ++ x ∷ []) (go-well w (p0 + length front) x σ h) (go-text w (p0 + length front) x σ front h t))
    (λ τ i u f g. reach w p0 start τ (front ++ x ∷ []) xs b rest code i u f g)
  where
    on : Move (p0 + length front) (go_on w (p0 + length front) σ x (class x)) (front ++ x ∷ [])
        → ((τ : State) → IsWell τ → TextOf τ (front ++ x ∷ []) → ((l : Bounds) → steps l w p0 start (front ++ x ∷ []) ≡ τ) → run all_bounds w (p0 + length (front ++ x ∷ [])) τ (xs ++ b ∷ rest) ≡ fault code (p0 + length ((front ++ x ∷ []) ++ xs)) → Stopped w p0 start ((front ++ x ∷ []) ++ xs) b code)
        → Stopped w p0 start (front ++ x ∷ xs) b code
    on (stops c f) again =
        let p = p0 + length front in
        let same : fault c p ≡ fault code (p0 + length (front ++ x ∷ xs)) = sym (run-faulted all_bounds w (suc p) c p (xs ++ b ∷ rest)) ∙ sym (ap (λ y. run all_bounds w (suc p) y (xs ++ b ∷ rest)) f) ∙ e in
        let place : p ≡ p0 + length (front ++ x ∷ xs) = cc in
        absurd (omega (arith, length-append front (x ∷ xs)))
    on (goes τ i u f) again =
        let p = p0 + length front in
        let regroup : (front ++ x ∷ []) ++ xs ≡ front ++ x ∷ xs = append_assoc front (x ∷ []) xs in
        let more : suc p ≡ p0 + length (front ++ x ∷ []) = omega (arith, length-append front (x ∷ [])) in
        subst (λ y. Stopped w p0 start y b code) regroup (again τ i u (λ l. steps-push l w p0 start front x ∙ ap (λ y. step l w p y x) (there l) ∙ f l)
        (sym (ap (λ q. run all_bounds w q τ (xs ++ b ∷ rest)) more) ∙ sym (ap (λ y. run all_bounds w (suc p) y (xs ++ b ∷ rest)) (f all_bounds)) ∙ e ∙ ap (λ y. fault code (p0 + length y)) (sym regroup)))

-- the containers around
around : ℕ → List Frame
around zero = []
around (suc d) = skip_list 0 ∷ around d

around_length : (d : ℕ) → length (around d) ≡ d
unfolding around
around_length zero = refl
around_length (suc d) = ap suc (around_length d)

-- a value's text, with the ends of the containers around it, is read to a tree
reads_all : (l : Bounds) (w : Wishes) (p d : ℕ) (bytes : List ℕ) (n : Bool) → (IsTrue l.nested → IsTrue n) → (v : IsValueText n d bytes) → (more : List ℕ) × (t : k.Kept) × (run l w p (value false 0 (around d)) (bytes ++ more) ≡ tree t)
reads_all l w p d bytes n im v =
    let c = closes w (p + length (text v.value)) (k.skipped p) 0 (around d) in (
      closers (around d),
      c.0,
      ap (λ x. run l w p (value false 0 (around d)) (x ++ closers (around d))) v.spelled
          ∙ skip_text l w p 0 (around d) v.value (closers (around d)) (p + length (text v.value)) v.is_json (λ e. omega (arith, v.few (im e), around_length d)) (closers_end (around d)) refl ∙ c.1 l,
    )

module _ (w : Wishes) (p0 d : ℕ) (front : List ℕ) (b : ℕ) (code : JsonCode) (s : Stopped w p0 (value false 0 (around d)) front b code) where
  -- no value within these bounds begins with the byte too
  stuck : (l : Bounds) → limited l (p0 + length front) (go_on w (p0 + length front) s.state b (class b)) ≡ faulted code (p0 + length front) → (n : Bool) → (IsTrue l.nested → IsTrue n) → IsFront n d (front ++ b ∷ []) → ⊥
  stuck l here n im f =
      let r = reads_all l w p0 d ((front ++ b ∷ []) ++ f.0) n im f.1 in
      let tail = f.0 ++ r.0 in
      let p = p0 + length front in
      let regroup : ((front ++ b ∷ []) ++ f.0) ++ r.0 ≡ front ++ b ∷ tail = append_assoc (front ++ b ∷ []) f.0 r.0 ∙ append_assoc front (b ∷ []) (f.0 ++ r.0) in
      let stops_there : run l w p0 (value false 0 (around d)) (front ++ b ∷ tail) ≡ fault code p = run-steps l w p0 (value false 0 (around d)) front (b ∷ tail) ∙ ap (λ x. run l w p x (b ∷ tail)) (s.there l) ∙ ap (λ x. run l w (suc p) x tail) here ∙ run-faulted l w (suc p) code p tail in
      let wrong : tree r.1 ≡ fault code p = sym r.2 ∙ ap (run l w p0 (value false 0 (around d))) regroup ∙ stops_there in
      cc

-- which byte is refused
refused_as : (p : ℕ) (g : Go) (code : JsonCode) → GoWell g → limited all_bounds p g ≡ faulted code p → (code ≡ TooDeep → ⊥) → (code ≡ Repeated → ⊥) → (code ≡ TooMany → ⊥) → g ≡ refused code
refused_as p (next true many τ) code h e a b c = absurd (a (cc))
refused_as p (next false true τ) code h e a b c = absurd (c (cc))
refused_as p (next false false τ) code h e a b c = absurd (subst IsWell e h)
refused_as p (names true τ) code h e a b c = absurd (b (cc))
refused_as p (names false τ) code h e a b c = absurd (subst IsWell e h)
refused_as p (refused other) code h e a b c = cc

-- the kind of a fault at a byte
record Kind (bytes : List ℕ) (at d : ℕ) (code : JsonCode) (k : ℕ) : Type 0 where
  longest : k < length bytes → IsFront true d (slice_range bytes at (k + 1)) → ⊥
  holds : HoldsAt code bytes at d k
  first : NoneBefore code bytes at d k

kind_of : (w : Wishes) (bytes : List ℕ) (at d k : ℕ) (code : JsonCode) (front : List ℕ) (b : ℕ) → slice_range bytes at k ≡ front → slice_range bytes at (k + 1) ≡ front ++ b ∷ [] → k < length bytes → IsSkipCode code → (code ≡ TooDeep → DeepFront d bytes at k)
    → (s : Stopped w at (value false 0 (around d)) front b code) → Utf8Choice (go_on w (at + length front) s.state b (class b)) front b → Kind bytes at d code k
kind_of w bytes at d k code front b same more lt is deep s (refuses e i n) =
    let p = at + length front in
    let both : faulted NotUtf8 p ≡ faulted code p = sym (ap (limited all_bounds p) e) ∙ s.here in
    let utf8 : NotUtf8 ≡ code = cc in
    record {
      longest = λ l f. stuck w at d front b code s all_bounds s.here true (λ t. refl) (subst (IsFront true d) more f);
      holds = subst (λ c. HoldsAt c bytes at d k) utf8 (lt, subst IsInsideString (sym same) i, (λ rest u. n rest (subst (λ x. IsUtf8 (x ++ rest)) more u)));
      first = subst (λ c. NoneBefore c bytes at d k) utf8 tt;
    }
kind_of w bytes at d k code front b same more lt is deep s (allows only f) = on is
  where
    allowed : HoldsAt NotUtf8 bytes at d k → ⊥
    allowed h = let c = f (subst IsInsideString same h.1) in h.2 c.0 (subst (λ x. IsUtf8 (x ++ c.0)) (sym more) c.1)

    no_longer : k < length bytes → IsFront true d (slice_range bytes at (k + 1)) → ⊥
    no_longer l g = stuck w at d front b code s all_bounds s.here true (λ t. refl) (subst (IsFront true d) more g)

    on : IsSkipCode code → Kind bytes at d code k
    on (inl e) =
        let r = refused_as (at + length front) (go_on w (at + length front) s.state b (class b)) code (go-well w (at + length front) b s.state s.well) s.here (λ x. cc) (λ x. cc) (λ x. cc) in
        let wrong : NotUtf8 ≡ NotJson = sym e ∙ only code r in
        absurd (cc)
    on (inr (inl e)) = record { longest = no_longer; holds = subst (λ c. HoldsAt c bytes at d k) (sym e) (deep e); first = subst (λ c. NoneBefore c bytes at d k) (sym e) allowed }
    on (inr (inr e)) =
        let p = at + length front in
        let g = go_on w p s.state b (class b) in
        let r = refused_as p g code (go-well w p b s.state s.well) s.here (λ x. cc) (λ x. cc) (λ x. cc) in
        let l : Bounds = record { nested = false; different = true; few = true } in
        record {
          longest = no_longer;
          holds = subst (λ c. HoldsAt c bytes at d k) (sym e) tt;
          first = subst (λ c. NoneBefore c bytes at d k) (sym e) (allowed, (λ h. stuck w at d front b code s l (ap (limited l p) r) false (λ t. t) (subst (IsFront false d) more h.1)));
        }

kind_at : (w : Wishes) (bytes : List ℕ) (at d k : ℕ) (code : JsonCode) → at ≤ k → k < length bytes → IsSkipCode code → (code ≡ TooDeep → DeepFront d bytes at k) → from w bytes at (value false 0 (around d)) ≡ fault code k → Kind bytes at d code k
unfolding from
kind_at w bytes at d k code le lt is deep e =
    let front = slice_range bytes at k in
    let b = get_or bytes k 0 in
    let start = value false 0 (around d) in
    let cut : drop at bytes ≡ front ++ b ∷ drop (suc k) bytes = drop_split bytes at k le ∙ ap (λ x. front ++ x) (drop-cons bytes k 0 lt) in
    let first : at + length {A = ℕ} [] ≡ at = omega arith in
    let place : k ≡ at + length front = omega (arith, slice-length bytes at k le (omega arith)) in
    let s = reach w at start start [] front b (drop (suc k) bytes) code tt (IsUtf8-nil, refl) (λ l. refl) (ap (λ q. run all_bounds w q start (front ++ b ∷ drop (suc k) bytes)) first ∙ sym (ap (run all_bounds w at start) cut) ∙ e ∙ ap (fault code) place) in
    kind_of w bytes at d k code front b refl (slice-more bytes at k le lt) lt is deep s (choice w (at + length front) b s.state front s.well s.text_of)

kind_at_end : (w : Wishes) (bytes : List ℕ) (at d k : ℕ) (code : JsonCode) → at ≤ k → k ≡ length bytes → from w bytes at (value false 0 (around d)) ≡ fault code k → Kind bytes at d code k
unfolding from
kind_at_end w bytes at d k code le whole e =
    let place : k ≡ at + length (drop at bytes) = omega (arith, length-drop at bytes) in
    let json_code : code ≡ NotJson = at_end w at (value false 0 (around d)) [] (drop at bytes) code tt (IsUtf8-nil, refl) (e ∙ ap (fault code) place) in
    record {
      longest = λ lt. absurd (omega arith);
      holds = subst (λ c. HoldsAt c bytes at d k) (sym json_code) tt;
      first = subst (λ c. NoneBefore c bytes at d k) (sym json_code) ((λ h. absurd (past h.0)), (λ h. absurd (past h.0)));
    }
  where
    past : k < length bytes → ⊥
    past lt = omega arith

kind : (w : Wishes) (bytes : List ℕ) (at d k : ℕ) (code : JsonCode) → at ≤ k → k ≤ length bytes → IsSkipCode code → (code ≡ TooDeep → DeepFront d bytes at k) → from w bytes at (value false 0 (around d)) ≡ fault code k → Kind bytes at d code k
kind w bytes at d k code le within is deep e = on (nat_le (length bytes) k) refl
  where
    inside : nat_le (length bytes) k ≡ false → k < length bytes
    inside h = grind (arith, nat_tests)

    end : nat_le (length bytes) k ≡ true → k ≡ length bytes
    end h = (let past : length bytes ≤ k = grind (arith, nat_tests) in omega arith)

    on : (t : Bool) → nat_le (length bytes) k ≡ t → Kind bytes at d code k
    on true h = kind_at_end w bytes at d k code le (end h) e
    on false h = kind_at w bytes at d k code le (inside h) is deep e

-- what was read is no value yet
not_whole : (d : ℕ) (bytes more : List ℕ) → 0 < length more → IsValueText true d (bytes ++ more) → (IsNumber bytes → ⊥) → IsValueText true d bytes → ⊥
not_whole d bytes [] some longer halts v = absurd (omega arith)
not_whole d bytes (b ∷ more) some longer halts v =
    no_extension v.value longer.value v.is_json longer.is_json b more (sym longer.spelled ∙ ap (λ x. x ++ b ∷ more) v.spelled)
    (λ digits e rest n. halts (subst IsNumber (sym (v.spelled ∙ ap text e)) (subst IsJson e v.is_json)))

pub skipped_fault : (bytes : List ℕ) (at d k : ℕ) (code : JsonCode) → Fails code k bytes at d (value false) → ValueCut d bytes at k → (code ≡ TooDeep → DeepFront d bytes at k) → IsSkipCode code → IsSkipFault bytes at d code k
skipped_fault bytes at d k code fails cut deep is =
    let w : Wishes = record { sections = []; fields = [] } in
    let n = kind w bytes at d k code cut.behind cut.within is deep (fails w 0 (around d) (around_length d)) in
    record {
      stretch = record { behind = cut.behind; within = cut.within; front = (cut.more, cut.value); longest = n.longest };
      no_value = not_whole d (slice_range bytes at k) cut.more cut.some cut.value cut.no_number;
      holds = n.holds;
      first = n.first;
    }

pub skipped_value : (bytes : List ℕ) (at d end : ℕ) → at ≤ end → end ≤ length bytes → IsValueText true d (slice_range bytes at end) → NumberStops bytes at end → IsSkipped bytes at d end
skipped_value bytes at d end le within v stop = record {
  stretch = record {
    behind = le;
    within = within;
    front = ([], subst (IsValueText true d) (sym (append-nil (slice_range bytes at end))) v);
    longest = λ lt f.
        let b = get_or bytes end 0 in
        let more : slice_range bytes at (end + 1) ++ f.0 ≡ slice_range bytes at end ++ b ∷ f.0 = ap (λ x. x ++ f.0) (slice-more bytes at end le lt) ∙ append_assoc (slice_range bytes at end) (b ∷ []) f.0 in
        no_extension v.value f.1.value v.is_json f.1.is_json b f.0 (sym f.1.spelled ∙ more ∙ ap (λ x. x ++ b ∷ f.0) v.spelled)
        (λ digits e rest n. stop rest lt (subst IsNumber (sym (ap (λ x. x ++ rest) (slice-more bytes at end le lt) ∙ append_assoc (slice_range bytes at end) (b ∷ []) rest ∙ ap (λ x. x ++ b ∷ rest) (v.spelled ∙ ap text e))) n));
  };
  value = v;
}

-- no value begins with white space, and none with nothing
no_space_first : (n : Bool) (d b : ℕ) (more : List ℕ) → class b ≡ Space → IsValueText n d (b ∷ more) → ⊥
no_space_first n d b more space v =
    let h = head v.value v.is_json in
    let both : b ∷ more ≡ h.0 ∷ h.1 = v.spelled ∙ h.2 in
    let same : b ≡ h.0 = cc in
    h.3 (ap class (sym same) ∙ space)

not_nothing : (n : Bool) (d : ℕ) → IsValueText n d [] → ⊥
not_nothing n d v =
    let h = head v.value v.is_json in
    let both : [] ≡ h.0 ∷ h.1 = v.spelled ∙ h.2 in
    cc

pub space_fault : (bytes : List ℕ) (at d : ℕ) (code : JsonCode) (k : ℕ) → d ≤ 200 → at < length bytes → class (get_or bytes at 0) ≡ Space → code ≡ NotJson → k ≡ at → IsSkipFault bytes at d code k
space_fault bytes at d code k few lt space is place = subst (IsSkipFault bytes at d code) (sym place) (record {
  stretch = record { behind = omega arith; within = omega arith; front = (none.more, none.value); longest = λ l f. no_space_first true d (get_or bytes at 0) f.0 space (subst (IsValueText true d) (ap (λ x. x ++ f.0) (slice-one bytes at lt)) f.1) };
  no_value = λ v. not_nothing true d (subst (IsValueText true d) (slice-empty bytes at) v);
  holds = subst (λ c. HoldsAt c bytes at d at) (sym is) tt;
  first = subst (λ c. NoneBefore c bytes at d at) (sym is) ((λ h. h.1 (ap (inside_from outside) (slice-empty bytes at))), (λ h. no_space_first false d (get_or bytes at 0) h.1.0 space (subst (IsValueText false d) (ap (λ x. x ++ h.1.0) (slice-one bytes at lt)) h.1.1)));
})
  where
    none : ValueCut d bytes at at
    none = scalar_value_cut d bytes at at few (scalar_none bytes at (omega arith))
