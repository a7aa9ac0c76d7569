-- The keys of an object behind its first few members, in a set.
use Rattle.std.proofs.Common.{◌≡◌, ◌∙◌, ℕ, ◌≤◌, List, [], ◌∷◌, ◌++◌, length, take, drop, refl, ap, sym, Bool, true, false, Vec}
use Rattle.std.specs.Prelude.{◌||◌, not}
use Rattle.std.specs.Bool.{MatchBool, Decides}
use Rattle.std.specs.List.{list_any}
use Rattle.std.specs.List.Sorted.{IsPermutation}
use Rattle.std.specs.Str.{bytes_eq}
use Rattle.std.specs.declared.alloc.Global.{Global}
use Rattle.std.proofs.lemmas.List.{drop-append-le, take-append-drop}
use Rattle.std.proofs.lemmas.List.Folds.{list_any-append}
use Rattle.std.proofs.lemmas.List.Sorted.{list_any-IsPermutation}
use Rattle.std.proofs.lemmas.Slice.Eq.{bytes_eq-Decides}
use Rattle.json_text.specs.Late.{AreLate}
use Rattle.json_text.specs.SpanSeen.{text_seen}
use Rattle.json_text.specs.declared.span.SpanMember.{SpanMember}

both : {P Q : Type 0} (a b : Bool) → Decides a P → Decides b Q → (P → Q) → (Q → P) → a ≡ b
both true true h g f k = refl
both false false h g f k = refl
both true false h g f k = sym (g.1 (f (h.0 refl)))
both false true h g f k = h.1 (k (g.0 refl))

turned : (x y : List ℕ) → bytes_eq x y ≡ bytes_eq y x
turned x y = both (bytes_eq x y) (bytes_eq y x) (bytes_eq-Decides x y) (bytes_eq-Decides y x) sym sym

or_turned : (a b : Bool) → (a || b) ≡ (b || (a || false))
or_turned true true = refl
or_turned true false = refl
or_turned false true = refl
or_turned false false = refl

-- which late key a member has
abbrev pub is_of : List ℕ → SpanMember → Bool
is_of q m = bytes_eq (text_seen m.key) q

late_push : (ms : List SpanMember) (m : SpanMember) (q : List ℕ) → 16 ≤ length ms → list_any (is_of q) (drop 16 (ms ++ m ∷ [])) ≡ (list_any (is_of q) (drop 16 ms) || (is_of q m || false))
late_push ms m q many = ap (list_any (is_of q)) (drop-append-le 16 ms (m ∷ []) many) ∙ list_any-append (is_of q) (drop 16 ms) (m ∷ [])

-- one that is new
added_late : (late more : List (Vec ℕ Global)) (copy : Vec ℕ Global) (ms : List SpanMember) (m : SpanMember) → 16 ≤ length ms → AreLate late ms → text_seen m.key ≡ copy.items → IsPermutation (copy ∷ late) more → AreLate more (ms ++ m ∷ [])
added_late late more copy ms m many h same p q =
    sym (list_any-IsPermutation (λ k. bytes_eq q k.items) (copy ∷ late) more p) ∙ or_turned (bytes_eq q copy.items) (list_any (λ k. bytes_eq q k.items) late)
    ∙ ap (λ b. b || (bytes_eq q copy.items || false)) (h q) ∙ ap (λ b. list_any (is_of q) (drop 16 ms) || (b || false)) (turned q copy.items ∙ ap (λ s. bytes_eq s q) (sym same)) ∙ sym (late_push ms m q many)

-- one that the set has
or_same : (a b : Bool) → (b ≡ true → a ≡ true) → a ≡ (a || (b || false))
or_same true b f = refl
or_same false true f = f refl ∙ refl
or_same false false f = refl

kept_late : (late more : List (Vec ℕ Global)) (copy : Vec ℕ Global) (ms : List SpanMember) (m : SpanMember) → 16 ≤ length ms → AreLate late ms → text_seen m.key ≡ copy.items → more ≡ late → list_any (λ k. bytes_eq copy.items k.items) late ≡ true → AreLate more (ms ++ m ∷ [])
kept_late late more copy ms m many h same e known q =
    ap (list_any (λ k. bytes_eq q k.items)) e ∙ h q ∙ or_same (list_any (is_of q) (drop 16 ms)) (is_of q m) (λ is. sym (h q) ∙ ap (λ s. list_any (λ k. bytes_eq s k.items) late) (sym ((bytes_eq-Decides (text_seen m.key) q).0 is) ∙ same) ∙ known) ∙ sym (late_push ms m q many)

pub grown : (late more : List (Vec ℕ Global)) (copy : Vec ℕ Global) (ms : List SpanMember) (m : SpanMember) (added : Bool) → 16 ≤ length ms → AreLate late ms → text_seen m.key ≡ copy.items → added ≡ not (list_any (λ k. bytes_eq copy.items k.items) late)
    → MatchBool added (IsPermutation (copy ∷ late) more) (more ≡ late) → AreLate more (ms ++ m ∷ [])
grown late more copy ms m true many h same is p = added_late late more copy ms m many h same p
grown late more copy ms m false many h same is p = kept_late late more copy ms m many h same p (there (list_any (λ k. bytes_eq copy.items k.items) late) is)
  where
    there : (b : Bool) → false ≡ not b → b ≡ true
    there true e = refl
    there false e = absurd (cc)

-- the first few and the others are all
pub first_and_late : (late : List (Vec ℕ Global)) (ms : List SpanMember) (q : List ℕ) → AreLate late ms → (list_any (is_of q) (take 16 ms) || list_any (λ k. bytes_eq q k.items) late) ≡ list_any (is_of q) ms
first_and_late late ms q h = ap (λ b. list_any (is_of q) (take 16 ms) || b) (h q) ∙ sym (list_any-append (is_of q) (take 16 ms) (drop 16 ms)) ∙ ap (list_any (is_of q)) (take-append-drop 16 ms)

pub none_late : (late : List (Vec ℕ Global)) (ms : List SpanMember) → late ≡ [] → ms ≡ [] → AreLate late ms
none_late late ms e f q = ap (list_any (λ k. bytes_eq q k.items)) e ∙ ap (λ x. list_any (is_of q) (drop 16 x)) (sym f)
