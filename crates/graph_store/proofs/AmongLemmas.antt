-- Those that pass a test, from nodes among which they are.
use Rattle.std.proofs.Common.{◌≡◌, ◌∙◌, ◌<◌, ◌≤◌, ◌+◌, ℕ, zero, suc, Bool, true, false, List, [], ◌∷◌, Vec, length, get_or, refl, ap, sym, subst, arith}
use Rattle.std.specs.Prelude.{◌==◌, ◌||◌, ◌&&◌, filter, if◌then◌else◌, slice_get}
use Rattle.std.specs.Global.{Global}
use Rattle.std.proofs.lemmas.Option.{slice_get-get_or, slice_get_past}
use Rattle.plan_base.specs.declared.ids.NodeId.{NodeId}
use Rattle.graph_store.specs.Lists.{has_node, AreLists, HoldThose, Rise}
use Rattle.graph_store.specs.Members.{node, passes, those}
use Rattle.graph_store.proofs.CommonLemmas.{filter_rises, has_filtered}
use Rattle.graph_store.proofs.NumbersLemmas.{rising_above}
use Rattle.graph_store.proofs.OrderLemmas.{in_order_those, numbers_of, those_rise, those_rising}

-- ---- whether a node is one of those
pub below_those : {A : Type 0} (test : A → Bool) (xs : List A) (first k : ℕ) → k < first → has_node (those test first xs) k ≡ false
below_those test xs first k below = rising_above first k (numbers_of (those test first xs)) (those_rise test xs first) below

first_of_those : {A : Type 0} (test : A → Bool) (x : A) (first : ℕ) (later : List NodeId) → has_node later first ≡ false → (b : Bool) → test x ≡ b → has_node (if b then node first ∷ later else later) first ≡ test x
first_of_those test x first later none true is = let same : (first == first) ≡ true = grind arith in ap (λ b. b || has_node later first) same ∙ sym is
first_of_those test x first later none false is = none ∙ sym is

later_of_those : (first k : ℕ) (later : List NodeId) → (first == k) ≡ false → (b : Bool) → has_node (if b then node first ∷ later else later) k ≡ has_node later k
later_of_those first k later other true = ap (λ b. b || has_node later k) other
later_of_those first k later other false = refl

pub at_those : {A : Type 0} (test : A → Bool) → (xs : List A) (first i k : ℕ) → k ≡ first + i → has_node (those test first xs) k ≡ passes test (slice_get xs i)
at_those test [] first i k at = refl
at_those test (x ∷ xs) first zero k at =
    let same : k ≡ first = omega (arith, at) in
    ap (has_node (those test first (x ∷ xs))) same ∙ first_of_those test x first (those test (first + 1) xs) (below_those test xs (first + 1) first (omega arith)) (test x) refl
at_those test (x ∷ xs) first (suc i) k at =
    let other : (first == k) ≡ false = grind (arith, at) in
    later_of_those first k (those test (first + 1) xs) other (test x) ∙ at_those test xs (first + 1) i k (omega (arith, at))

pub at_place : {A : Type 0} (test : A → Bool) (xs : List A) (first i k : ℕ) (x : A) → k ≡ first + i → i < length xs → x ≡ get_or xs i x → test x ≡ has_node (those test first xs) k
at_place test xs first i k x at within is = ap test is ∙ sym (at_those test xs first i k at ∙ ap (passes test) (slice_get-get_or xs i x within))

pub past_those : {A : Type 0} (test : A → Bool) (xs : List A) (first i k : ℕ) → k ≡ first + i → length xs ≤ i → false ≡ has_node (those test first xs) k
past_those test xs first i k at past = sym (at_those test xs first i k at ∙ ap (passes test) (slice_get_past xs i past))

-- ---- those from nodes among which they are
within : (a b : Bool) → (b ≡ true → a ≡ true) → (a && b) ≡ b
within true b all = refl
within false true all = absurd (let impossible : false ≡ true = all refl in cc)
within false false all = refl

pub those_kept : {A : Type 0} (test : A → Bool) (first : ℕ) (xs : List A) (nodes kept : List NodeId) → Rise nodes → ((n : ℕ) → has_node (those test first xs) n ≡ true → has_node nodes n ≡ true)
    → kept ≡ filter (λ n. has_node (those test first xs) n.0) nodes → kept ≡ those test first xs
those_kept test first xs nodes kept rise all is =
    in_order_those test first xs (numbers_of kept) kept (record { rise = subst Rise (sym is) (filter_rises (has_node (those test first xs)) nodes rise); same = λ k. refl })
    (λ k. ap (λ l. has_node l k) is ∙ has_filtered (has_node (those test first xs)) k nodes ∙ within (has_node nodes k) (has_node (those test first xs) k) (all k))

-- lists that are those hold them
pub hold_all : {A : Type 0} (about : A → ℕ → Bool) (first : ℕ) (things : List A) (count : ℕ) (lists : List (Vec NodeId Global)) → AreLists (λ k. those (λ thing. about thing k) first things) count lists → HoldThose true about first things count lists
hold_all about first things count lists are = record {
  as_long = are.as_long;
  rise = λ k within. subst Rise (sym (are.each k within)) (those_rising (λ thing. about thing k) things first);
  all = λ k n within there. ap (λ l. has_node l n) (are.each k within) ∙ there;
  exactly = λ _ k within. are.each k within;
}
