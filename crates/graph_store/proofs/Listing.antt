-- Lists by number, extended node by node.
use Rattle.std.proofs.Common.{◌≡◌, ◌≢◌, ◌∙◌, ◌<◌, ◌≤◌, ◌+◌, ◌++◌, ℕ, zero, suc, Bool, true, false, List, [], ◌∷◌, Vec, length, drop, set, get_or, refl, ap, sym, subst, arith, append_assoc, append-nil, get_or-set_same, get_or-set_other}
use Rattle.std.specs.Prelude.{◌==◌, ◌||◌, if◌then◌else◌, nat_lt}
use Rattle.std.specs.List.{list_any}
use Rattle.std.specs.List.Sorted.{IsStrictlyIncreasing}
use Rattle.std.proofs.lemmas.Bool.Decides.{nat_tests}
use Rattle.std.proofs.lemmas.List.{map-set}
use Rattle.std.specs.Global.{Global}
use Rattle.plan_base.specs.declared.ids.NodeId.{NodeId}
use Rattle.plan_base.proofs.Walks.{next, drop_all}
use Rattle.graph_store.specs.Members.{node, those}
use Rattle.graph_store.specs.Lists.{contents, is_among, list_at, AreAllLists, AreLists, Extends}
use Rattle.graph_store.proofs.NumbersLemmas.{once}
use Rattle.graph_store.proofs.Walks.{chosen}

contents_at : (lists : List (Vec NodeId Global)) (place : ℕ) (list : Vec NodeId Global) → place < length lists → list ≡ get_or lists place list → get_or (contents lists) place [] ≡ list.items
contents_at [] place list within is = absurd (omega (arith, within))
contents_at (first ∷ lists) zero list within is = ap (λ l. l.items) (sym is)
contents_at (first ∷ lists) (suc place) list within is = contents_at lists place list (omega (arith, within)) is

pub list_is : (lists : List (Vec NodeId Global)) (place : ℕ) (list : Vec NodeId Global) → place < length lists → list ≡ get_or lists place list → list.items ≡ list_at lists place
list_is lists place list within is = sym (contents_at lists place list within is)

pub contents_put : (lists : List (Vec NodeId Global)) (place : ℕ) (n : NodeId) (list new : Vec NodeId Global) → place < length lists → list ≡ get_or lists place list → new.items ≡ list.items ++ n ∷ []
    → contents (set lists place new) ≡ set (contents lists) place (get_or (contents lists) place [] ++ n ∷ [])
contents_put lists place n list new within is put =
    map-set (λ l. l.items) lists place new ∙ ap (λ items. set (contents lists) place items) (put ∙ ap (λ items. items ++ n ∷ []) (sym (contents_at lists place list within is)))

pub length_contents : (lists : List (Vec NodeId Global)) → length (contents lists) ≡ length lists
length_contents [] = refl
length_contents (list ∷ lists) = ap suc (length_contents lists)

-- a node, where it belongs
abbrev pub one_where : Bool → NodeId → List NodeId
one_where b n = if b then n ∷ [] else []

-- the lists so far, with the node for the numbers that are to come
pub record PushedSoFar (numbers : List ℕ) (n : NodeId) (old : List (Vec NodeId Global)) (i : ℕ) (lists : List (Vec NodeId Global)) : Type 0 where
  pub as_long : length lists ≡ length old
  pub each : (k : ℕ) → k < length old → list_at lists k ++ one_where (is_among (drop i numbers) k) n ≡ list_at old k ++ one_where (is_among numbers k) n

pub pushed_first : (numbers : List ℕ) (n : NodeId) (old : List (Vec NodeId Global)) → PushedSoFar numbers n old 0 old
pushed_first numbers n old = record { as_long = refl; each = λ k _. refl }

pub pushed_last : (numbers : List ℕ) (n : NodeId) (old : List (Vec NodeId Global)) (i : ℕ) (lists : List (Vec NodeId Global)) → length numbers ≤ i → PushedSoFar numbers n old i lists
    → Extends (λ k. if is_among numbers k then n ∷ [] else []) old lists
pushed_last numbers n old i lists end before = record {
  as_long = before.as_long;
  each = λ k within. sym (append-nil (list_at lists k)) ∙ ap (λ rest. list_at lists k ++ one_where (is_among rest k) n) (sym (drop_all numbers i end)) ∙ before.each k within;
}

-- a number that has no list
pub pushed_past : (numbers : List ℕ) (n : NodeId) (old : List (Vec NodeId Global)) (i x : ℕ) (lists : List (Vec NodeId Global)) → i < length numbers → x ≡ get_or numbers i x → length lists ≤ x
    → PushedSoFar numbers n old i lists → PushedSoFar numbers n old (i + 1) lists
pushed_past numbers n old i x lists within is past before = record {
  as_long = before.as_long;
  each = λ k small.
      let other : (x == k) ≡ false = grind (arith, past, small, before.as_long) in
      ap (λ b. list_at lists k ++ one_where (b || is_among (drop (i + 1) numbers) k) n) (sym other) ∙ ap (λ rest. list_at lists k ++ one_where (is_among rest k) n) (sym (next numbers i x within is)) ∙ before.each k small;
}

pushed_at : (n : NodeId) (rest : List ℕ) (lists new : List (Vec NodeId Global)) (x k : ℕ) → x < length lists → contents new ≡ set (contents lists) x (get_or (contents lists) x [] ++ n ∷ []) → is_among rest x ≡ false
    → (b : Bool) → (x == k) ≡ b → list_at new k ++ one_where (is_among rest k) n ≡ list_at lists k ++ one_where (b || is_among rest k) n
pushed_at n rest lists new x k within put none true is =
    let at : x ≡ k = grind (arith, is) in
    let inside : x < length (contents lists) = omega (arith, within, length_contents lists) in
    let same : list_at new x ≡ list_at lists x ++ n ∷ [] = ap (λ l. get_or l x []) put ∙ rw get_or-set_same in
    subst (λ j. list_at new j ++ one_where (is_among rest j) n ≡ list_at lists j ++ n ∷ []) at
    (ap (λ b. list_at new x ++ one_where b n) none ∙ append-nil (list_at new x) ∙ same)
pushed_at n rest lists new x k within put none false is =
    let other : k ≢ x = λ at. grind (arith, is, at) in
    let same : list_at new k ≡ list_at lists k = ap (λ l. get_or l k []) put ∙ rw get_or-set_other in
    ap (λ l. l ++ one_where (is_among rest k) n) same

pub pushed_more : (numbers : List ℕ) (n : NodeId) (old : List (Vec NodeId Global)) (i x : ℕ) (lists new : List (Vec NodeId Global)) → IsStrictlyIncreasing numbers → i < length numbers → x ≡ get_or numbers i x → x < length lists
    → length new ≡ length lists → contents new ≡ set (contents lists) x (get_or (contents lists) x [] ++ n ∷ [])
    → PushedSoFar numbers n old i lists → PushedSoFar numbers n old (i + 1) new
pushed_more numbers n old i x lists new rises within is inside long put before = record {
  as_long = long ∙ before.as_long;
  each = λ k small.
      pushed_at n (drop (i + 1) numbers) lists new x k inside put (once x numbers i (drop (i + 1) numbers) rises (next numbers i x within is)) (x == k) refl
      ∙ ap (λ rest. list_at lists k ++ one_where (is_among rest k) n) (sym (next numbers i x within is)) ∙ before.each k small;
}

-- the lists so far, with the nodes of the things that are to come
pub record ExtendedSoFar {A : Type 0} (about : A → ℕ → Bool) (first : ℕ) (things : List A) (old : List (Vec NodeId Global)) (i n : ℕ) (lists : List (Vec NodeId Global)) : Type 0 where
  pub number : n ≡ first + i
  pub as_long : length lists ≡ length old
  pub each : (k : ℕ) → k < length old → list_at lists k ++ those (λ thing. about thing k) n (drop i things) ≡ list_at old k ++ those (λ thing. about thing k) first things

pub extended_first : {A : Type 0} (about : A → ℕ → Bool) (first : ℕ) (things : List A) (old : List (Vec NodeId Global)) → ExtendedSoFar about first things old 0 first old
extended_first about first things old = record { number = omega arith; as_long = refl; each = λ k _. refl }

pub extended_more : {A : Type 0} (about : A → ℕ → Bool) (first : ℕ) (things : List A) (old : List (Vec NodeId Global)) (i n : ℕ) (x : A) (keys distinct : List ℕ) (lists new : List (Vec NodeId Global))
    → i < length things → x ≡ get_or things i x → ((k : ℕ) → is_among keys k ≡ about x k) → ((k : ℕ) → is_among distinct k ≡ is_among keys k)
    → Extends (λ k. if is_among distinct k then node n ∷ [] else []) lists new → ExtendedSoFar about first things old i n lists → ExtendedSoFar about first things old (i + 1) (n + 1) new
extended_more about first things old i n x keys distinct lists new within is tells same more before = record {
  number = omega (arith, before.number);
  as_long = more.as_long ∙ before.as_long;
  each = λ k small.
      ap (λ l. l ++ those (λ thing. about thing k) (n + 1) (drop (i + 1) things)) (more.each k (omega (arith, small, before.as_long)) ∙ ap (λ b. list_at lists k ++ one_where b (node n)) (same k ∙ tells k) ∙ moved (list_at lists k) (node n) (about x k))
      ∙ sym (chosen (λ thing. about thing k) n x (drop (i + 1) things) (list_at lists k) (about x k) refl)
      ∙ ap (λ rest. list_at lists k ++ those (λ thing. about thing k) n rest) (sym (next things i x within is)) ∙ before.each k small;
}
  where
    moved : (l : List NodeId) (m : NodeId) (b : Bool) → l ++ one_where b m ≡ (if b then l ++ m ∷ [] else l)
    moved l m true = refl
    moved l m false = append-nil l

pub extended_last : {A : Type 0} (about : A → ℕ → Bool) (first : ℕ) (things : List A) (old : List (Vec NodeId Global)) (i n : ℕ) (lists : List (Vec NodeId Global)) → length things ≤ i → ExtendedSoFar about first things old i n lists
    → Extends (λ k. those (λ thing. about thing k) first things) old lists
extended_last about first things old i n lists end before = record {
  as_long = before.as_long;
  each = λ k within. sym (append-nil (list_at lists k)) ∙ ap (λ rest. list_at lists k ++ those (λ thing. about thing k) n rest) (sym (drop_all things i end)) ∙ before.each k within;
}

-- empty lists, one by one
pub record EmptySoFar (count : ℕ) (lists : List (Vec NodeId Global)) : Type 0 where
  pub as_long : length lists ≡ count
  pub each : (k : ℕ) → list_at lists k ≡ []

-- lists that hold more than they held
pub extended_lists : (of more : ℕ → List NodeId) (count : ℕ) (old new : List (Vec NodeId Global)) → AreLists of count old → Extends more old new → AreLists (λ k. of k ++ more k) count new
extended_lists of more count old new before after = record {
  as_long = after.as_long ∙ before.as_long;
  each = λ k within. after.each k (omega (arith, within, before.as_long)) ∙ ap (λ l. l ++ more k) (before.each k within);
}

-- more, and then more again
pub extended_twice : (first second : ℕ → List NodeId) (old between new : List (Vec NodeId Global)) → Extends first old between → Extends second between new → Extends (λ k. first k ++ second k) old new
extended_twice first second old between new once_ then_ = record {
  as_long = then_.as_long ∙ once_.as_long;
  each = λ k within. then_.each k (omega (arith, within, once_.as_long)) ∙ ap (λ l. l ++ second k) (once_.each k within) ∙ append_assoc (list_at old k) (first k) (second k);
}

-- ---- the lists of all numbers
-- no thing so far is about a number from an end on
pub record NoneSoFar {A : Type 0} (about : A → ℕ → Bool) (things : List A) (i end : ℕ) : Type 0 where
  pub none : (k : ℕ) → end ≤ k → list_any (λ thing. about thing k) (drop i things) ≡ false → list_any (λ thing. about thing k) things ≡ false

pub none_first : {A : Type 0} (about : A → ℕ → Bool) (things : List A) (end : ℕ) → NoneSoFar about things 0 end
none_first about things end = record { none = λ k _ is. is }

pub none_more : {A : Type 0} (about : A → ℕ → Bool) (things : List A) (i end new : ℕ) (x : A) → i < length things → x ≡ get_or things i x → end ≤ new → ((k : ℕ) → new ≤ k → about x k ≡ false)
    → NoneSoFar about things i end → NoneSoFar about things (i + 1) new
none_more about things i end new x within is more fails before = record {
  none = λ k past rest.
      before.none k (omega (arith, more, past))
      (ap (list_any (λ thing. about thing k)) (next things i x within is) ∙ ap (λ b. b || list_any (λ thing. about thing k) (drop (i + 1) things)) (fails k past) ∙ rest);
}

pub none_last : {A : Type 0} (about : A → ℕ → Bool) (things : List A) (i end : ℕ) → length things ≤ i → NoneSoFar about things i end → (k : ℕ) → end ≤ k → list_any (λ thing. about thing k) things ≡ false
none_last about things i end all before k past = before.none k past (ap (list_any (λ thing. about thing k)) (drop_all things i all))

none_at : (lists : List (Vec NodeId Global)) (k : ℕ) → length lists ≤ k → list_at lists k ≡ []
none_at [] k past = refl
none_at (list ∷ lists) zero past = absurd (omega (arith, past))
none_at (list ∷ lists) (suc k) past = none_at lists k (omega (arith, past))

none_of_those : {A : Type 0} (test : A → Bool) (xs : List A) (first : ℕ) → list_any test xs ≡ false → those test first xs ≡ []
none_of_those test [] first none = refl
none_of_those test (x ∷ xs) first none = by_test (test x) none (none_of_those test xs (first + 1))
  where
    by_test : (b : Bool) → (b || list_any test xs) ≡ false → (list_any test xs ≡ false → those test (first + 1) xs ≡ []) → (if b then node first ∷ those test (first + 1) xs else those test (first + 1) xs) ≡ []
    by_test true none rest = absurd cc
    by_test false none rest = rest none

pub all_lists : {A : Type 0} (about : A → ℕ → Bool) (first : ℕ) (things : List A) (end : ℕ) (lists : List (Vec NodeId Global)) → AreLists (λ k. those (λ thing. about thing k) first things) end lists
    → ((k : ℕ) → end ≤ k → list_any (λ thing. about thing k) things ≡ false) → AreAllLists (λ k. those (λ thing. about thing k) first things) lists
all_lists about first things end lists are none k = by_place (nat_lt k end) refl
  where
    by_place : (b : Bool) → nat_lt k end ≡ b → list_at lists k ≡ those (λ thing. about thing k) first things
    by_place true at = let below : k < end = grind (arith, nat_tests, at) in are.each k below
    by_place false at =
        let past : end ≤ k = grind (arith, nat_tests, at) in
        none_at lists k (omega (arith, past, are.as_long)) ∙ sym (none_of_those (λ thing. about thing k) things first (none k past))
