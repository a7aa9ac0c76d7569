-- The fuels of several categories.
use Rattle.std.proofs.Common.{◌≡◌, ◌∙◌, ◌<◌, ◌≤◌, ◌+◌, ◌++◌, ℕ, Bool, true, false, List, [], ◌∷◌, Vec, length, map, drop, get_or, refl, ap, sym, arith, append_assoc, append-nil}
use Rattle.std.specs.Prelude.{◌==◌, ◌||◌, ◌&&◌, Option, Some, None}
use Rattle.std.specs.Global.{Global}
use Rattle.std.specs.List.{list_any}
use Rattle.plan_base.specs.declared.ids.NodeId.{NodeId}
use Rattle.plan_base.proofs.Walks.{next, drop_all}
use Rattle.game_types.specs.Making.{holds}
use Rattle.fractions.specs.Signs.{is_positive}
use Rattle.game_types.specs.declared.goods.Fuel.{Fuel}
use Rattle.game_types.specs.declared.goods.Item.{Item}
use Rattle.graph_store.specs.Members.{those}
use Rattle.depend_index.specs.Kinds.{is_fuel_of}
use Rattle.depend_rows.specs.Machines.{is_fuel_in}
use Rattle.graph_store.specs.Lists.{is_among, list_at, numbers_at, AreAllLists, HoldInOrder}
use Rattle.depend_rows.proofs.CraftLemmas.{none_of}
use Rattle.depend_index.proofs.KeyLemmas.{is_among-append}
use Rattle.graph_store.proofs.OrderLemmas.{among_either, in_order_those, numbers_of, those_same}

pub numbers_more : (lists : List (Vec NodeId Global)) (ks : List ℕ) (i x : ℕ) (numbers new : List ℕ) → i < length ks → x ≡ get_or ks i x → new ≡ numbers ++ map (λ n. n.0) (list_at lists x)
    → numbers ++ numbers_at lists (drop i ks) ≡ numbers_at lists ks → new ++ numbers_at lists (drop (i + 1) ks) ≡ numbers_at lists ks
unfolding numbers_at
numbers_more lists ks i x numbers new within is put before =
    ap (λ l. l ++ numbers_at lists (drop (i + 1) ks)) put ∙ append_assoc numbers (map (λ n. n.0) (list_at lists x)) (numbers_at lists (drop (i + 1) ks))
    ∙ ap (λ l. numbers ++ numbers_at lists l) (sym (next ks i x within is)) ∙ before

pub numbers_last : (lists : List (Vec NodeId Global)) (ks : List ℕ) (i : ℕ) (numbers : List ℕ) → length ks ≤ i → numbers ++ numbers_at lists (drop i ks) ≡ numbers_at lists ks → numbers ≡ numbers_at lists ks
unfolding numbers_at
numbers_last lists ks i numbers end before = sym (append-nil numbers) ∙ ap (λ l. numbers ++ numbers_at lists l) (sym (drop_all ks i end)) ∙ before

turned : (m n : ℕ) → (m == n) ≡ (n == m)
turned m n = by_same (m == n) refl
  where
    by_same : (b : Bool) → (m == n) ≡ b → (m == n) ≡ (n == m)
    by_same true is = grind (arith, is)
    by_same false is = grind (arith, is)

spread : (a b p : Bool) → ((a || b) && p) ≡ ((a && p) || (b && p))
spread true true true = refl
spread true true false = refl
spread true false true = refl
spread true false false = refl
spread false b p = refl

-- a fuel is of some categories where it is of one of them
any_category : (fuel : Option Fuel) → (categories : List ℕ) → is_fuel_in categories fuel ≡ list_any (λ c. is_fuel_of fuel c) categories
any_category None [] = refl
any_category None (c ∷ categories) = any_category None categories
any_category (Some fuel) [] = refl
any_category (Some fuel) (c ∷ categories) =
    spread (c == fuel.category) (holds categories fuel.category) (is_positive fuel.value)
    ∙ ap (λ b. (b && is_positive fuel.value) || (holds categories fuel.category && is_positive fuel.value)) (turned c fuel.category)
    ∙ ap (λ b. is_fuel_of (Some fuel) c || b) (any_category (Some fuel) categories)

among_lists : (lists : List (Vec NodeId Global)) (items : List Item) (k : ℕ) → AreAllLists (λ category. those (λ item. is_fuel_of item.fuel category) 3 items) lists → (categories : List ℕ)
    → is_among (numbers_at lists categories) k ≡ is_among (numbers_of (those (λ item. list_any (λ c. is_fuel_of item.fuel c) categories) 3 items)) k
unfolding numbers_at
among_lists lists items k are [] = ap (λ l. is_among (numbers_of l) k) (sym (none_of items 3))
among_lists lists items k are (c ∷ categories) =
    is_among-append (numbers_of (list_at lists c)) (numbers_at lists categories) k
    ∙ ap (λ l. is_among (numbers_of l) k || is_among (numbers_at lists categories) k) (are c)
    ∙ ap (λ b. is_among (numbers_of (those (λ (item : Item). is_fuel_of item.fuel c) 3 items)) k || b) (among_lists lists items k are categories)
    ∙ sym (among_either (λ (item : Item). is_fuel_of item.fuel c) (λ (item : Item). list_any (λ c. is_fuel_of item.fuel c) categories) k items 3)

same_fuel : (categories different : List ℕ) → ((k : ℕ) → is_among different k ≡ is_among categories k) → (fuel : Option Fuel) → is_fuel_in categories fuel ≡ is_fuel_in different fuel
same_fuel categories different same None = refl
same_fuel categories different same (Some fuel) = ap (λ b. b && is_positive fuel.value) (sym (same fuel.category))

-- the fuels of different categories are those of the categories
pub fuels_union : (lists : List (Vec NodeId Global)) (items : List Item) (categories different : List ℕ) (nodes : List NodeId)
    → AreAllLists (λ category. those (λ item. is_fuel_of item.fuel category) 3 items) lists → ((k : ℕ) → is_among different k ≡ is_among categories k)
    → HoldInOrder (numbers_at lists different) nodes → nodes ≡ those (λ item. is_fuel_in categories item.fuel) 3 items
fuels_union lists items categories different nodes are same held =
    in_order_those (λ (item : Item). is_fuel_in categories item.fuel) 3 items (numbers_at lists different) nodes held (λ k.
    among_lists lists items k are different
    ∙ ap (λ l. is_among (numbers_of l) k) (sym (those_same (λ (item : Item). is_fuel_in categories item.fuel) (λ (item : Item). list_any (λ c. is_fuel_of item.fuel c) different)
    (λ item. same_fuel categories different same item.fuel ∙ any_category item.fuel different) items 3)))
