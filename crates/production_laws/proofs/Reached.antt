-- A launch is reached exactly where what it takes and its silo are.
use Rattle.std.proofs.Common.{◌≡◌, ◌<◌, ◌+◌, ◌-◌, ◌∙◌, ℕ, zero, suc, Bool, true, false, List, [], ◌∷◌, length, refl, sym, ap, ap₂, subst, arith, eq-eqb}
use Rattle.std.specs.Prelude.{◌&&◌, ◌||◌, ◌==◌, not, nat_lt, Option, Some, filter, map, slice_get, if◌then◌else◌}
use Rattle.std.specs.List.{list_all, list_any, range_with_len}
use Rattle.std.proofs.lemmas.Bool.Decides.{nat_tests}
use Rattle.std.proofs.lemmas.Bool.{and_from, and_parts, or_right}
use Rattle.plan_base.specs.Shape.{node_count}
use Rattle.plan_base.specs.declared.ids.GoodId.{GoodId}
use Rattle.plan_base.specs.declared.ids.NodeId.{NodeId}
use Rattle.plan_base.specs.declared.ids.RecipeId.{RecipeId}
use Rattle.plan_base.proofs.Bools.{or_false, same_tests}
use Rattle.game_types.specs.Lookups.{recipe_at}
use Rattle.game_types.specs.Nodes.{shape_of}
use Rattle.game_types.specs.declared.games.Game.{Game}
use Rattle.game_types.specs.declared.goods.Item.{Item}
use Rattle.game_types.specs.declared.recipes.Recipe.{Recipe}
use Rattle.graph_store.specs.declared.Row.{Row}
use Rattle.graph_store.specs.Members.{named, node}
use Rattle.depend_index.specs.Goods.{first_machine, first_recipe, good_count}
use Rattle.depend_rows.specs.Goods.{bounded_groups, crafters, ingredients, recipe_row}
use Rattle.depend_rows.specs.Rows.{row_of, rows_of}
use Rattle.reach_ranks.specs.Rounds.{IsWhole, Nodes, World, admits, has_groups, is_barred, is_granted, reach, world}
use Rattle.reach_ranks.proofs.RoundLemmas.{round-suc, settled}
use Rattle.rocket_launches.specs.Launches.{recipe_with}
use Rattle.rocket_launches.specs.declared.silos.Silo.{Silo}
use Rattle.production_laws.specs.Reached.{IsLaunchOf, IsReachedByParts, LeavesUnmarked}

-- ---- what can be reached comes in after itself
admitted : (w : World) → IsWhole w → (n : ℕ) → reach w n ≡ admits w (reach w) n
unfolding reach
admitted w whole n = sym ((settled w whole).same n) ∙ round-suc w (length w.rows) n

by_groups : (w : World) → IsWhole w → (n : ℕ) (row : Row) → is_barred w n ≡ false → is_granted w n ≡ false → slice_get w.rows n ≡ Some row → reach w n ≡ has_groups (reach w) (Some row)
unfolding admits
by_groups w whole n row allowed not_given at =
    admitted w whole n
    ∙ (ap (λ (b : Bool). not b && (is_granted w n || has_groups (reach w) (slice_get w.rows n))) allowed
    ∙ (ap (λ (b : Bool). b || has_groups (reach w) (slice_get w.rows n)) not_given
    ∙ ap (λ (o : Option Row). has_groups (reach w) o) at))

-- ---- the row of a node
nth_row : (f : ℕ → Row) (n low k : ℕ) → k < n → slice_get (map f (range_with_len low n)) k ≡ Some (f (low + k))
nth_row f zero low k within = absurd (omega (arith, within))
nth_row f (suc n) low zero within = ap (λ (m : ℕ). Some (f m)) (omega arith)
nth_row f (suc n) low (suc k) within =
    let same : low + 1 + k ≡ low + suc k = omega arith in
    nth_row f n (low + 1) k (omega (arith, within)) ∙ ap (λ (m : ℕ). Some (f m)) same

row_at : (g : Game) (n : ℕ) → n < node_count (shape_of g) → slice_get (rows_of g) n ≡ Some (row_of g n)
unfolding rows_of
row_at g n within = nth_row (row_of g) (node_count (shape_of g)) 0 n within ∙ ap (λ (m : ℕ). Some (row_of g m)) (omega arith)

launch_row : (g : Game) (recipe : RecipeId) → recipe.0 < length g.recipes → row_of g (first_recipe g + recipe.0) ≡ recipe_row g recipe.0 (recipe_at g recipe)
unfolding row_of
launch_row g recipe there =
    let special : nat_lt (first_recipe g + recipe.0) 3 ≡ false = grind (arith, nat_tests) in
    let good : nat_lt (first_recipe g + recipe.0) (first_recipe g) ≡ false = grind (arith, nat_tests) in
    let is : nat_lt (first_recipe g + recipe.0) (3 + length g.items + length g.fluids + length g.recipes) ≡ true = grind (arith, nat_tests) in
    let number : first_recipe g + recipe.0 - first_recipe g ≡ recipe.0 = omega arith in
    rw (special, good, is, number) refl

-- ---- nodes that are named
-- the kept of a range, one by one
all_kept : (set : Nodes) (f : ℕ → NodeId) (p : ℕ → Bool) (ks : List ℕ) → list_all (λ m. set m.0) (map f (filter p ks)) ≡ list_all (λ k. not (p k) || set (f k).0) ks
all_kept set f p [] = refl
all_kept set f p (k ∷ ks) = by_test (p k) ∙ ap (λ (b : Bool). (not (p k) || set (f k).0) && b) (all_kept set f p ks)
  where
    by_test : (b : Bool) → list_all (λ m. set m.0) (map f (if b then k ∷ filter p ks else filter p ks)) ≡ ((not b || set (f k).0) && list_all (λ m. set m.0) (map f (filter p ks)))
    by_test true = refl
    by_test false = refl

any_kept : (set : Nodes) (f : ℕ → NodeId) (p : ℕ → Bool) (ks : List ℕ) → list_any (λ m. set m.0) (map f (filter p ks)) ≡ list_any (λ k. p k && set (f k).0) ks
any_kept set f p [] = refl
any_kept set f p (k ∷ ks) = by_test (p k) ∙ ap (λ (b : Bool). (p k && set (f k).0) || b) (any_kept set f p ks)
  where
    by_test : (b : Bool) → list_any (λ m. set m.0) (map f (if b then k ∷ filter p ks else filter p ks)) ≡ ((b && set (f k).0) || list_any (λ m. set m.0) (map f (filter p ks)))
    by_test true = refl
    by_test false = refl

range_holds : (t : ℕ → Bool) (n low : ℕ) → ((k : ℕ) → t k ≡ true) → list_all t (range_with_len low n) ≡ true
range_holds t zero low each = refl
range_holds t (suc n) low each = and_from (t low) (list_all t (range_with_len (low + 1) n)) (each low) (range_holds t n (low + 1) each)

range_at : (t : ℕ → Bool) (n low k : ℕ) → list_all t (range_with_len low n) ≡ true → k < n → t (low + k) ≡ true
range_at t zero low k all within = absurd (omega (arith, within))
range_at t (suc n) low zero all within = let same : low ≡ low + 0 = omega arith in subst (λ (m : ℕ). t m ≡ true) same (and_parts (t low) (list_all t (range_with_len (low + 1) n)) all).0
range_at t (suc n) low (suc k) all within =
    let same : low + 1 + k ≡ low + suc k = omega arith in
    subst (λ (m : ℕ). t m ≡ true) same (range_at t n (low + 1) k (and_parts (t low) (list_all t (range_with_len (low + 1) n)) all).1 (omega (arith, within)))

none_in : (t : ℕ → Bool) (n low s : ℕ) → s < low → ((k : ℕ) → (s == k) ≡ false → t k ≡ false) → list_any t (range_with_len low n) ≡ false
none_in t zero low s past others = refl
none_in t (suc n) low s past others =
    let apart : (s == low) ≡ false = grind (arith, nat_tests) in
    ap (λ (b : Bool). b || list_any t (range_with_len (low + 1) n)) (others low apart) ∙ none_in t n (low + 1) s (omega (arith, past)) others

one_in : (t : ℕ → Bool) (n low k : ℕ) → k < n → ((m : ℕ) → (low + k == m) ≡ false → t m ≡ false) → list_any t (range_with_len low n) ≡ t (low + k)
one_in t zero low k within others = absurd (omega (arith, within))
one_in t (suc n) low zero within others =
    let same : low ≡ low + 0 = omega arith in
    ap (λ (b : Bool). t low || b) (none_in t n (low + 1) (low + 0) (omega arith) others) ∙ (or_false (t low) ∙ ap t same)
one_in t (suc n) low (suc k) within others =
    let apart : (low + suc k == low) ≡ false = grind (arith, nat_tests) in
    let same : low + 1 + k ≡ low + suc k = omega arith in
    ap (λ (b : Bool). b || list_any t (range_with_len (low + 1) n)) (others low apart)
    ∙ (one_in t n (low + 1) k (omega (arith, within)) (λ m other. others m (subst (λ (x : ℕ). (x == m) ≡ false) same other)) ∙ ap t same)

same_number : (b : Bool) (m n : ℕ) → (m == n) ≡ b → b ≡ true → m ≡ n
same_number b m n is yes_ = grind (arith, nat_tests)

range_held : (t : ℕ → Bool) (n k : ℕ) → list_all t (range_with_len 0 n) ≡ true → k < n → t k ≡ true
range_held t n k all within = let same : 0 + k ≡ k = omega arith in subst (λ (m : ℕ). t m ≡ true) same (range_at t n 0 k all within)

range_one : (t : ℕ → Bool) (n k : ℕ) → k < n → ((m : ℕ) → (k == m) ≡ false → t m ≡ false) → list_any t (range_with_len 0 n) ≡ t k
range_one t n k within others =
    let same : 0 + k ≡ k = omega arith in
    one_in t n 0 k within (λ m other. others m (subst (λ (x : ℕ). (x == m) ≡ false) same other)) ∙ ap t same

-- all of two numbers
all_named : (set : Nodes) (first count one two : ℕ) → one < count → two < count → list_all (λ m. set m.0) (named first count (one ∷ two ∷ [])) ≡ (set (first + one) && set (first + two))
all_named set first count one two there also =
    let p : ℕ → Bool = λ k. (one == k) || ((two == k) || false) in
    let t : ℕ → Bool = λ k. not (p k) || set (first + k) in
    all_kept set (λ k. node (first + k)) p (range_with_len 0 count)
    ∙ same_tests (list_all t (range_with_len 0 count)) (set (first + one) && set (first + two))
    (λ all. and_from (set (first + one)) (set (first + two)) (held one (first_named one two) (range_held t count one all there)) (held two (second_named one two) (range_held t count two all also)))
    (λ both. range_holds t count 0 (λ k. of_both k (and_parts (set (first + one)) (set (first + two)) both) (one == k) refl (two == k) refl))
  where
    first_named : (one two : ℕ) → ((one == one) || ((two == one) || false)) ≡ true
    first_named one two = ap (λ (b : Bool). b || ((two == one) || false)) (eq-eqb one one refl)

    second_named : (one two : ℕ) → ((one == two) || ((two == two) || false)) ≡ true
    second_named one two = by_first (one == two) ∙ eq-eqb two two refl
      where
        by_first : (b : Bool) → (b || ((two == two) || false)) ≡ (two == two)
        by_first true = sym (eq-eqb two two refl)
        by_first false = or_false (two == two)

    held : (k : ℕ) → ((one == k) || ((two == k) || false)) ≡ true → (not ((one == k) || ((two == k) || false)) || set (first + k)) ≡ true → set (first + k) ≡ true
    held k named_is kept = ap (λ (b : Bool). not b || set (first + k)) (sym named_is) ∙ kept

    of_both : (k : ℕ) → (set (first + one) ≡ true) × (set (first + two) ≡ true) → (b : Bool) → (one == k) ≡ b → (c : Bool) → (two == k) ≡ c → (not ((one == k) || ((two == k) || false)) || set (first + k)) ≡ true
    of_both k both true is c other = ap (λ (m : ℕ). not ((one == k) || ((two == k) || false)) || set (first + m)) (sym (same_number true one k is refl)) ∙ (ap (λ (b : Bool). not ((one == k) || ((two == k) || false)) || b) both.0 ∙ or_right (not ((one == k) || ((two == k) || false))) true refl)
    of_both k both false is true other = ap (λ (m : ℕ). not ((one == k) || ((two == k) || false)) || set (first + m)) (sym (same_number true two k other refl)) ∙ (ap (λ (b : Bool). not ((one == k) || ((two == k) || false)) || b) both.1 ∙ or_right (not ((one == k) || ((two == k) || false))) true refl)
    of_both k both false is false other = rw (is, other) refl

-- any of one number
any_named : (set : Nodes) (first count one : ℕ) → one < count → list_any (λ m. set m.0) (named first count (one ∷ [])) ≡ set (first + one)
any_named set first count one there =
    let t : ℕ → Bool = λ k. ((one == k) || false) && set (first + k) in
    any_kept set (λ k. node (first + k)) (λ k. (one == k) || false) (range_with_len 0 count)
    ∙ (range_one t count one there (λ m other. ap (λ (b : Bool). (b || false) && set (first + m)) other)
    ∙ ap (λ (b : Bool). (b || false) && set (first + one)) (eq-eqb one one refl))

-- ---- what a launch needs
needs : (set : Nodes) (g : Game) (number : ℕ) (silo : Silo) (cargo : GoodId) (item : Item) → cargo.0 < good_count g → silo.part.0 < good_count g → silo.machine.0 < length g.machines
    → has_groups set (Some (recipe_row g number (recipe_with silo cargo item))) ≡ (set (3 + cargo.0) && (set (3 + silo.part.0) && set (first_machine g + silo.machine.0)))
unfolding recipe_row recipe_with ingredients bounded_groups crafters
needs set g number silo cargo item cargo_there part_there silo_there =
    ap₂ (λ (a b : Bool). a && (b && true)) (all_named set 3 (good_count g) cargo.0 silo.part.0 cargo_there part_there) (any_named set (first_machine g) (length g.machines) silo.machine.0 silo_there)
    ∙ together (set (3 + cargo.0)) (set (3 + silo.part.0)) (set (first_machine g + silo.machine.0))
  where
    together : (a b c : Bool) → ((a && b) && (c && true)) ≡ (a && (b && c))
    together true true true = refl
    together true true false = refl
    together true false c = refl
    together false b c = refl

pub launch_reached : (g : Game) (barred granted : List Bool) (extra : Option NodeId) (recipe : RecipeId) (silo : Silo) (cargo : GoodId) (item : Item) → IsLaunchOf g recipe silo cargo item → LeavesUnmarked g barred granted extra recipe
    → IsReachedByParts (world (rows_of g) barred granted extra) g recipe silo cargo
launch_reached g barred granted extra recipe silo cargo item is plain =
    let w : World = world (rows_of g) barred granted extra in
    let n : ℕ = first_recipe g + recipe.0 in
    let inside : n < node_count (shape_of g) = omega (arith, is.there) in
    let there : cargo.0 < good_count g = omega (arith, is.cargo_there) in
    by_groups w plain.whole n (row_of g n) plain.allowed plain.not_given (row_at g n inside)
    ∙ (ap (λ (row : Row). has_groups (reach w) (Some row)) (launch_row g recipe is.there ∙ ap (λ (r : Recipe). recipe_row g recipe.0 r) is.launch)
    ∙ needs (reach w) g recipe.0 silo cargo item there is.part_there is.silo_there)
