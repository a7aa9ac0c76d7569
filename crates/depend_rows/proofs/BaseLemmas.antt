-- A base is what has variants.
use Rattle.std.proofs.Common.{◌≡◌, ◌∙◌, ◌<◌, ◌+◌, ℕ, Bool, true, false, List, [], ◌∷◌, length, refl, ap, arith}
use Rattle.std.specs.Prelude.{nat_lt, ◌||◌, if◌then◌else◌}
use Rattle.std.specs.List.{list_any}
use Rattle.std.proofs.lemmas.Bool.Decides.{nat_tests}
use Rattle.game_types.specs.Temperatures.{is_base, is_good}
use Rattle.game_types.specs.declared.games.Game.{Game}
use Rattle.graph_store.specs.Members.{node, those}
use Rattle.graph_store.specs.Lists.{list_at}
use Rattle.depend_index.specs.Goods.{good_count, variants}
use Rattle.depend_index.specs.Indexed.{IsIndex}
use Rattle.depend_index.specs.declared.index.Index.{Index}

some_those : {A : Type 0} (test : A → Bool) (first : ℕ) (xs : List A) → nat_lt 0 (length (those test first xs)) ≡ list_any test xs
some_those test first [] = refl
some_those test first (x ∷ xs) = by_test (test x) (some_those test (first + 1) xs)
  where
    by_test : (b : Bool) → nat_lt 0 (length (those test (first + 1) xs)) ≡ list_any test xs → nat_lt 0 (length (if b then node first ∷ those test (first + 1) xs else those test (first + 1) xs)) ≡ (b || list_any test xs)
    by_test true rest = grind (arith, nat_tests)
    by_test false rest = rest

pub base_has_variants : (g : Game) (index : Index) (good : ℕ) → IsIndex g index → good < good_count g → nat_lt 0 (length (list_at index.variants.items good)) ≡ is_base g good
unfolding is_base variants
base_has_variants g index good is within = ap (λ nodes. nat_lt 0 (length nodes)) (is.variants.each good within) ∙ some_those (λ fluid. is_good fluid.of good) (3 + length g.items) g.fluids
