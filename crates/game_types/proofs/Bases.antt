-- An item is no base.
use Rattle.std.proofs.Common.{◌≡◌, ◌<◌, ◌≤◌, ℕ, List, [], ◌∷◌, length, refl, arith}
use Rattle.std.specs.Prelude.{All, IfSome, false, ◌==◌, Option, Some, None}
use Rattle.std.specs.List.{list_any}
use Rattle.std.proofs.lemmas.Bool.Decides.{nat_tests}
use Rattle.std.proofs.lemmas.List.Elements.{All-head, All-tail}
use Rattle.std.proofs.lemmas.Bool.{or_from}
use Rattle.plan_base.specs.declared.ids.GoodId.{GoodId}
use Rattle.game_types.specs.declared.games.Game.{Game}
use Rattle.game_types.specs.declared.goods.Fluid.{Fluid}
use Rattle.game_types.specs.Sound.{IsBase, IsSound, IsSoundFluid}
use Rattle.game_types.specs.Temperatures.{is_base, is_good}

no_base_of : (g : Game) (good : ℕ) (o : Option GoodId) → good < length g.items → IfSome o (IsBase g) → is_good o good ≡ false
no_base_of g good None h k = refl
no_base_of g good (Some base) h k = let up : length g.items ≤ base.0 = k.0 in grind (arith, nat_tests)

none_base : (g : Game) (good : ℕ) (fluids : List Fluid) → good < length g.items → All (IsSoundFluid g) fluids → list_any (λ fluid. is_good fluid.of good) fluids ≡ false
none_base g good [] h each = refl
none_base g good (fluid ∷ fluids) h each =
    or_from (is_good fluid.of good) (list_any (λ f. is_good f.of good) fluids) (no_base_of g good fluid.of h (All-head (IsSoundFluid g) fluid fluids each)) (none_base g good fluids h (All-tail (IsSoundFluid g) fluid fluids each))

pub no_base : (g : Game) (good : ℕ) → IsSound g → good < length g.items → is_base g good ≡ false
unfolding is_base
no_base g good sound h = none_base g good g.fluids h sound.fluids
