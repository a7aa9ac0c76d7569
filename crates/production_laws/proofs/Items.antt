-- Of an item, a row's choice is the item itself.
use Rattle.std.proofs.Common.{◌≡◌, ◌∙◌, ◌<◌, ◌≤◌, ℕ, List, [], ◌∷◌, length, refl, ap, arith}
use Rattle.std.specs.Prelude.{All, Bool, true, false, nat_lt, ◌==◌, Option, Some, None, if◌then◌else◌}
use Rattle.std.proofs.lemmas.Bool.Decides.{nat_tests}
use Rattle.std.proofs.lemmas.List.Elements.{All-head, All-tail}
use Rattle.std.proofs.lemmas.Bool.{and_left}
use Rattle.plan_base.specs.declared.ids.GoodId.{GoodId}
use Rattle.game_types.specs.declared.games.Game.{Game}
use Rattle.game_types.specs.Sound.{IsFluid, IsItem, IsSound}
use Rattle.game_types.proofs.Bases.{no_base}
use Rattle.game_types.specs.Temperatures.{choice_of, coolest_fit, first_where, fits_alone, fluid_at, is_base, is_fit, or_else}

-- no fluid of the row's own is a fit
own_fit : (g : Game) (good own : ℕ) → is_base g good ≡ false → (own == good) ≡ false → is_fit g good None None own ≡ false
unfolding is_fit
own_fit g good own base apart = rw (base) (and_left (own == good) (fits_alone None None (fluid_at g good)) apart)

no_own : (g : Game) (good : ℕ) (at : List GoodId) → good < length g.items → is_base g good ≡ false → All (λ own. IsFluid g own.0) at → first_where (λ own. is_fit g good None None own.0) at ≡ None
no_own g good [] h base each = refl
no_own g good (own ∷ at) h base each =
    let fluid : IsFluid g own.0 = All-head (λ (o : GoodId). IsFluid g o.0) own at each in
    let up : length g.items ≤ own.0 = fluid.0 in
    let apart : (own.0 == good) ≡ false = grind (arith, nat_tests) in
    ap (λ (b : Bool). if b then Some own else first_where (λ o. is_fit g good None None o.0) at) (own_fit g good own.0 base apart)
    ∙ no_own g good at h base (All-tail (λ (o : GoodId). IsFluid g o.0) own at each)

-- it is its own fit
pub no_fluid_at : (g : Game) (good : ℕ) → good < length g.items → fluid_at g good ≡ None
unfolding fluid_at
no_fluid_at g good h = let e : nat_lt good (length g.items) ≡ true = grind (arith, nat_tests) in rw (e) refl

itself : (g : Game) (good : ℕ) → good < length g.items → is_base g good ≡ false → coolest_fit g good None None ≡ Some (record { 0 = good })
unfolding coolest_fit
itself g good h base = rw (base, no_fluid_at g good h) refl

pub item_choice : (g : Game) (at : List GoodId) (good : GoodId) → IsSound g → All (λ own. IsFluid g own.0) at → IsItem g good.0 → choice_of g at good.0 None None ≡ Some good
unfolding choice_of
item_choice g at good sound each h =
    let base : is_base g good.0 ≡ false = no_base g good.0 sound h in
    ap (λ (o : Option GoodId). or_else o (coolest_fit g good.0 None None)) (no_own g good.0 at h base each) ∙ itself g good.0 h base
