-- What the rows of a plan take. A figure is none exactly where one of its operands is none, or where it is itself past the
-- limits of fractions.
use Rattle.std.specs.Prelude.{ℕ, ◌+◌, ◌-◌, ◌/◌, ℤ, pos, negsuc, List, [], ◌∷◌, Option, Some, None, Result, Ok, Err, if◌then◌else◌}
use Rattle.std.specs.Prelude.{neg_ℤ}
use Rattle.fractions.specs.Fraction.{Fraction, ◌+ʳ◌, ◌*ʳ◌, whole_fraction, zero_fraction}
use Rattle.game_types.specs.declared.effects.Effects.{Effects}
use Rattle.game_types.specs.declared.effects.Rates.{Rates}
use Rattle.game_types.specs.declared.effects.Wide.{Wide}
use Rattle.game_types.specs.Steps.{do_fit, is_narrow}
use Rattle.linear_table.specs.declared.SolveAnswer.{SolveAnswer}
use Rattle.linear_table.specs.declared.SolveAnswer.TheVariants.{Planned, Infeasible, TooWide, OutOfBudget}
use Rattle.plan_lines.specs.declared.reply.Figures.{Figures}

-- ---- figures of figures
abbrev pub Figure : Type 0
Figure = Option Fraction

-- the product, and the sum, within the limits of fractions
unfoldable pub product : Fraction → Fraction → Figure
product x y = if is_narrow (x *ʳ y) then Some (x *ʳ y) else None

unfoldable pub total : Fraction → Fraction → Figure
total x y = if do_fit x y then Some (x +ʳ y) else None

abbrev pub times : Figure → Fraction → Figure
times None y = None
times (Some x) y = product x y

abbrev pub plus : Figure → Figure → Figure
plus None y = None
plus (Some x) None = None
plus (Some x) (Some y) = total x y

-- the least whole number that isn't below
abbrev pub quotient_up : ℤ → ℕ → ℤ
quotient_up (pos n) d = pos ((n + (d - 1)) / d)
quotient_up (negsuc n) d = neg_ℤ (pos ((n + 1) / d))

unfoldable pub ceiling : Fraction → Fraction
ceiling x = whole_fraction (quotient_up x.num x.den)

abbrev pub rounded_up : Figure → Figure
rounded_up None = None
rounded_up (Some x) = Some (ceiling x)

-- ---- a row
abbrev pub no_figures : Figures
no_figures = record { machines = None; count = None; power = None; drain = None; beacons = None; pollution = None }

-- the whole machines, and what they take beside the power that they use
abbrev pub counted : Figure → Figure → Figure → Figure → Rates → Fraction → Figures
counted machines count power pollution rates beacons = record {
  machines = machines;
  count = count;
  power = power;
  drain = times count rates.drain;
  beacons = times count beacons;
  pollution = pollution;
}

-- Of a row's rates for one craft a second and the rate of its plan: the machines, those rounded up, the power that they use,
-- the drain and the power of beacons of the whole machines, and the pollution.
abbrev pub figures_at : Fraction → Effects × Rates × Fraction → Figures
figures_at rate row =
    counted (product rate row.1.machines) (rounded_up (product rate row.1.machines)) (product rate row.1.power) (product rate row.1.pollution) row.1 row.2

abbrev pub figures_where : Fraction → Result (Effects × Rates × Fraction) Wide → Figures
figures_where rate (Ok row) = figures_at rate row
figures_where rate (Err wide) = no_figures

-- ---- the rows of a plan, whose rates begin with those of its rows, of what each row takes for one craft a second
unfoldable pub rows_figures : List (Result (Effects × Rates × Fraction) Wide) → List Fraction → List Figures
rows_figures [] rates = []
rows_figures (row ∷ rows) [] = []
rows_figures (row ∷ rows) (rate ∷ rates) = figures_where rate row ∷ rows_figures rows rates

-- ---- all of them: sums in the order of rows from 0, in which machines aren't counted
abbrev pub nothing : Figures
nothing = record {
  machines = Some zero_fraction;
  count = Some zero_fraction;
  power = Some zero_fraction;
  drain = Some zero_fraction;
  beacons = Some zero_fraction;
  pollution = Some zero_fraction;
}

abbrev pub with_figures : Figures → Figures → Figures
with_figures sum row = record sum {
  power = plus sum.power row.power;
  drain = plus sum.drain row.drain;
  beacons = plus sum.beacons row.beacons;
  pollution = plus sum.pollution row.pollution;
}

unfoldable pub summed : Figures → List Figures → Figures
summed sum [] = sum
summed sum (row ∷ rows) = summed (with_figures sum row) rows

-- ---- only a plan has figures
abbrev pub answer_figures : List (Result (Effects × Rates × Fraction) Wide) → SolveAnswer → List Figures
answer_figures rows (Planned plan) = rows_figures rows plan.rates
answer_figures rows (Infeasible prices) = []
answer_figures rows (TooWide trail next place) = []
answer_figures rows (OutOfBudget trail) = []
