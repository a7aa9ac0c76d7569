-- What a column of a plan gives and takes: each of its parts times its rate.
use Rattle.std.specs.Prelude.{ℕ, List, if◌then◌else◌, map}
use Rattle.fractions.specs.Fraction.{Fraction, ◌*ʳ◌}
use Rattle.fractions.specs.Signs.{is_positive}
use Rattle.game_types.specs.Steps.{is_narrow}
use Rattle.page_parts.specs.declared.amounts.Amount.{Amount}
use Rattle.page_parts.specs.declared.amounts.Amount.TheVariants.{Exact, Wide}
use Rattle.page_parts.specs.declared.amounts.Flow.{Flow}

-- the product, where it is within the limits of fractions
unfoldable pub product : Fraction → Fraction → Amount
product x y = if is_narrow (x *ʳ y) then Exact (x *ʳ y) else Wide

-- the flow of a part at a rate: what it adds to its good
abbrev pub flow_of : Fraction → ℕ × Fraction → Flow
flow_of rate part = record { good = part.0; gives = is_positive part.1; amount = product part.1 rate }

-- those of all parts
abbrev pub flows_of : Fraction → List (ℕ × Fraction) → List Flow
flows_of rate parts = map (flow_of rate) parts
