-- What a unit of each reached good takes, as an estimate, in JSON and as comma-separated values. Nothing is claimed of the estimates
-- themselves (`wish_estimates`).
use Rattle.std.specs.Prelude.{ℕ, zero, suc, Bool, List, [], ◌∷◌, ◌++◌, Option, None, Some, codes, if◌then◌else◌, map}
use Rattle.std.specs.List.{flat_map}
use Rattle.csv.specs.Writing.{default_writer, row_text}
use Rattle.fractions.specs.Fraction.{Fraction}
use Rattle.fractions.specs.Print.{printed}
use Rattle.plan_base.specs.declared.ids.GoodId.{GoodId}
use Rattle.game_types.specs.declared.games.Game.{Game}
use Rattle.serde_json.specs.Data.{Data, no_members, object}
use Rattle.serde_json.specs.Written.{compact_text}
use Rattle.wish_setups.specs.Reach.{is_good_reached}
use Rattle.report_json.specs.Numbers.{decimal_of}
use Rattle.report_json.specs.Values.{good_id, with_figure, with_good}

-- a good with the estimate of a unit, where there is one
abbrev pub Cost : Type 0
Cost = GoodId × Option Fraction

-- the reached goods of so many of the first
abbrev pub one_if_reached : Game → List Bool → ℕ → List GoodId
one_if_reached g reached place = if is_good_reached g reached (record { 0 = place }) then record { 0 = place } ∷ [] else []

unfoldable pub reached_below : Game → List Bool → ℕ → List GoodId
reached_below g reached zero = []
reached_below g reached (suc place) = reached_below g reached place ++ one_if_reached g reached place

abbrev pub goods_of : List Cost → List GoodId
goods_of costs = map (λ cost. cost.0) costs

-- ---- JSON
-- the estimate is a number, or null where there is none
unfoldable pub cost_value : Game → Cost → Data
cost_value g cost = object (with_figure (codes "estimate") cost.1 (with_good (codes "good") g cost.0 no_members))

-- ---- comma-separated values
abbrev pub estimate_fields : Option Fraction → List (List ℕ)
estimate_fields None = [] ∷ [] ∷ []
estimate_fields (Some x) = printed x ∷ decimal_of x ∷ []

abbrev pub cost_fields : Game → Cost → List (List ℕ)
cost_fields g cost = good_id g cost.0 ∷ estimate_fields cost.1

unfoldable pub costs_text : Game → List Cost → List ℕ
costs_text g costs = codes "good,estimate,estimate_decimal\n" ++ flat_map (row_text default_writer) (map (cost_fields g) costs)
