-- What is reached, and what of it sources give. Nodes are marked by their numbers.
use Rattle.std.specs.Prelude.{ℕ, zero, suc, ◌+◌, ◌==◌, ◌&&◌, ◌||◌, Bool, false, nat_lt, List, length, Option, Some, None, slice_get, slice_index_or, if◌then◌else◌}
use Rattle.std.specs.List.{list_any}
use Rattle.fractions.specs.Signs.{is_positive}
use Rattle.plan_base.specs.Shape.{count_of, first_of}
use Rattle.plan_base.specs.declared.ids.GoodId.{GoodId}
use Rattle.plan_base.specs.declared.shape.Kind.{Kind}
use Rattle.plan_base.specs.declared.shape.Kind.TheVariants.{Source as SourceKind}
use Rattle.game_types.specs.declared.games.Game.{Game}
use Rattle.game_types.specs.declared.recipes.Product.{Product}
use Rattle.game_types.specs.declared.recipes.Source.{Source}
use Rattle.game_types.specs.Goods.{solid_and_fluid}
use Rattle.game_types.specs.Nodes.{shape_of}

-- the thing of a kind at a place is there and reached
abbrev pub is_reached : Game → List Bool → Kind → ℕ → Bool
is_reached g reached kind place =
    if nat_lt place (count_of (shape_of g) kind) then slice_index_or reached (first_of (shape_of g) kind + place) false else false

-- some of a good can be expected of products
abbrev pub is_expected : Product → Bool
is_expected product = is_positive product.probability && (is_positive product.low || is_positive product.high)

abbrev pub is_some_of : GoodId → Product → Bool
is_some_of good product = (product.good.0 == good.0) && is_expected product

abbrev pub source_gives : GoodId → Option Source → Bool
source_gives good None = false
source_gives good (Some source) = list_any (is_some_of good) source.products

-- a reached source gives a good: the one at a place, one of the first, any
abbrev pub mines : Game → List Bool → GoodId → ℕ → Bool
mines g reached good place = is_reached g reached SourceKind place && source_gives good (slice_get g.sources place)

abbrev pub is_mined_below : Game → List Bool → GoodId → ℕ → Bool
is_mined_below g reached good zero = false
is_mined_below g reached good (suc place) = is_mined_below g reached good place || mines g reached good place

abbrev pub is_mined : Game → List Bool → GoodId → Bool
is_mined g reached good = is_mined_below g reached good (length g.sources)

-- an item or a fluid is reached
abbrev pub is_good_reached : Game → List Bool → GoodId → Bool
is_good_reached g reached good = nat_lt good.0 (solid_and_fluid g) && slice_index_or reached (3 + good.0) false
