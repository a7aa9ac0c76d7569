-- What is taken and what is given, as members of objects of JSON. Each function of this file puts members into those that are there.
-- What docs/CATALOG.md calls PART and PRODUCT.
use Rattle.std.specs.Prelude.{ℕ, ◌==◌, Bool, false, List, [], ◌∷◌, Result, Ok, Err, codes, if◌then◌else◌}
use Rattle.fractions.specs.Compare.{are_same}
use Rattle.fractions.specs.Fraction.{Fraction, one_fraction, zero_fraction}
use Rattle.fractions.specs.Signs.{is_zero}
use Rattle.plan_base.specs.declared.ids.GoodId.{GoodId}
use Rattle.plan_base.specs.declared.ids.NodeId.{NodeId}
use Rattle.game_types.specs.declared.effects.Wide.{Wide}
use Rattle.game_types.specs.declared.games.Game.{Game}
use Rattle.game_types.specs.declared.recipes.Part.{Part}
use Rattle.game_types.specs.declared.recipes.Product.{Product}
use Rattle.game_types.specs.Rates.{yield_of}
use Rattle.game_types.specs.Steps.{◌▸◌, subtracted}
use Rattle.depend_index.specs.declared.index.Index.{Index}
use Rattle.serde_json.specs.Data.{Data, Members, no_members, object}
use Rattle.catalog_members.specs.Members.{items_tree, with_amount, with_amount_where, with_id, with_ids, with_items, with_text}
use Rattle.catalog_things.specs.Choices.{fits_of}
use Rattle.catalog_things.specs.Nodes.{good_node}

-- ---- amounts
-- a number, or that it is past the limits of fractions
unfoldable pub with_outcome : List ℕ → Result Fraction Wide → Members → Members
with_outcome key (Ok x) ms = with_amount key x ms
with_outcome key (Err wide) ms = with_text key (codes "wide") ms

unfoldable pub with_unless_zero : List ℕ → Fraction → Members → Members
with_unless_zero key x ms = if is_zero x then ms else with_amount key x ms

unfoldable pub with_unless_one : List ℕ → Fraction → Members → Members
with_unless_one key x ms = if are_same x one_fraction then ms else with_amount key x ms

-- an amount of a good
unfoldable pub with_good : Game → GoodId → Fraction → Members → Members
with_good g good amount ms = with_id (codes "good") g (good_node g good) (with_amount (codes "amount") amount ms)

abbrev pub good_value : Game → GoodId × Fraction → Data
good_value g part = object (with_good g part.0 part.1 no_members)

unfoldable pub with_goods : List ℕ → Game → List (GoodId × Fraction) → Members → Members
with_goods key g goods ms = with_items key (items_tree (good_value g) goods) ms

-- ---- ingredients
-- whether nodes are one alone
abbrev pub is_alone : List NodeId → NodeId → Bool
is_alone [] node = false
is_alone (n ∷ []) node = n.0 == node.0
is_alone (n ∷ m ∷ ns) node = false

-- the goods that stand for a good, unless it is that good alone
unfoldable pub with_fits : Game → GoodId → List NodeId → Members → Members
with_fits g good fits ms = if is_alone fits (good_node g good) then ms else with_ids (codes "fits") g fits ms

-- an ingredient; what stands for it is just what no row is refused for as P4
unfoldable pub with_part : Game → Index → Part → Members → Members
with_part g index part ms =
    with_fits g part.good (fits_of g index part (good_node g part.good))
    (with_amount_where (codes "high") part.high
    (with_amount_where (codes "low") part.low
    (with_good g part.good part.amount ms)))

abbrev pub part_value : Game → Index → Part → Data
part_value g index part = object (with_part g index part no_members)

unfoldable pub with_parts : Game → Index → List Part → Members → Members
with_parts g index parts ms = with_items (codes "in") (items_tree (part_value g index) parts) ms

-- ---- products
-- what productivity adds to: what a craft gives at a productivity of 1 above what it gives without
unfoldable pub free_of : Product → Result Fraction Wide
free_of product = yield_of product one_fraction ▸ λ all. yield_of product zero_fraction ▸ λ expected. subtracted 8 all expected

-- what a craft is expected to give
unfoldable pub with_yield : Product → Members → Members
with_yield product ms = with_outcome (codes "free") (free_of product) (with_outcome (codes "amount") (yield_of product zero_fraction) ms)

-- the least and the most, where they differ
unfoldable pub with_range : Fraction → Fraction → Members → Members
with_range low high ms = if are_same low high then ms else with_amount (codes "max") high (with_amount (codes "min") low ms)

unfoldable pub with_product : Game → Product → Members → Members
with_product g product ms =
    with_amount_where (codes "temperature") product.temperature
    (with_unless_one (codes "probability") product.probability
    (with_range product.low product.high
    (with_id (codes "good") g (good_node g product.good)
    (with_yield product ms))))

abbrev pub product_value : Game → Product → Data
product_value g product = object (with_product g product no_members)

unfoldable pub with_products : List ℕ → Game → List Product → Members → Members
with_products key g products ms = with_items key (items_tree (product_value g) products) ms
