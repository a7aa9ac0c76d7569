-- The things of a state as objects of JSON, as docs/CATALOG.md lists their members.
use Rattle.std.specs.Prelude.{◌≡◌, ℕ, ◌+◌, List, Option, None, Some, codes, if◌then◌else◌, length, nat_lt, slice_get}
use Rattle.plan_base.specs.declared.ids.EntityId.{EntityId}
use Rattle.plan_base.specs.declared.ids.NodeId.{NodeId}
use Rattle.plan_base.specs.declared.shape.Kind.{Kind}
use Rattle.plan_base.specs.declared.shape.Kind.TheVariants.{Special, Item, Fluid, Recipe, Source, Machine, Tech}
use Rattle.game_types.specs.declared.games.Game.{Game}
use Rattle.game_types.specs.declared.goods.Item.{Item as ItemRecord}
use Rattle.game_types.specs.declared.goods.Fluid.{Fluid as FluidRecord}
use Rattle.depend_index.specs.declared.index.Index.{Index}
use Rattle.state_changes.specs.States.{State}
use Rattle.planning_state.specs.Worlds.{rank_of}
use Rattle.planner_core.specs.Told.{mask_of, places_of}
use Rattle.catalog_text.specs.declared.fields.Shown.{Shown}
use Rattle.serde_json.specs.Data.{Data, Members, no_members, object}
use Rattle.catalog_members.specs.Members.{with_amount_where, with_count, with_id, with_places, with_true, with_words}
use Rattle.catalog_members.specs.Texts.{IsTextOf}
use Rattle.catalog_things.specs.Goods.{with_fluid, with_item, with_special}
use Rattle.catalog_things.specs.Machines.{with_machine}
use Rattle.catalog_things.specs.Nodes.{thing_node}
use Rattle.catalog_things.specs.Ways.{with_recipe, with_source, with_tech}
use Rattle.catalog_text.specs.declared.things.Thing.{Thing}

-- ---- what each thing has
-- its name; the first round that holds it, where one does; and the places of the milestones without which none does
unfoldable pub with_head : Game → NodeId → ℕ → List ℕ → Members → Members
with_head g node rank mask ms = with_places (codes "mask") mask (with_count (codes "rank") rank (with_id (codes "id") g node ms))

-- what a page shows and no rule reads
unfoldable pub with_shown : Shown → Members → Members
with_shown shown ms =
    with_amount_where (codes "belt") shown.belt
    (with_amount_where (codes "stack") shown.stack
    (with_true (codes "hidden") shown.hidden
    (with_words (codes "order") shown.order.items ms)))

unfoldable pub with_shown_where : Option Shown → Members → Members
with_shown_where None ms = ms
with_shown_where (Some shown) ms = with_shown shown ms

-- ---- what things of a kind have
abbrev pub with_item_where : Game → Option ItemRecord → Members → Members
with_item_where g None ms = ms
with_item_where g (Some item) ms = with_item g item ms

abbrev pub with_fluid_where : Game → ℕ → Option FluidRecord → Members → Members
with_fluid_where g good None ms = ms
with_fluid_where g good (Some fluid) ms = with_fluid g (record { 0 = good }) fluid ms

unfoldable pub with_kind : Game → Index → Kind → ℕ → Members → Members
with_kind g index Special number ms = with_special g number ms
with_kind g index Item number ms = with_item_where g (slice_get g.items number) ms
with_kind g index Fluid number ms = with_fluid_where g (length g.items + number) (slice_get g.fluids number) ms
with_kind g index Recipe number ms = if nat_lt number (length g.recipes) then with_recipe g index (record { 0 = number }) ms else ms
with_kind g index Source number ms = if nat_lt number (length g.sources) then with_source g (record { 0 = number }) ms else ms
with_kind g index Machine number ms = if nat_lt number (length g.machines) then with_machine g (record { 0 = number }) ms else ms
with_kind g index Tech number ms = if nat_lt number (length g.techs) then with_tech g (record { 0 = number }) ms else ms

-- ---- a thing
-- the thing of a kind with a number, of which this is shown, with its rank and its mask
unfoldable pub thing_value : Game → Index → Option Shown → Kind → ℕ → NodeId → ℕ → List ℕ → Data
thing_value g index shown kind number node rank mask = object (with_shown_where shown (with_kind g index kind number (with_head g node rank mask no_members)))

-- the same with the rank and the mask that it has in a state
abbrev pub value_in : State → Index → Option Shown → Kind → ℕ → NodeId → Data
value_in s index shown kind number node = thing_value s.book.game index shown kind number node (rank_of s.book node.0) (places_of s.milestones (mask_of s node.0))

-- a thing as it is in a state
pub record IsThing (s : State) (kind : Kind) (number : ℕ) (thing : Thing) : Type 0 where
  pub kind_ : thing.kind ≡ kind
  pub number_ : thing.number ≡ number
  pub node : thing.node ≡ thing_node s.book.game kind number
  pub rank : thing.rank ≡ rank_of s.book thing.node.0
  pub mask : thing.mask.items ≡ places_of s.milestones (mask_of s thing.node.0)

-- A text of the thing of a kind with a number in a state: its rank and its mask are those of the state. What is shown beside is left open.
pub record IsThingText (s : State) (index : Index) (kind : Kind) (number : ℕ) (text : List ℕ) : Type 0 where
  pub shown : Option Shown
  pub is_text : IsTextOf (value_in s index shown kind number (thing_node s.book.game kind number)) text
