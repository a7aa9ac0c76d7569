-- A thing that is as it is in a state, and its text.
use Rattle.std.proofs.Common.{◌≡◌, ◌∙◌, ◌<◌, ◌+◌, ℕ, Bool, true, List, ap, subst, sym, arith}
use Rattle.std.specs.Prelude.{Option, if◌then◌else◌, nat_lt}
use Rattle.std.proofs.lemmas.Bool.Decides.{nat_tests}
use Rattle.game_types.specs.Nodes.{node_at, shape_of}
use Rattle.plan_base.specs.Shape.{count_of, first_of, node_count}
use Rattle.plan_base.specs.declared.ids.NodeId.{NodeId}
use Rattle.plan_base.specs.declared.shape.Kind.{Kind}
use Rattle.plan_base.specs.declared.shape.Kind.TheVariants.{Special, Item, Fluid, Recipe, Source, Machine, Tech}
use Rattle.plan_base.specs.declared.shape.Shape.{Shape}
use Rattle.game_types.specs.declared.games.Game.{Game}
use Rattle.depend_index.specs.declared.index.Index.{Index}
use Rattle.state_changes.specs.States.{State}
use Rattle.planning_state.specs.Worlds.{rank_of}
use Rattle.planner_core.specs.Told.{mask_of, places_of}
use Rattle.catalog_text.specs.declared.fields.Shown.{Shown}
use Rattle.serde_json.specs.Data.{Data}
use Rattle.catalog_members.specs.Texts.{IsTextOf}
use Rattle.catalog_things.specs.Nodes.{thing_node}
use Rattle.catalog_text.specs.declared.things.Thing.{Thing}
use Rattle.catalog_text.specs.Things.{IsThing, IsThingText, thing_value, value_in}

-- what is told of a thing is told of the thing of the state
same_value : (s : State) (index : Index) (shown : Option Shown) (g : Game) (kind : Kind) (number : ℕ) (thing : Thing) → s.book.game ≡ g → IsThing s kind number thing
    → thing_value g index shown thing.kind thing.number thing.node thing.rank thing.mask.items ≡ value_in s index shown kind number (thing_node s.book.game kind number)
same_value s index shown g kind number thing same is =
    ap (λ (h : Game). thing_value h index shown thing.kind thing.number thing.node thing.rank thing.mask.items) (sym same)
    ∙ (ap (λ (k : Kind). thing_value s.book.game index shown k thing.number thing.node thing.rank thing.mask.items) is.kind_
    ∙ (ap (λ (m : ℕ). thing_value s.book.game index shown kind m thing.node thing.rank thing.mask.items) is.number_
    ∙ (ap (λ (r : ℕ). thing_value s.book.game index shown kind number thing.node r thing.mask.items) is.rank
    ∙ (ap (λ (m : List ℕ). thing_value s.book.game index shown kind number thing.node (rank_of s.book thing.node.0) m) is.mask
    ∙ ap (λ (n : NodeId). value_in s index shown kind number n) is.node))))

pub thing_is : (s : State) (index : Index) (shown : Option Shown) (g : Game) (kind : Kind) (number : ℕ) (thing : Thing) (text : List ℕ) → s.book.game ≡ g → IsThing s kind number thing
    → IsTextOf (thing_value g index shown thing.kind thing.number thing.node thing.rank thing.mask.items) text → IsThingText s index kind number text
thing_is s index shown g kind number thing text same is told = record {
  shown = shown;
  is_text = subst (λ (d : Data). IsTextOf d text) (same_value s index shown g kind number thing same is) told;
}

-- the nodes of a kind are nodes
pub kind_within : (shape : Shape) (kind : Kind) (number : ℕ) → number < count_of shape kind → first_of shape kind + number < node_count shape
kind_within shape Special number within = omega (arith, within)
kind_within shape Item number within = omega (arith, within)
kind_within shape Fluid number within = omega (arith, within)
kind_within shape Recipe number within = omega (arith, within)
kind_within shape Source number within = omega (arith, within)
kind_within shape Machine number within = omega (arith, within)
kind_within shape Tech number within = omega (arith, within)

-- the node of a thing that is there is one of the game
pub within_nodes : (g : Game) (kind : Kind) (number : ℕ) (node : NodeId) → number < count_of (shape_of g) kind → node ≡ thing_node g kind number → node.0 < node_count (shape_of g)
within_nodes g kind number node within is =
    let there : nat_lt number (count_of (shape_of g) kind) ≡ true = grind (arith, nat_tests) in
    let at : node ≡ node_at g kind number = is ∙ ap (λ (b : Bool). if b then node_at g kind number else record { 0 = node_count (shape_of g) }) there in
    subst (λ (n : NodeId). n.0 < node_count (shape_of g)) (sym at) (kind_within (shape_of g) kind number within)
