-- What is told of a node where no batch is open.
use Rattle.std.proofs.Common.{◌≡◌, ◌∙◌, ◌<◌, ◌+◌, ℕ, Bool, true, false, List, Vec, refl, sym, subst, ap}
use Rattle.std.specs.Prelude.{IfNone, IfSome, Option, None, Some, Ok, Err, option_map}
use Rattle.std.specs.Global.{Global}
use Rattle.plan_base.specs.Shape.{count_of, first_of}
use Rattle.plan_base.specs.declared.shape.Kind.{Kind}
use Rattle.plan_base.specs.declared.shape.Shape.{Shape}
use Rattle.plan_base.specs.declared.ids.NodeId.{NodeId}
use Rattle.game_types.specs.Nodes.{find_node, node_at, shape_of}
use Rattle.game_types.specs.declared.games.Game.{Game}
use Rattle.plan_lines.specs.declared.change.Object.{Object}
use Rattle.plan_lines.specs.declared.command.Command.TheVariants as command
use Rattle.plan_lines.specs.declared.reply.Reply.{Reply}
use Rattle.plan_lines.specs.declared.reply.Reply.TheVariants as reply
use Rattle.state_changes.specs.Actions.{known, node_named}
use Rattle.state_changes.specs.States.{State}
use Rattle.planning_state.specs.Worlds.{is_reached, mask_in, rank_of}
use Rattle.planner_core.specs.Replies.{AboutNode, mask_reply, refused_as}
use Rattle.planner_core.specs.Lines.{Held, IsStep, IsStepIn, Planned, is_free}
use Rattle.planner_core.specs.Told.{mask_of, mask_where, told_mask, told_milestones, told_rank}

-- a node that is named is asked about
about : (g : Game) (object : Object) (found : Option NodeId) (node : NodeId) (ask : NodeId → Reply → Type 0) (answer : Reply) → found ≡ Some node → AboutNode g (known object found) ask answer → ask node answer
about g object None node ask answer e told = absurd (let no : None ≡ Some node = e in cc)
about g object (Some n) node ask answer e told =
    let same : n ≡ node = cc in
    subst (λ m. ask m answer) same told

rank_in : (line : ℕ) (batch : Option (List Held)) (p r : Planned) (object : Object) (node : NodeId) (answer : Reply) → batch ≡ None → find_node p.state.book.game object.kind object.name ≡ Some node
    → IsStepIn line batch p (command.Reach object) r answer → told_rank answer ≡ rank_of p.state.book node.0
unfolding node_named
rank_in line None p r object node answer free found step =
    ap told_rank (about p.state.book.game object (find_node p.state.book.game object.kind object.name) node (λ n told. told ≡ reply.Reach n (rank_of p.state.book n.0)) answer found step.1)
rank_in line (Some held) p r object node answer free found step = absurd (let no : Some held ≡ None = free in cc)

pub rank_told : (p r : Planned) (object : Object) (node : NodeId) (answer : Reply) → p.batch ≡ None → find_node p.state.book.game object.kind object.name ≡ Some node
    → IsStep 0 p (command.Reach object) r answer → told_rank answer ≡ rank_of p.state.book node.0
rank_told p r object node answer free found step = rank_in 0 p.batch p r object node answer free found step.does

mask_by : (s : State) (node : NodeId) (reached : Bool) → told_mask (mask_reply s node reached) ≡ mask_where reached s node.0
mask_by s node true = refl
mask_by s node false = refl

mask_at : (line : ℕ) (batch : Option (List Held)) (p r : Planned) (object : Object) (node : NodeId) (answer : Reply) → batch ≡ None → find_node p.state.book.game object.kind object.name ≡ Some node
    → IsStepIn line batch p (command.Mask object) r answer → told_mask answer ≡ mask_of p.state node.0
unfolding node_named
mask_at line None p r object node answer free found step =
    ap told_mask (about p.state.book.game object (find_node p.state.book.game object.kind object.name) node (λ n told. told ≡ mask_reply p.state n (is_reached p.state.book n.0)) answer found step.1)
    ∙ mask_by p.state node (is_reached p.state.book node.0)
mask_at line (Some held) p r object node answer free found step = absurd (let no : Some held ≡ None = free in cc)

pub mask_told : (p r : Planned) (object : Object) (node : NodeId) (answer : Reply) → p.batch ≡ None → find_node p.state.book.game object.kind object.name ≡ Some node
    → IsStep 0 p (command.Mask object) r answer → told_mask answer ≡ mask_of p.state node.0
mask_told p r object node answer free found step = mask_at 0 p.batch p r object node answer free found step.does

milestones_in : (line : ℕ) (batch : Option (List Held)) (p r : Planned) (answer : Reply) (nodes : List NodeId) → IsStepIn line batch p command.Milestones r answer → told_milestones answer ≡ Some nodes
    → (batch ≡ None) × (nodes ≡ p.state.milestones)
milestones_in line None p r answer nodes step told =
    let same : Some p.state.milestones ≡ Some nodes = sym (ap told_milestones step.1) ∙ told in
    (refl, cc)
milestones_in line (Some held) p r answer nodes step told =
    absurd (let no : None ≡ Some nodes = sym (ap told_milestones step.1) ∙ told in cc)

pub milestones_told : (p r : Planned) (answer : Reply) (nodes : List NodeId) → IsStep 0 p command.Milestones r answer → told_milestones answer ≡ Some nodes
    → (p.batch ≡ None) × (nodes ≡ p.state.milestones)
milestones_told p r answer nodes step told = milestones_in 0 p.batch p r answer nodes step.does told

pub milestones_found : (p r : Planned) (answer : Reply) (told : Option (Vec NodeId Global)) → IsStep 0 p command.Milestones r answer → option_map (λ v. v.items) told ≡ told_milestones answer
    → IfSome told (λ nodes. (p.batch ≡ None) × (nodes.items ≡ p.state.milestones))
milestones_found p r answer None step is = tt
milestones_found p r answer (Some nodes) step is = milestones_told p r answer nodes.items step (sym is)

-- where none are told a batch is open
hidden_in : (line : ℕ) (batch : Option (List Held)) (p r : Planned) (answer : Reply) → IsStepIn line batch p command.Milestones r answer → told_milestones answer ≡ None → is_free batch ≡ false
hidden_in line None p r answer step none = absurd (let no : Some p.state.milestones ≡ None = sym (ap told_milestones step.1) ∙ none in cc)
hidden_in line (Some held) p r answer step none = refl

pub milestones_hidden : (p r : Planned) (answer : Reply) (told : Option (Vec NodeId Global)) → IsStep 0 p command.Milestones r answer → option_map (λ v. v.items) told ≡ told_milestones answer
    → IfNone told (is_free p.batch ≡ false)
milestones_hidden p r answer None step is = hidden_in 0 p.batch p r answer step.does (sym is)
milestones_hidden p r answer (Some nodes) step is = tt

-- the kind and the name of a node find it again
pub named_again : (g : Game) (shape : Shape) (node : NodeId) (kind : Kind) (index : ℕ) (name copy : List ℕ) → shape ≡ shape_of g → node.0 ≡ first_of shape kind + index → index < count_of shape kind
    → ((k : Kind) (i : ℕ) → i < count_of (shape_of g) k → node ≡ node_at g k i → find_node g k name ≡ Some node) → copy ≡ name → find_node g kind copy ≡ Some node
named_again g shape node kind index name copy same place within found is =
    subst (λ c. find_node g kind c ≡ Some node) (sym is)
    (found kind index (subst (λ (s : Shape). index < count_of s kind) same within)
    (ap (λ (n : ℕ). let x : NodeId = record { 0 = n } in x) (subst (λ (s : Shape). node.0 ≡ first_of s kind + index) same place)))
