use Rattle.std.proofs.Common.{◌<◌, ◌≤◌, ◌+◌, ◌∙◌, ℕ, OnOk, sym, subst, refl, length}
use Rattle.plan_base.specs.Shape.{node_count}
use Rattle.game_types.specs.Nodes.{shape_of}
use Rattle.std.specs.Prelude.{insert}
use Rattle.state_changes.specs.States.{State, AreSoundMilestones}
use Rattle.state_changes.specs.Undoing.{FitsTaken}
use Rattle.planning_state.specs.Books.{TakesBack}
use Rattle.planning_state.proofs.HeldLemmas.{held-changes, takes-back}
use Rattle.planning_state.proofs.EntryLemmas.{fits-put, put-sound, put-within, work-book, work-put}
use Rattle.planning_state.proofs.StartLemmas.{line_starts-kept}
use Rattle.planning_state.proofs.planning.PlanningEditable.restore_all.Goals as goal

pub put_milestone-requires-clause-node : goal.put_milestone-requires-clause-node
put_milestone-requires-clause-node g c =
    subst (λ (s : State). c.in-Puts.node.0 < node_count (shape_of s.book.game)) (sym c.self.view_is)
    (put-within c.requires.0 c.args.self.now c.args.edits.now c.args.inverses.now c.in-Puts.node c.in-Puts.place c.in-Puts.ensures c.requires.1.back)

pub put_milestone-requires-clause-fits : goal.put_milestone-requires-clause-fits
put_milestone-requires-clause-fits g c =
    subst (λ (s : State). AreSoundMilestones s.book (insert s.milestones c.in-Puts.place c.in-Puts.node)) (sym c.self.view_is)
    (put-sound c.requires.0 c.args.self.now c.args.edits.now c.args.inverses.now c.in-Puts.node c.in-Puts.place c.in-Puts.ensures c.requires.1.back)

pub restore_held-requires-clause-leads : goal.restore_held-requires-clause-leads
restore_held-requires-clause-leads g c = (
  c.requires.0.book,
  c.requires.0.tables,
  subst (λ (s : State). TakesBack s.book s.tables c.args.edits.now c.args.inverses.now c.requires.0.book c.requires.0.tables) (sym c.self.view_is)
      (takes-back c.requires.0 c.args.self.now c.args.edits.now c.args.inverses.now c.in-Parts.ensures c.requires.1),
)

pub returns-in-Puts-clause-work : goal.returns-in-Puts-clause-work
returns-in-Puts-clause-work g c =
    work-put c.put_milestone.result c.args.self.now _ _ c.self.inside.book c.args.edits.now c.in-Puts.node c.in-Puts.place c.args.steps.now c.put_milestone.new.steps c.self.view_is refl refl
    (subst (λ (s : State). FitsTaken s.book.game c.args.edits.now c.in-Puts.node c.in-Puts.place (length s.milestones)) (sym c.self.view_is)
    (fits-put c.requires.0 c.args.self.now c.args.edits.now c.args.inverses.now c.in-Puts.node c.in-Puts.place c.in-Puts.ensures c.requires.1.back))
    c.put_milestone.ensures.put c.put_milestone.ensures.steps

pub returns-in-Parts-clause-work : goal.returns-in-Parts-clause-work
returns-in-Parts-clause-work g c =
    subst (λ (n : ℕ). OnOk c.restore_held.result (c.restore_held.new.steps ≤ c.args.steps.now + n))
    (work-book c.args.self.now _ _ c.args.edits.now c.self.view_is (held-changes c.requires.0 c.args.self.now c.args.edits.now c.args.inverses.now c.in-Parts.ensures c.requires.1)) c.restore_held.ensures.work

pub invariant_of-self : goal.invariant_of-self
invariant_of-self g c = (c.drop_milestone.ensures.kept c.self.inside.book c.self.inside.graph c.self.invariant.0, c.self.invariant.1, c.self.invariant.2, c.self.invariant.3, c.self.invariant.4)

pub invariant_of-self-in-Parts : goal.invariant_of-self-in-Parts
invariant_of-self-in-Parts g c = (
  c.restore_held.ensures.kept,
  c.restore_held.ensures.tables,
  c.restore_held.ensures.index,
  c.restore_held.ensures.remembers,
  c.self.invariant.4 ∙ sym (line_starts-kept c.self.inside.book.game c.restore_held.new.book.game c.restore_held.ensures.names),
)
