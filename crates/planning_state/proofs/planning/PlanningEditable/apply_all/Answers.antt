use Rattle.std.proofs.Common.{◌≤◌, ◌+◌, ◌∙◌, ℕ, IfErr, List, OnOk, subst, sym}
use Rattle.edit_undo.specs.Edits.{apply_edits, IsFaultOf}
use Rattle.plan_lines.specs.declared.change.Change.{Change}
use Rattle.milestone_masks.specs.Worlds.{milestones_of}
use Rattle.state_changes.specs.States.{State, state_of}
use Rattle.state_changes.specs.Effects.{effect_of}
use Rattle.planning_state.proofs.EntryLemmas.{work-add, work-book}
use Rattle.planning_state.proofs.StartLemmas.{line_starts-kept}
use Rattle.planning_state.proofs.planning.PlanningEditable.apply_all.Goals as goal

pub returns-in-Add-clause-work : goal.returns-in-Add-clause-work
returns-in-Add-clause-work g c =
    subst (λ (n : ℕ). OnOk c.add_milestone.result (c.add_milestone.new.steps ≤ c.args.steps.now + n))
    (work-add c.args.self.now _ _ c.args.edits.now c.in-Add.object.now c.self.view_is c.in-Add.ensures) (c.add_milestone.ensures.work c.self.inside.tables.items)

pub returns-in-Held-clause-work : goal.returns-in-Held-clause-work
returns-in-Held-clause-work g c =
    subst (λ (n : ℕ). OnOk c.apply_held.result (c.apply_held.new.steps ≤ c.args.steps.now + n))
    (work-book c.args.self.now _ _ c.args.edits.now c.self.view_is c.in-Held.ensures) c.apply_held.ensures.work

pub returns-in-Add-clause-fault : goal.returns-in-Add-clause-fault
returns-in-Add-clause-fault g c =
    subst (λ (s : State). IfErr c.add_milestone.result (IsFaultOf (apply_edits effect_of s c.args.edits.now))) c.self.view_is
    (subst (λ (changes : List Change). IfErr c.add_milestone.result (IsFaultOf (apply_edits effect_of (state_of c.self.inside.book (milestones_of c.self.inside.worlds) c.self.inside.tables.items) changes))) (sym c.in-Add.ensures)
    (c.add_milestone.ensures.fault c.self.inside.tables.items))

pub returns-in-Take-clause-fault : goal.returns-in-Take-clause-fault
returns-in-Take-clause-fault g c =
    subst (λ (s : State). IfErr c.take_milestone.result (IsFaultOf (apply_edits effect_of s c.args.edits.now))) c.self.view_is
    (subst (λ (changes : List Change). IfErr c.take_milestone.result (IsFaultOf (apply_edits effect_of (state_of c.self.inside.book (milestones_of c.self.inside.worlds) c.self.inside.tables.items) changes))) (sym c.in-Take.ensures)
    (c.take_milestone.ensures.fault c.self.inside.tables.items))

pub invariant_of-self-in-Take : goal.invariant_of-self-in-Take
invariant_of-self-in-Take g c = (c.take_milestone.ensures.kept c.self.inside.graph c.self.invariant.0, c.self.invariant.1, c.self.invariant.2, c.self.invariant.3, c.self.invariant.4)

pub invariant_of-self-in-Held : goal.invariant_of-self-in-Held
invariant_of-self-in-Held g c = (
  c.apply_held.ensures.kept,
  c.apply_held.ensures.tables,
  c.apply_held.ensures.index,
  c.apply_held.ensures.remembers,
  c.self.invariant.4 ∙ sym (line_starts-kept c.self.inside.book.game c.apply_held.new.book.game c.apply_held.ensures.names),
)
