use Rattle.std.proofs.Common.{◌∙◌, Global, Vec, sym, subst}
use Rattle.std.specs.Prelude.{Result, IfErr}
use Rattle.edit_undo.specs.Edits.{apply_edits, IsFaultOf}
use Rattle.edit_undo.specs.declared.editable.EntryFault.{EntryFault}
use Rattle.game_types.proofs.Walks.{returned}
use Rattle.milestone_masks.specs.Worlds.{milestones_of}
use Rattle.state_changes.specs.States.{state_of}
use Rattle.state_changes.specs.Effects.{effect_of}
use Rattle.state_changes.specs.declared.undos.Undo.{Undo}
use Rattle.state_changes.specs.declared.refusals.Refusal.{Refusal}
use Rattle.planning_state.proofs.HeldLemmas.{names-still, work-held}
use Rattle.planning_state.proofs.held.apply_held.Goals as goal

pub returns-in-Ok-clause-work : goal.returns-in-Ok-clause-work
returns-in-Ok-clause-work g c =
    work-held c.args.book.now c.apply_changes.new.book c.args.tables.now.items c.apply_changes.new.tables.items c.args.changes.now c.as_slice.result.now c.args.worlds.now c.settle_edits.new.worlds c.args.steps.now c.settle_edits.new.steps
    c.requires.kept.worlds c.in-Ok.ensures.kept.worlds c.in_ok-edits.ensures.ok.names (c.as_slice.ensures.value ∙ c.in_ok-edits.ensures.ok.edits_are) c.in-Ok.ensures.work

pub returns-in_err-edits-clause-fault : goal.returns-in_err-edits-clause-fault
returns-in_err-edits-clause-fault g c =
    let applied = apply_edits effect_of (state_of c.args.book.now (milestones_of c.args.worlds.now) c.args.tables.now.items) c.args.changes.now in
    subst (λ (r : Result (Vec Undo Global) (EntryFault Refusal)). IfErr r (IsFaultOf applied)) (sym (returned c.from_residual.result c.in_err-edits.field-0.0 c.from_residual.ensures))
    (c.in_err-edits.ensures.fault (milestones_of c.args.worlds.now))

pub returns-in_err-edits-clause-names : goal.returns-in_err-edits-clause-names
returns-in_err-edits-clause-names g c = names-still c.args.book.now c.apply_changes.new.book c.in_err-edits.ensures.err.0

pub returns-clause-names : goal.returns-clause-names
returns-clause-names g c = names-still c.args.book.now c.take_all_back.new.book (c.take_all_back.ensures.book ∙ c.in_ok-edits.ensures.ok.back)
