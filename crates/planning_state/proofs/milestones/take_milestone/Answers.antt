use Rattle.std.proofs.Common.{sym, subst, ◌∙◌, ap, ◌++◌, ◌∷◌, []}
use Rattle.edit_undo.specs.Edits.{apply_edits, IsFaultOf}
use Rattle.plan_lines.specs.declared.change.Change.TheVariants.{Unmilestone as UnmilestoneLine}
use Rattle.milestone_masks.specs.Worlds.{milestones_of}
use Rattle.state_changes.specs.declared.undos.Undo.TheVariants.{Taken}
use Rattle.state_changes.specs.States.{state_of}
use Rattle.state_changes.specs.Effects.{effect_of}
use Rattle.state_changes.proofs.FaultLemmas.{is-fault}
use Rattle.planning_state.proofs.MilestoneLemmas.{kept-remove, take-leads, take-refused, take-unnamed}
use Rattle.planning_state.proofs.milestones.take_milestone.Goals as goal

pub returns-in-Err-clause-fault : goal.returns-in-Err-clause-fault
returns-in-Err-clause-fault c = λ tables.
    let before = state_of c.args.book.now (milestones_of c.args.worlds.now) tables in
    subst (IsFaultOf (apply_edits effect_of before (UnmilestoneLine c.args.object.now ∷ []))) (sym c.entry_fault.ensures)
    (is-fault (apply_edits effect_of before (UnmilestoneLine c.args.object.now ∷ [])) 0 c.in-Err.fault (λ refusal e. take-unnamed before c.args.object.now refusal (c.in-Err.ensures.node refusal e)))

pub returns-in-Ok-drop_world-clause-kept : goal.returns-in-Ok-drop_world-clause-kept
returns-in-Ok-drop_world-clause-kept c = λ rows kept. kept-remove c.args.book.now rows c.args.worlds.now c.drop_world.new.self c.in-Ok.node.0 c.in-Ok-drop_world.place c.in-Ok-drop_world.ensures.place c.in-Ok-drop_world.ensures.base c.in-Ok-drop_world.ensures.dropped kept

pub returns-in-Ok-drop_world-clause-ok : goal.returns-in-Ok-drop_world-clause-ok
returns-in-Ok-drop_world-clause-ok c = λ tables fit.
    take-leads c.args.book.now c.requires.0 c.args.worlds.now c.drop_world.new.self tables c.args.object.now c.in-Ok.node c.in-Ok-drop_world.place c.put.new.list.items c.requires.1 fit c.in-Ok.ensures.node
    c.in-Ok-drop_world.ensures.place c.in-Ok-drop_world.ensures.dropped
    (c.put.ensures ∙ ap (λ l. l ++ Taken c.in-Ok.node c.in-Ok-drop_world.place ∷ []) (c.reserve.ensures.items ∙ c.new-undos.ensures.items))

pub returns-in-Err-drop_world-clause-fault : goal.returns-in-Err-drop_world-clause-fault
returns-in-Err-drop_world-clause-fault c = λ tables.
    let before = state_of c.args.book.now (milestones_of c.args.worlds.now) tables in
    subst (IsFaultOf (apply_edits effect_of before (UnmilestoneLine c.args.object.now ∷ []))) (sym c.entry_fault-in-Err-drop_world.ensures)
    (is-fault (apply_edits effect_of before (UnmilestoneLine c.args.object.now ∷ [])) 0 c.milestone_fault.result
    (λ refusal e. take-refused c.args.book.now c.args.worlds.now tables c.args.object.now c.in-Ok.node c.in-Err-drop_world.fault refusal c.in-Ok.ensures.node c.in-Err-drop_world.ensures.fault c.in-Err-drop_world.ensures.none (sym c.milestone_fault.ensures ∙ e)))
