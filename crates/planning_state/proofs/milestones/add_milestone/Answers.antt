use Rattle.std.proofs.Common.{sym, subst, ◌∙◌, ap, ◌++◌, ◌∷◌, []}
use Rattle.edit_undo.specs.Edits.{apply_edits, IsFaultOf}
use Rattle.plan_lines.specs.declared.change.Change.TheVariants.{Milestone as MilestoneLine}
use Rattle.milestone_masks.specs.Worlds.{milestones_of}
use Rattle.state_changes.specs.declared.undos.Undo.TheVariants.{Added}
use Rattle.state_changes.specs.States.{state_of}
use Rattle.state_changes.specs.Effects.{effect_of}
use Rattle.state_changes.proofs.FaultLemmas.{is-fault}
use Rattle.planning_state.proofs.MilestoneLemmas.{add-leads, add-refused, add-unnamed}
use Rattle.planning_state.proofs.milestones.add_milestone.Goals as goal

pub returns-in-Err-clause-fault : goal.returns-in-Err-clause-fault
returns-in-Err-clause-fault g c = λ tables.
    let before = state_of c.args.book.now (milestones_of c.args.worlds.now) tables in
    subst (IsFaultOf (apply_edits effect_of before (MilestoneLine c.args.object.now ∷ []))) (sym c.entry_fault.ensures)
    (is-fault (apply_edits effect_of before (MilestoneLine c.args.object.now ∷ [])) 0 c.in-Err.fault (λ refusal e. add-unnamed before c.args.object.now refusal (c.in-Err.ensures.node refusal e)))

pub returns-in-Ok-add_at-clause-ok : goal.returns-in-Ok-add_at-clause-ok
returns-in-Ok-add_at-clause-ok g c = λ tables fit.
    add-leads c.args.book.now (g.R.Rows.rows c.args.graph.now) c.args.worlds.now c.add_at.new.worlds tables c.args.object.now c.in-Ok.node c.count-last.result c.put.new.list.items c.requires.kept fit c.in-Ok.ensures.node
    c.in-Ok-add_at.ensures.answer.0 c.in-Ok-add_at.ensures.answer.1 c.count-last.ensures.count c.in-Ok-add_at.ensures.added
    (c.put.ensures ∙ ap (λ l. l ++ Added c.in-Ok.node ∷ []) (c.reserve.ensures.items ∙ c.new-undos.ensures.items))

pub returns-in-Err-add_at-clause-fault : goal.returns-in-Err-add_at-clause-fault
returns-in-Err-add_at-clause-fault g c = λ tables.
    let before = state_of c.args.book.now (milestones_of c.args.worlds.now) tables in
    subst (IsFaultOf (apply_edits effect_of before (MilestoneLine c.args.object.now ∷ []))) (sym c.entry_fault-in-Err-add_at.ensures)
    (is-fault (apply_edits effect_of before (MilestoneLine c.args.object.now ∷ [])) 0 c.milestone_fault.result
    (λ refusal e. add-refused c.args.book.now c.args.worlds.now tables c.args.object.now c.in-Ok.node c.in-Err-add_at.fault refusal c.in-Ok.ensures.node c.in-Err-add_at.ensures.answer (sym c.milestone_fault.ensures ∙ e)))
