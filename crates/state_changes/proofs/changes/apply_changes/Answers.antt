use Rattle.std.proofs.Common.{sym, subst, ap, arith, ◌∙◌}
use Rattle.edit_undo.specs.Edits.{apply_edits, IsFaultOf}
use Rattle.state_changes.specs.States.{state_of}
use Rattle.state_changes.specs.Effects.{effect_of}
use Rattle.state_changes.specs.Books.{AppliesNext}
use Rattle.state_changes.proofs.Changing.{so_far-refused, so_far-more}
use Rattle.state_changes.proofs.FaultLemmas.{is-fault}
use Rattle.state_changes.proofs.changes.apply_changes.Goals as goal

pub returns-in-Err-clause-fault : goal.returns-in-Err-clause-fault
returns-in-Err-clause-fault c = λ milestones.
    subst (IsFaultOf (apply_edits effect_of (state_of c.args.book.now milestones c.args.tables.now.items) c.args.changes.now)) (sym c.entry_fault.ensures)
    (is-fault (apply_edits effect_of (state_of c.args.book.now milestones c.args.tables.now.items) c.args.changes.now) c.loop-i.i c.in-Err.fault
    (λ refusal e. so_far-refused c.args.book.now c.loop-i.book c.args.tables.now.items c.loop-i.tables.items c.args.changes.now c.loop-i.i c.index-changes-i.result c.loop-i.edits.items c.loop-i.undos.items refusal milestones (omega arith)
    (ap (effect_of (state_of c.loop-i.book milestones c.loop-i.tables.items)) (sym c.index-changes-i.is) ∙ c.in-Err.ensures.fault refusal milestones e) c.loop-i.invariant))

pub loop-i-preserved : goal.loop-i-preserved
loop-i-preserved c =
    so_far-more c.args.book.now c.loop-i.book c.apply_next.new.book c.args.tables.now.items c.loop-i.tables.items c.apply_next.new.tables.items c.args.changes.now c.loop-i.i c.index-changes-i.result c.loop-i.edits.items c.apply_next.new.edits.items c.loop-i.undos.items c.apply_next.new.undos.items
    (omega arith)
    (subst (λ change. AppliesNext c.loop-i.book c.loop-i.tables.items change c.loop-i.edits.items c.loop-i.undos.items c.apply_next.new.book c.apply_next.new.tables.items c.apply_next.new.edits.items c.apply_next.new.undos.items) c.index-changes-i.is c.in-Ok.ensures.ok)
    c.loop-i.invariant
