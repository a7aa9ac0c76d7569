use Rattle.std.proofs.Common.{◌≡◌, ◌∙◌, ◌++◌, ◌∷◌, [], Err, ap, sym}
use Rattle.state_changes.specs.declared.undos.Undo.TheVariants.{OfTables}
use Rattle.state_changes.specs.States.{state_of}
use Rattle.state_changes.specs.Effects.{effect_of}
use Rattle.state_changes.proofs.Changing.{next-tables, refused-tables}
use Rattle.state_changes.proofs.FaultLemmas.{of-tables}
use Rattle.state_changes.proofs.changes.apply_to_tables.Goals as goal

pub returns-in-Ok-clause-ok : goal.returns-in-Ok-clause-ok
returns-in-Ok-clause-ok c = λ edits.
    next-tables c.args.book.now c.args.tables.now.items c.change_tables.new.tables.items c.args.change.now edits c.args.undos.now.items c.put.new.list.items c.in-Ok.undo c.requires.sound c.requires.of_tables c.in-Ok.ensures.ok c.in-Ok.ensures.back c.in-Ok.ensures.sound
    (c.put.ensures ∙ ap (λ l. l ++ OfTables c.in-Ok.undo ∷ []) c.reserve.ensures.items)

pub returns-in-Err-clause-fault : goal.returns-in-Err-clause-fault
returns-in-Err-clause-fault c = λ refusal milestones e.
    of-tables c.in-Err.fault (λ r. effect_of (state_of c.args.book.now milestones c.args.tables.now.items) c.args.change.now ≡ Err r)
    (λ r is. refused-tables c.args.book.now milestones c.args.tables.now.items c.args.change.now r c.requires.of_tables (c.in-Err.ensures.fault r is)) refusal (sym c.tables_fault.ensures ∙ e)
