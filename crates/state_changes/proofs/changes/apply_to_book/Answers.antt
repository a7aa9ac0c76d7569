use Rattle.std.proofs.Common.{◌∙◌, ◌++◌, ◌∷◌, [], ap}
use Rattle.state_changes.specs.declared.undos.Undo.TheVariants.{Part}
use Rattle.state_changes.proofs.Changing.{next-book}
use Rattle.state_changes.proofs.changes.apply_to_book.Goals as goal

pub returns-clause-ok : goal.returns-clause-ok
returns-clause-ok c = λ tables fit.
    next-book c.args.book.now c.apply_change.new.book tables c.args.change.now c.args.edits.now.items c.put.new.list.items c.args.undos.now.items c.put-2.new.list.items c.in_ok-edit.edit c.in_ok-edit.inverse c.requires.held c.requires.of_book c.in_ok-edit.ensures.ok
    (c.put.ensures ∙ ap (λ l. l ++ c.in_ok-edit.edit ∷ []) c.reserve.ensures.items)
    (c.put-2.ensures ∙ ap (λ l. l ++ Part c.in_ok-edit.inverse ∷ []) c.reserve-else-is_err.ensures.items) fit
