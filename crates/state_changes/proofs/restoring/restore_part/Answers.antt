use Rattle.std.proofs.Common.{◌∙◌, ◌++◌, ◌∷◌, [], ap, refl}
use Rattle.data_edit.specs.Edits.{restored}
use Rattle.state_changes.specs.declared.undos.Undo.TheVariants.{Part}
use Rattle.state_changes.proofs.Changing.{restores-part, restores-tables}
use Rattle.state_changes.proofs.restoring.restore_part.Goals as goal

pub returns-clause-ok : goal.returns-clause-ok
returns-clause-ok c =
    restores-part (Part c.args.inverse.now) (Part c.exchange.result) c.args.book.now c.exchange.new.book c.args.forward.now.items c.put.new.list.items
    (c.exchange.ensures.after ∙ ap (λ part. restored part c.args.book.now) c.in_ok-part.ensures) c.exchange.ensures.back
    (c.put.ensures ∙ ap (λ l. l ++ Part c.exchange.result ∷ []) c.in_ok-reserve.ensures.items)

pub returns-clause-tables : goal.returns-clause-tables
returns-clause-tables c = λ tables.
    restores-tables (Part c.args.inverse.now) (Part c.exchange.result) tables tables c.args.forward.now.items c.put.new.list.items refl refl
    (c.put.ensures ∙ ap (λ l. l ++ Part c.exchange.result ∷ []) c.in_ok-reserve.ensures.items)
