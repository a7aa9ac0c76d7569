use Rattle.std.proofs.Common.{◌∙◌, ◌++◌, ◌∷◌, [], ap, refl}
use Rattle.state_changes.specs.declared.undos.Undo.TheVariants.{OfTables}
use Rattle.state_changes.proofs.Changing.{restores-part, restores-tables}
use Rattle.state_changes.proofs.restoring.restore_tables.Goals as goal

pub returns-clause-ok : goal.returns-clause-ok
returns-clause-ok c =
    restores-tables (OfTables c.args.undo.now) (OfTables c.exchange_tables.result) c.args.tables.now.items c.exchange_tables.new.tables.items c.args.forward.now.items c.put.new.list.items
    (c.exchange_tables.ensures.after ∙ c.in_ok-part.ensures c.args.tables.now.items) c.exchange_tables.ensures.back
    (c.put.ensures ∙ ap (λ l. l ++ OfTables c.exchange_tables.result ∷ []) c.in_ok-reserve.ensures.items)

pub returns-clause-book : goal.returns-clause-book
returns-clause-book c = λ book.
    restores-part (OfTables c.args.undo.now) (OfTables c.exchange_tables.result) book book c.args.forward.now.items c.put.new.list.items refl refl
    (c.put.ensures ∙ ap (λ l. l ++ OfTables c.exchange_tables.result ∷ []) c.in_ok-reserve.ensures.items)
