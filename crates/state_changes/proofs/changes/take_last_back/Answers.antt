use Rattle.std.proofs.Common.{◌∙◌, ap, sym}
use Rattle.state_changes.specs.Undoing.{all_restored, all_tables_restored}
use Rattle.state_changes.proofs.Changing.{restored-push, tables-push}
use Rattle.state_changes.proofs.changes.take_last_back.Goals as goal

pub returns-in-Some-clause-book : goal.returns-in-Some-clause-book
returns-in-Some-clause-book c =
    ap (all_restored c.pop.new.self.items) c.take_one_back.ensures.book
    ∙ (sym (restored-push c.pop.new.self.items c.in-Some.undo c.args.book.now) ∙ ap (λ us. all_restored us c.args.book.now) (sym c.in-Some.ensures.items))

pub returns-in-Some-clause-tables : goal.returns-in-Some-clause-tables
returns-in-Some-clause-tables c =
    ap (all_tables_restored c.pop.new.self.items) c.take_one_back.ensures.tables
    ∙ (sym (tables-push c.pop.new.self.items c.in-Some.undo c.args.tables.now.items) ∙ ap (λ us. all_tables_restored us c.args.tables.now.items) (sym c.in-Some.ensures.items))
