use Rattle.std.proofs.Common.{◌≡◌, ◌+◌, length}
use Rattle.state_changes.specs.Undoing.{all_restored, all_tables_restored}
use Rattle.state_changes.proofs.changes.take_all_back.Given as goal

abbrev pub invariant-loop : goal.invariant-loop
invariant-loop l = record {
  left : all_restored l.left.items l.book ≡ all_restored l.fn.undos.items l.fn.book;
  tables_left : all_tables_restored l.left.items l.tables.items ≡ all_tables_restored l.fn.undos.items l.fn.tables.items;
  count : length l.left.items + l.counter ≡ l.end;
}
