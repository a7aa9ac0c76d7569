use Rattle.std.proofs.Common.{◌≡◌, ◌-◌, drop, length}
use Rattle.state_changes.specs.Undoing.{all_restored, all_tables_restored}
use Rattle.state_changes.proofs.restoring.restore_parts.Given as goal

abbrev pub invariant-loop-i : goal.invariant-loop-i
invariant-loop-i l = record {
  after : l.book ≡ all_restored (drop (length l.undos - l.i) l.undos) l.fn.book;
  tables_after : l.tables.items ≡ all_tables_restored (drop (length l.undos - l.i) l.undos) l.fn.tables.items;
  back : all_restored l.forward.items l.book ≡ l.fn.book;
  tables_back : all_tables_restored l.forward.items l.tables.items ≡ l.fn.tables.items;
}
