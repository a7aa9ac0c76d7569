use Rattle.std.proofs.Common.{◌≡◌, length, drop}
use Rattle.graph_store.specs.Replace.{is_changed_user, MayUse}
use Rattle.graph_store.specs.Users.{AreClear}
use Rattle.graph_store.proofs.replace.tidy.Given as goal

abbrev pub invariant-loop-change : goal.invariant-loop-change
invariant-loop-change l = record {
  clear : AreClear l.marks;
  marks : length l.marks ≡ length l.rows;
  users : MayUse l.rows (is_changed_user (drop l.change-index l.changes)) l.users;
}
