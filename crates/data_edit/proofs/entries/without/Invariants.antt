use Rattle.std.proofs.Common.{◌≡◌, ◌++◌, drop}
use Rattle.data_edit.specs.Lists.{without}
use Rattle.data_edit.proofs.entries.without.Given as goal

abbrev pub invariant-loop-entry : goal.invariant-loop-entry
invariant-loop-entry g l = l.list.items ++ without g.E.Entry.key l.key (drop l.entry-index l.entries) ≡ without g.E.Entry.key l.key l.entries
