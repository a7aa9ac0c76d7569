use Rattle.std.proofs.Common.{◌≡◌, ◌++◌, drop}
use Rattle.data_edit.specs.Lists.{with_entry}
use Rattle.data_edit.proofs.EntryLoops.{still_with}
use Rattle.data_edit.proofs.entries.with_entry.Given as goal

abbrev pub invariant-loop-other : goal.invariant-loop-other
invariant-loop-other g l = l.list.items ++ still_with g.E.Entry.key l.entry l.is_put (drop l.other-index l.entries) ≡ with_entry g.E.Entry.key l.entry l.entries
