use Rattle.std.proofs.Common.{◌≡◌, drop}
use Rattle.data_edit.specs.Lists.{same_lists}
use Rattle.data_edit.proofs.entries.same_lists.Given as goal

abbrev pub invariant-loop-k : goal.invariant-loop-k
invariant-loop-k g l = same_lists g.E.Entry.same (drop l.k l.first) (drop l.k l.second) ≡ same_lists g.E.Entry.same l.first l.second
