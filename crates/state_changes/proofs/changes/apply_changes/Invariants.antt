use Rattle.state_changes.proofs.Changing.{SoFar}
use Rattle.state_changes.proofs.changes.apply_changes.Given as goal

abbrev pub invariant-loop-i : goal.invariant-loop-i
invariant-loop-i l = SoFar l.fn.book l.fn.tables.items l.changes l.i l.edits.items l.undos.items l.book l.tables.items
