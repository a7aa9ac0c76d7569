use Rattle.certificate_file.specs.Narrow.{IsNarrowClaim}
use Rattle.certificate_file.specs.Tree.{entry_tree}
use Rattle.certificate_file.proofs.Loops.{WroteSoFar}
use Rattle.certificate_file.proofs.writing.entries_value.Given as goal

abbrev pub invariant-loop-entry : goal.invariant-loop-entry
invariant-loop-entry l = WroteSoFar entry_tree (λ e. IsNarrowClaim e.claim) l.entries l.entry-index l.list.items
