-- The head says how many members there are, and they stand behind it.
use Rattle.std.proofs.Common.{◌≤◌, ◌/◌, length, arith}
use Rattle.std.proofs.lemmas.Bool.Decides.{nat_tests}
use Rattle.graph_store.proofs.PackedLemmas.{enough-behind}
use Rattle.graph_store.proofs.packed.has_first_group.Goals as goal

pub returns-in-Some : goal.returns-in-Some
returns-in-Some c =
    let enough : c.in-Some.head.now / 2 ≤ length c.in-Some.behind.now = enough-behind c.args.row.now.groups c.args.words.now c.in-Some.behind.now c.in-Some.head.now c.in-Some.ensures.cases.0 c.requires in
    grind (arith, nat_tests)
