use Rattle.std.proofs.Common.{length}
use Rattle.graph_store.proofs.Walks.{numbers_below}
use Rattle.depend_rows.proofs.techs.prerequisites.Goals as goal

pub named-requires-clause-numbers : goal.named-requires-clause-numbers
named-requires-clause-numbers c = numbers_below (λ t. t.0) c.args.tech.now.prerequisites c.as_slice.result.now c.in_ok-numbers.numbers.items c.len.result (length c.args.game.now.techs) c.requires.tech.prerequisites c.as_slice.ensures c.in_ok-numbers.ensures c.len.ensures
