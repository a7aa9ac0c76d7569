use Rattle.std.proofs.Common.{rules}
use Rattle.std.proofs.lemmas.Fn.{always_returns_same}
use Rattle.depend_index.proofs.CoolestLemmas.{coolest_are_first, cooler_nodes, cooler_nodes_order, same_nodes}
use Rattle.depend_index.proofs.temperatures.put_coolest_first.Goals as goal

pub returns-clause-same : goal.returns-clause-same
returns-clause-same c = λ n. same_nodes c.args.nodes.now c.sort_unstable_by.new.self n c.sort_unstable_by.ensures.permutation

pub returns-clause-order : goal.returns-clause-order
returns-clause-order c =
    coolest_are_first c.args.fluids.now c.args.first c.sort_unstable_by.new.self
    (c.sort_unstable_by.ensures.sorted (cooler_nodes c.args.fluids.now c.args.first) (cooler_nodes_order c.args.fluids.now c.args.first) (always_returns_same _ _ _ (λ a r f' k. search rules)))
