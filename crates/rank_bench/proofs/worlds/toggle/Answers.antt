-- All nodes agree but the one whose bar was changed.
use Rattle.std.proofs.Common.{false, not, refl, get_or, set}
use Rattle.std.specs.Prelude.{◌∷◌, []}
use Rattle.milestone_masks.proofs.ChangeLemmas.{agree-in_worlds, bar-changed}
use Rattle.rank_bench.proofs.worlds.toggle.Goals as goal

pub repair_all-requires-clause-agree : goal.repair_all-requires-clause-agree
repair_all-requires-clause-agree c =
    agree-in_worlds
    c.args.graph.now
    c.args.graph.now
    c.args.barred.now
    (set c.args.barred.now c.args.node.0 (not (get_or c.args.barred.now c.args.node.0 false)))
    c.args.granted.now
    c.args.granted.now
    (c.args.node ∷ [])
    c.args.worlds.now
    refl
    (bar-changed c.args.graph.now c.args.barred.now c.args.granted.now c.args.node (not (get_or c.args.barred.now c.args.node.0 false)))
    c.requires.marks
    c.requires.worlds
