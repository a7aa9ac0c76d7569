use Rattle.std.proofs.Common.{◌+◌, ◌∙◌, sym, ap, arith}
use Rattle.reach_ranks.specs.Ranks.{is_one_to, within}
use Rattle.reach_ranks.proofs.Early.{fails_by}
use Rattle.reach_ranks.proofs.given.all_rank.Goals as goal

pub returns-then-rank-eq0 : goal.returns-then-rank-eq0
returns-then-rank-eq0 c = λ k lt.
    sym
    (fails_by
    (within c.args.ranks.now k)
    c.args.members.now
    c.loop-m.m-index
    0
    (is_one_to (k + 1) c.loop-m.rank)
    (is_one_to (k + 1) c.next_rank.result)
    (omega arith)
    (c.loop-m.invariant k lt)
    (c.next_rank.ensures k lt)
    (sym (c.later-rank.ensures (k + 1)) ∙ ap (is_one_to (k + 1)) c.if-rank-eq0.true))
