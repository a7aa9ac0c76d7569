use Rattle.std.proofs.Common.{subst}
use Rattle.std.specs.Prelude.{None}
use Rattle.reach_ranks.specs.Rounds.{World}
use Rattle.reach_ranks.specs.Ranks.{AreRanks}
use Rattle.planning_state.proofs.MilestoneLemmas.{same_world, whole-as}
use Rattle.planning_state.proofs.QuestionLemmas.{few-ranks, first-steps}
use Rattle.planning_state.proofs.loading.first_worlds.Goals as goal

pub ranks_afresh-requires : goal.ranks_afresh-requires
ranks_afresh-requires g c = whole-as c.args.book.now (g.R.Rows.rows c.args.graph.now) c.as_slice.result.now c.as_slice-2.result.now None c.requires.sound c.requires.rows c.as_slice.ensures c.as_slice-2.ensures

pub make-requires : goal.make-requires
make-requires g c =
    few-ranks c.args.book.now c.in_ok-ranks.ranks None c.requires.sound
    (subst (λ (w : World). AreRanks w c.in_ok-ranks.ranks) (same_world (g.R.Rows.rows c.args.graph.now) _ c.as_slice.result.now _ c.as_slice-2.result.now _ None c.requires.rows c.as_slice.ensures c.as_slice-2.ensures) c.in_ok-ranks.ensures.ranks)

pub returns-clause-steps : goal.returns-clause-steps
returns-clause-steps g c = first-steps c.make.result c.args.book.now (g.R.Rows.rows c.args.graph.now) c.args.steps.now c.ranks_afresh.new.steps c.requires.rows c.in_ok-ranks.ensures.steps
