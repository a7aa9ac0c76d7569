-- The key is the least of the live lanes.
use Rattle.std.proofs.Common.{◌∙◌, ℕ, Option, ap, sym, arith}
use Rattle.std.specs.Prelude.{slice_set}
use Rattle.reach_incremental.specs.Lanes.{worlds_under}
use Rattle.reach_incremental.specs.Keys.{as_key}
use Rattle.reach_incremental.proofs.LaneLemmas.{lane-at}
use Rattle.reach_incremental.proofs.KeyLemmas.{right_key-is}
use Rattle.reach_incremental.proofs.visits.refresh.Goals as goal

pub returns-clause-key : goal.returns-clause-key
returns-clause-key g c =
    c.put.ensures
    ∙ ap
    (λ (key : Option ℕ). slice_set c.args.heap.now c.args.node.0 key)
    (c.as_key.ensures
    ∙ (ap (λ k. as_key k) c.least_key-least.ensures
    ∙ right_key-is
    (worlds_under (g.R.Rows.rows c.args.rows.now) c.args.marks)
    c.args.ranks.now
    c.args.node.0
    c.args.live.now
    _
    c.given_lanes-by_row.result
    c.requires.live
    (λ l lt. sym (lane-at c.args.ranks.now c.args.node.0 l _ (omega arith)))
    c.given_lanes-by_row.ensures.given))
