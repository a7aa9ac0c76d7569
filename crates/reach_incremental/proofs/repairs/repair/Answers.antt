-- The changed nodes alone may hold keys at first, and the size of the change bounds the work.
use Rattle.std.proofs.Common.{◌≡◌, ◌+◌, ◌*◌, ◌≤◌, ◌∙◌, ℕ, List, arith, subst, sym}
use Rattle.std.specs.Prelude.{slice_index}
use Rattle.reach_ranks.specs.Rounds.{world_under}
use Rattle.reach_ranks.specs.Given.{size_of, work_left, HoldsKeys, Refreshes}
use Rattle.reach_ranks.proofs.RepairLemmas.{holds-start}
use Rattle.reach_ranks.proofs.SizeLemmas.{work_left-size}
use Rattle.reach_incremental.proofs.RepairLemmas.{whole-back}
use Rattle.reach_incremental.proofs.repairs.repair.Goals as goal

pub settle-requires-clause-keys : goal.settle-requires-clause-keys
settle-requires-clause-keys g c =
    let lent : c.deref.result.now ≡ c.args.ranks.now = c.deref.ensures.value ∙ c.ranks.view_is in
    subst
    (λ (ranks : List ℕ). HoldsKeys (world_under (g.R.Rows.rows c.args.rows.now) c.args.marks) 4294967295 ranks c.refresh_all.new.heap)
    (sym (c.deref_mut.ensures.value ∙ c.ranks.view_is))
    (holds-start
    (world_under (g.R.Rows.rows c.args.rows.now) c.args.marks)
    4294967295
    c.args.ranks.now
    c.args.changed.now
    c.args.heap.now
    c.refresh_all.new.heap
    c.requires.agree.as_long
    (subst (λ (ranks : List ℕ). (n : ℕ) → slice_index ranks n ≤ 4294967295) lent c.refresh_all.ensures.small)
    c.requires.heap
    c.requires.agree.each
    (subst
    (λ (ranks : List ℕ). Refreshes (world_under (g.R.Rows.rows c.args.rows.now) c.args.marks) 4294967295 ranks c.args.changed.now c.args.heap.now c.refresh_all.new.heap)
    lent
    c.refresh_all.ensures.keys))

pub returns-clause-steps : goal.returns-clause-steps
returns-clause-steps g c =
    subst
    (λ (after : List ℕ). c.settle.new.steps ≤ c.args.steps.now + 6 * size_of (g.R.Rows.rows c.args.rows.now) c.args.changed.now c.args.ranks.now after)
    (sym (whole-back c.ranks.inside.of.len c.settle.new.ranks c.ranks.inside.of.items (c.settle.auto.ranks ∙ c.deref_mut.ensures.len)))
    (omega (
      arith,
      c.refresh_all.ensures.steps,
      subst
          (λ (before : List ℕ). c.settle.new.steps ≤ c.refresh_all.new.steps + work_left (world_under (g.R.Rows.rows c.args.rows.now) c.args.marks) before)
          (c.deref_mut.ensures.value ∙ c.ranks.view_is)
          c.settle.ensures.steps,
      work_left-size
          (world_under (g.R.Rows.rows c.args.rows.now) c.args.marks)
          c.args.changed.now
          c.args.ranks.now
          c.settle.new.ranks
          c.settle.ensures.ranks,
    ))
