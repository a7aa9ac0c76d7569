use Rattle.std.proofs.Common.{◌<◌, ◌≤◌, ◌+◌, ◌-◌, List, drop, length, subst, sym, arith}
use Rattle.plan_base.proofs.Walks.{drop_all, next}
use Rattle.fluid_variants.specs.declared.made.Made.{Made}
use Rattle.fluid_variants.specs.Contents.{contents}
use Rattle.fluid_variants.proofs.Contents.{PutSoFar, length_contents, put_done, put_next, put_rises}
use Rattle.fluid_variants.proofs.lists.put_all.Goals as goal

pub loop-made-preserved : goal.loop-made-preserved
loop-made-preserved c =
    let one = c.made-item.result in
    let there : (c.args.items ≤ one.good.0) × (one.good.0 < c.args.items + length c.args.lists.now) =
    subst (λ (m : Made). (c.args.items ≤ m.good.0) × (m.good.0 < c.args.items + length c.args.lists.now)) (sym c.made-item.is) (c.requires.there c.loop-made.made-index one c.loop-made-test.true) in
    let long = length_contents c.args.lists.now in
    let kept = c.loop-made.invariant.put.as_long in
    let from = there.0 in
    let below = there.1 in
    record {
      put = put_next c.args.items c.args.all.now (drop (c.loop-made.made-index + 1) c.args.all.now) one (contents c.args.lists.now) (contents c.loop-made.lists) (contents c.put_made.new.lists)
          there.0 (omega (arith, below, long)) c.in_ok-put_made.ensures
          (subst (λ (rest : List Made). PutSoFar c.args.items c.args.all.now rest (contents c.args.lists.now) (contents c.loop-made.lists)) (next c.args.all.now c.loop-made.made-index one c.loop-made-test.true c.made-item.is) c.loop-made.invariant.put);
      rising = put_rises (contents c.loop-made.lists) (contents c.put_made.new.lists) (one.good.0 - c.args.items) one.at (omega (arith, from, below, long, kept)) c.loop-made.invariant.rising c.in_ok-put_made.ensures;
    }

pub returns : goal.returns
returns c =
    put_done c.args.items c.args.all.now (contents c.args.lists.now) (contents c.loop-made.lists)
    (subst (λ (rest : List Made). PutSoFar c.args.items c.args.all.now rest (contents c.args.lists.now) (contents c.loop-made.lists)) (drop_all c.args.all.now c.loop-made.made-index (omega (arith, c.loop-made-test.false))) c.loop-made.invariant.put)
