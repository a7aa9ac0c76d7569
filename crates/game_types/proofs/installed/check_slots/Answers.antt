use Rattle.std.proofs.Common.{◌∙◌, sym, arith}
use Rattle.game_types.proofs.ModuleLemmas.{slots_pass, slots_end, slots_all, count_next, count_all}
use Rattle.game_types.proofs.installed.check_slots.Goals as goal

pub returns-then-left-count-clause-fault : goal.returns-then-left-count-clause-fault
returns-then-left-count-clause-fault c =
    sym (c.loop-good.invariant.fault ∙ slots_end c.loop-good.left c.args.modules.now c.loop-good.good-index (record { 0 = 0 }, 0) c.loop-good-test.true c.if-left-count.true)

pub loop-good-preserved : goal.loop-good-preserved
loop-good-preserved c = record {
  fault = c.loop-good.invariant.fault ∙ slots_pass c.loop-good.left c.args.modules.now c.loop-good.good-index (record { 0 = 0 }, 0) c.loop-good-test.true c.if-left-count.false;
  counted = omega (arith, count_next c.args.modules.now c.loop-good.good-index (record { 0 = 0 }, 0) c.loop-good-test.true);
}

pub returns-clause-fault : goal.returns-clause-fault
returns-clause-fault c = sym (c.loop-good.invariant.fault ∙ slots_all c.loop-good.left c.args.modules.now c.loop-good.good-index (omega arith))

pub returns-clause-counted : goal.returns-clause-counted
returns-clause-counted c = omega (arith, count_all c.args.modules.now c.loop-good.good-index (omega arith))
