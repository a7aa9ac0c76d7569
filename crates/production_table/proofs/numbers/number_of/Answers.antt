use Rattle.std.proofs.Common.{◌≡◌, ◌∙◌, sym, arith}
use Rattle.std.specs.Prelude.{◌==◌, true, false}
use Rattle.std.proofs.lemmas.Bool.Decides.{nat_tests}
use Rattle.game_types.proofs.Walks.{next}
use Rattle.production_table.proofs.NumberLemmas.{find_end, find_pass, find_stop}
use Rattle.production_table.proofs.numbers.number_of.Goals as goal

pub returns-then-pair-good : goal.returns-then-pair-good
returns-then-pair-good c =
    let at = next c.args.pairs.now c.loop-pair.pair-index c.pair-item.result c.loop-pair-test.true c.pair-item.is in
    let same : (c.pair-item.result.0.0 == c.args.good.0) ≡ true = grind (arith, nat_tests) in
    sym (c.loop-pair.invariant ∙ find_stop _ _ c.pair-item.result c.args.good at same)

pub loop-pair-preserved : goal.loop-pair-preserved
loop-pair-preserved c =
    let at = next c.args.pairs.now c.loop-pair.pair-index c.pair-item.result c.loop-pair-test.true c.pair-item.is in
    let apart : (c.pair-item.result.0.0 == c.args.good.0) ≡ false = grind (arith, nat_tests, c.if-pair-good.false) in
    c.loop-pair.invariant ∙ find_pass _ _ c.pair-item.result c.args.good at apart

pub returns : goal.returns
returns c = sym (c.loop-pair.invariant ∙ find_end c.args.pairs.now c.loop-pair.pair-index c.args.good c.loop-pair-test.false)
