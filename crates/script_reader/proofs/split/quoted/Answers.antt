use Rattle.std.proofs.Common.{rules, arith, sym, ◌∙◌}
use Rattle.std.proofs.lemmas.Bool.Decides.{nat_tests}
use Rattle.script_reader.proofs.Splits.{plain_step, escape_step}
use Rattle.script_reader.proofs.split.quoted.Goals as goal

pub loop-first-preserved-then-first-eq92 : goal.loop-first-preserved-then-first-eq92
loop-first-preserved-then-first-eq92 c =
    escape_step c.loop-first.word.items c.push.new.self.items c.loop-first.rest.now c.in-Some.behind.now c.in-Some-split_first.further.now c.in-Some.first.now c.in-Some-split_first.letter.now _ _ (search rules) (search rules) (grind (arith, nat_tests)) (grind (arith, nat_tests)) (sym c.escaped.ensures ∙ c.in-Some-escaped.is) (search rules) c.loop-first.invariant

pub loop-first-preserved : goal.loop-first-preserved
loop-first-preserved c =
    plain_step c.loop-first.word.items c.push-else-first-eq92.new.self.items c.loop-first.rest.now c.in-Some.behind.now c.in-Some.first.now _ (search rules) (grind (arith, nat_tests)) (grind (arith, nat_tests)) (search rules) c.loop-first.invariant
