use Rattle.std.proofs.Common.{◌≡◌, ◌++◌, ◌∷◌, [], rules}
use Rattle.certificate_file.specs.Said.{SaysFraction}
use Rattle.certificate_file.proofs.Loops.{all_read, one_read}
use Rattle.certificate_file.proofs.reading.fractions_of.Goals as goal

pub loop-value-preserved : goal.loop-value-preserved
loop-value-preserved c =
    let grows : c.add.new.list.items ≡ c.loop-value.found.items ++ c.in-Some.fraction ∷ [] = search rules in
    rw grows (one_read SaysFraction c.args.values.now c.loop-value.value-index c.loop-value.found.items c.value-item.result c.in-Some.fraction c.loop-value-test.true c.value-item.is c.in-Some.ensures c.loop-value.invariant)

pub returns : goal.returns
returns c = rw c.from_vec.ensures (all_read SaysFraction c.args.values.now c.loop-value.value-index c.loop-value.found.items c.loop-value-test.false c.loop-value.invariant)
