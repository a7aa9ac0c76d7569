use Rattle.std.proofs.Common.{arith, refl}
use Rattle.graph_store.proofs.WordLemmas.{is_set, word_first, word_more}
use Rattle.graph_store.proofs.words.push_bits.Goals as goal

pub loop-bit-init : goal.loop-bit-init
loop-bit-init c = word_first c.args.first c.args.word c.args.nodes.now.items

pub loop-bit-preserved : goal.loop-bit-preserved
loop-bit-preserved c =
    word_more c.args.first c.args.word c.args.nodes.now.items c.loop-bit.bit c.loop-bit.nodes.items c.push_where.new.nodes.items (is_set c.args.word c.loop-bit.bit) (omega (arith, c.loop-bit-test.true)) refl
    (rw (c.is_set.ensures) at c.in_ok-push_where.ensures) c.loop-bit.invariant
