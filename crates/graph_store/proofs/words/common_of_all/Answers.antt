use Rattle.std.proofs.Common.{◌∙◌, ap, get_or, length}
use Rattle.std.specs.Int.Bits.{bit_and}
use Rattle.graph_store.proofs.Walks.{at_self}
use Rattle.graph_store.proofs.WordLemmas.{kept_bits_more, words_is}
use Rattle.graph_store.proofs.words.common_of_all.Goals as goal

pub loop-number-preserved : goal.loop-number-preserved
loop-number-preserved c =
    let numbers = c.args.numbers.now in
    let i = c.loop-number.number-index in
    let x = get_or numbers i 0 in
    let within = c.requires.within i 0 c.loop-number-test.true in
    kept_bits_more c.args.words.now numbers i x c.as_slice-in-loop-number-2.result.now c.loop-number.kept.items c.in_ok-kept-2.kept.items c.loop-number-test.true (at_self numbers i 0 c.loop-number-test.true)
    (c.as_slice-in-loop-number-2.ensures.value ∙ words_is c.args.words.now x c.index-words-number.result within c.index-words-number.is)
    (λ w. c.in_ok-kept-2.ensures.bits w ∙ ap (λ l. bit_and (get_or l w 0) (get_or c.as_slice-in-loop-number-2.result.now w 0)) c.as_slice-in-loop-number.ensures.value)
    (c.in_ok-kept-2.ensures.length ∙ ap length c.as_slice-in-loop-number.ensures.value) c.loop-number.invariant
