use Rattle.std.proofs.Common.{◌∙◌, ap, sym, subst, arith, get_or}
use Rattle.std.specs.Prelude.{filter}
use Rattle.graph_store.specs.Lists.{has_node, Rise}
use Rattle.graph_store.proofs.CommonLemmas.{kept_more, kept_last}
use Rattle.graph_store.proofs.Listing.{list_is}
use Rattle.graph_store.proofs.Walks.{at_self}
use Rattle.graph_store.proofs.common.kept_in_all.Goals as goal

pub common-requires-clause-others : goal.common-requires-clause-others
common-requires-clause-others c =
    let i = c.loop-number.number-index in
    let x = get_or c.args.numbers.now i 0 in
    let within = c.requires.within i 0 c.loop-number-test.true in
    subst Rise (sym (c.as_slice-in-loop-number.ensures.value ∙ list_is c.args.lists.now x c.index-lists-number.result within c.index-lists-number.is)) (c.requires.rise x within)

pub loop-number-preserved : goal.loop-number-preserved
loop-number-preserved c =
    let numbers = c.args.numbers.now in
    let i = c.loop-number.number-index in
    let x = get_or numbers i 0 in
    let within = c.requires.within i 0 c.loop-number-test.true in
    kept_more c.args.lists.now numbers c.args.nodes.items i x c.as_slice-in-loop-number.result.now c.loop-number.kept.items c.in_ok-kept.kept.items c.loop-number-test.true (at_self numbers i 0 c.loop-number-test.true)
    (c.as_slice-in-loop-number.ensures.value ∙ list_is c.args.lists.now x c.index-lists-number.result within c.index-lists-number.is)
    (c.in_ok-kept.ensures ∙ ap (filter (λ n. has_node c.as_slice-in-loop-number.result.now n.0)) c.as_slice.ensures.value) c.loop-number.invariant

pub returns : goal.returns
returns c = kept_last c.args.lists.now c.args.numbers.now c.args.nodes.items c.loop-number.number-index c.loop-number.kept.items (omega (arith, c.loop-number-test.false)) c.loop-number.invariant
