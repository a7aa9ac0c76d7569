use Rattle.std.proofs.Common.{arith, get_or}
use Rattle.graph_store.proofs.Walks.{at_self}
use Rattle.graph_store.proofs.WordLemmas.{listed_last, listed_more}
use Rattle.graph_store.proofs.words.nodes_of.Goals as goal

pub loop-place-preserved : goal.loop-place-preserved
loop-place-preserved c =
    listed_more c.args.first c.args.words.now c.loop-place.place (get_or c.args.words.now c.loop-place.place 0) c.loop-place.nodes.items c.push_word.new.nodes.items (omega (arith, c.loop-place-test.true))
    (at_self c.args.words.now c.loop-place.place 0 (omega (arith, c.loop-place-test.true))) c.in_ok-push_word.ensures c.loop-place.invariant

pub returns : goal.returns
returns c = listed_last c.args.first c.args.words.now c.loop-place.place c.loop-place.nodes.items (omega (arith, c.loop-place-test.false)) c.loop-place.invariant
