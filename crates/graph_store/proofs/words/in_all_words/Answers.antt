use Rattle.std.proofs.Common.{◌∙◌, ap}
use Rattle.graph_store.specs.Words.{in_words}
use Rattle.graph_store.proofs.WordLemmas.{common_by_words}
use Rattle.graph_store.proofs.words.in_all_words.Goals as goal

pub returns : goal.returns
returns c =
    common_by_words c.args.first c.args.lists.now c.args.words.now c.args.numbers.now c.in_ok-kept.kept.items c.in_ok-nodes.nodes.items c.requires.words c.requires.within c.requires.full c.in_ok-kept.ensures.bits
    (c.in_ok-nodes.ensures ∙ ap (in_words c.args.first) c.as_slice.ensures.value)
