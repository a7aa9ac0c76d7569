use Rattle.std.proofs.Common.{◌∙◌, ◌++◌, ap, append-nil, sym}
use Rattle.graph_store.proofs.WordLemmas.{none_set}
use Rattle.graph_store.proofs.words.push_word.Goals as goal

pub returns-then-word-eq0 : goal.returns-then-word-eq0
returns-then-word-eq0 c = sym (append-nil c.args.nodes.now.items) ∙ ap (λ l. c.args.nodes.now.items ++ l) (sym (none_set c.args.first c.args.word c.if-word-eq0.true))
