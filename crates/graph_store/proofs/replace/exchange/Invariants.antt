use Rattle.graph_store.proofs.ExchangeLemmas.{AreExchangedTo}
use Rattle.graph_store.proofs.replace.exchange.Given as goal

abbrev pub invariant-loop-i : goal.invariant-loop-i
invariant-loop-i l = AreExchangedTo l.i l.initial.rows l.rows l.initial.changes l.changes
