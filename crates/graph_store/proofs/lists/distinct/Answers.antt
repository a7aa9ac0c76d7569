use Rattle.std.proofs.Common.{◌∙◌, ap, sym, subst, eqb}
use Rattle.std.specs.List.Sorted.{IsStrictlyIncreasing}
use Rattle.std.proofs.lemmas.List.Filters.{dedup_is}
use Rattle.graph_store.specs.Lists.{is_among}
use Rattle.graph_store.proofs.NumbersLemmas.{distinct_rises, distinct_same}
use Rattle.graph_store.proofs.lists.distinct.Goals as goal

pub returns-clause-rises : goal.returns-clause-rises
returns-clause-rises c = subst IsStrictlyIncreasing (sym (dedup_is eqb c.sort_unstable.new.self.items c.dedup.new.self.items c.dedup.ensures.filtered)) (distinct_rises c.sort_unstable.new.self.items c.sort_unstable.ensures.sorted)

pub returns-clause-same : goal.returns-clause-same
returns-clause-same c = λ k. ap (λ l. is_among l k) (dedup_is eqb c.sort_unstable.new.self.items c.dedup.new.self.items c.dedup.ensures.filtered) ∙ distinct_same c.args.numbers.items c.sort_unstable.new.self.items c.sort_unstable.ensures.permutation k
