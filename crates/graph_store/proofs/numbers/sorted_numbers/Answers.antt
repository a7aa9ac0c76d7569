use Rattle.std.proofs.Common.{◌∙◌, sym, subst, eqb, List, ℕ, ◌<◌}
use Rattle.std.specs.Prelude.{All}
use Rattle.std.proofs.lemmas.List.Filters.{dedup_is}
use Rattle.graph_store.proofs.NumbersLemmas.{sorted_numbers, sorted_below}
use Rattle.graph_store.proofs.numbers.sorted_numbers.Goals as goal

pub returns-clause-numbers : goal.returns-clause-numbers
returns-clause-numbers c =
    dedup_is eqb c.sort_unstable.new.self.items c.dedup.new.self.items c.dedup.ensures.filtered
    ∙ sorted_numbers c.args.count c.args.numbers.items c.sort_unstable.new.self.items c.sort_unstable.ensures.permutation c.sort_unstable.ensures.sorted c.requires

pub returns-clause-below : goal.returns-clause-below
returns-clause-below c =
    let below : List ℕ → Type 0 = λ numbers. All (λ item. item < c.args.count) numbers in
    subst below (sym (dedup_is eqb c.sort_unstable.new.self.items c.dedup.new.self.items c.dedup.ensures.filtered))
    (sorted_below c.args.count c.args.numbers.items c.sort_unstable.new.self.items c.sort_unstable.ensures.permutation c.requires)
