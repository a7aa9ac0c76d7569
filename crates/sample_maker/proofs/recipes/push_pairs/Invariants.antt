use Rattle.std.proofs.Common.{◌≡◌, ◌-◌, ◌++◌, string_bytes, ◌*◌}
use Rattle.sample_maker.specs.Draws.{joined, after}
use Rattle.sample_maker.specs.Dump.{recipes_at}
use Rattle.sample_maker.proofs.recipes.push_pairs.Given as goal

abbrev pub invariant-loop-k : goal.invariant-loop-k
invariant-loop-k l =
    (string_bytes l.text ≡ string_bytes l.initial.text ++ joined (recipes_at l.initial.draws.state) (l.k - 1))
    × (l.draws.state ≡ after (3 * (l.k - 1)) l.initial.draws.state)
