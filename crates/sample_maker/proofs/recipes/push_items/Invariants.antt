use Rattle.std.proofs.Common.{◌≡◌, ◌-◌, ◌++◌, string_bytes}
use Rattle.sample_maker.specs.Draws.{joined}
use Rattle.sample_maker.specs.Dump.{item}
use Rattle.sample_maker.proofs.recipes.push_items.Given as goal

abbrev pub invariant-loop-k : goal.invariant-loop-k
invariant-loop-k l = string_bytes l.text ≡ string_bytes l.initial.text ++ joined item (l.k - 1)
