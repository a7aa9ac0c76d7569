use Rattle.std.proofs.Common.{◌≡◌, ◌-◌, ◌++◌, string_bytes}
use Rattle.sample_maker.specs.Draws.{joined, after}
use Rattle.sample_maker.specs.Script.{forbid_at}
use Rattle.sample_maker.proofs.script.push_forbids.Given as goal

abbrev pub invariant-loop-j : goal.invariant-loop-j
invariant-loop-j l =
    (string_bytes l.text ≡ string_bytes l.initial.text ++ joined (forbid_at l.initial.draws.state l.size) (l.j - 1))
    × (l.draws.state ≡ after (l.j - 1) l.initial.draws.state)
