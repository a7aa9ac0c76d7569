use Rattle.std.proofs.Common.{◌≡◌, ◌-◌, ◌++◌, string_bytes}
use Rattle.sample_maker.specs.Draws.{joined}
use Rattle.sample_maker.specs.Script.{milestone}
use Rattle.sample_maker.proofs.script.push_milestones.Given as goal

abbrev pub invariant-loop-j : goal.invariant-loop-j
invariant-loop-j l = string_bytes l.text ≡ string_bytes l.initial.text ++ joined (milestone l.size l.count) (l.j - 1)
