use Rattle.game_types.specs.Temperatures.{is_within}
use Rattle.depend_index.specs.Coolest.{temperature_of}
use Rattle.depend_index.proofs.CoolestLemmas.{WithinSoFar}
use Rattle.depend_index.proofs.temperatures.numbers_within.Given as goal

abbrev pub invariant-loop-place : goal.invariant-loop-place
invariant-loop-place l = WithinSoFar (λ n. is_within l.low l.high (temperature_of l.fluids l.first n)) l.nodes l.from l.place l.numbers.items
