use Rattle.std.proofs.Common.{◌≡◌, drop}
use Rattle.game_types.specs.Temperatures.{first_where, is_fit}
use Rattle.game_types.proofs.choices.first_fit.Given as goal

abbrev pub invariant-loop-own : goal.invariant-loop-own
invariant-loop-own l = first_where (λ own. is_fit l.game l.good.0 l.low l.high own.0) l.at ≡ first_where (λ own. is_fit l.game l.good.0 l.low l.high own.0) (drop l.own-index l.at)
