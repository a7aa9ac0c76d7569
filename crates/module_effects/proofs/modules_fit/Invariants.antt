use Rattle.std.proofs.Common.{◌≡◌, drop}
use Rattle.game_types.specs.Modules.{modules_fit}
use Rattle.module_effects.proofs.modules_fit.Given as goal

abbrev pub invariant-loop-good : goal.invariant-loop-good
invariant-loop-good l = modules_fit l.game l.allowed l.activity l.modules ≡ modules_fit l.game l.allowed l.activity (drop l.good-index l.modules)
