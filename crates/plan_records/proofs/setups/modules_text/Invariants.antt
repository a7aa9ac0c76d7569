use Rattle.std.proofs.Common.{◌≡◌, [], take, string_bytes}
use Rattle.std.specs.Prelude.{fold}
use Rattle.plan_records.specs.Setups.{joined, module_text}
use Rattle.plan_records.proofs.setups.modules_text.Given as goal

abbrev pub invariant-loop-pair : goal.invariant-loop-pair
invariant-loop-pair l = string_bytes l.text ≡ fold (λ text pair. joined text (module_text l.game pair)) [] (take l.pair-index l.modules)
