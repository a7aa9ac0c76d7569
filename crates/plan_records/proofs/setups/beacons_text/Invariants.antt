use Rattle.std.proofs.Common.{◌≡◌, [], take, string_bytes}
use Rattle.std.specs.Prelude.{fold}
use Rattle.plan_records.specs.Setups.{group_text, joined}
use Rattle.plan_records.proofs.setups.beacons_text.Given as goal

abbrev pub invariant-loop-group : goal.invariant-loop-group
invariant-loop-group l = string_bytes l.text ≡ fold (λ text group. joined text (group_text l.game group)) [] (take l.group-index l.groups)
