use Rattle.std.proofs.Common.{◌≡◌, ◌∙◌, ◌<◌, [], List, ℕ, length, ap, arith, string_bytes}
use Rattle.plan_records.specs.Setups.{group_text, joined}
use Rattle.plan_records.proofs.Folding.{fold_next}
use Rattle.plan_records.proofs.setups.beacons_text.Goals as goal

pub loop-group-preserved : goal.loop-group-preserved
loop-group-preserved c =
    let within : c.loop-group.group-index < length c.args.groups.now = omega (arith, c.loop-group-test.true) in
    fold_next (λ text group. joined text (group_text c.args.game.now group)) [] c.args.groups.now c.loop-group.group-index c.group-item.result
    (string_bytes c.loop-group.text)
    (string_bytes c.join.new.text)
    within
    c.group-item.is
    c.loop-group.invariant
    (c.in_ok-join.ensures ∙ ap (λ (piece : List ℕ). joined (string_bytes c.loop-group.text) piece) (c.as_str.ensures.value ∙ c.in_ok-piece.ensures))
