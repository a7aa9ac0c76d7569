use Rattle.std.proofs.Common.{◌≡◌, ◌∙◌, ◌++◌, ℕ, List, ap, string_bytes}
use Rattle.std.specs.Prelude.{nat_lt}
use Rattle.plan_base.specs.declared.ids.NodeId.{NodeId}
use Rattle.serde_json.specs.Written.{comma_if}
use Rattle.catalog_text.proofs.Written.{names_more, names_none}
use Rattle.catalog_text.proofs.catalog.write_names.Goals as goal

pub loop-place-init : goal.loop-place-init
loop-place-init c = names_none c.args.game.now c.args.nodes.now (string_bytes c.args.text.now)

pub loop-place-preserved : goal.loop-place-preserved
loop-place-preserved c =
    let none : NodeId = record { 0 = 0 } in
    names_more c.args.game.now c.args.nodes.now c.loop-place.place none (string_bytes c.args.text.now) (string_bytes c.loop-place.text) (string_bytes c.push_later.new.text) c.loop-place-test.true c.loop-place.invariant
    (c.in_ok-push_later.ensures ∙ ap (λ (t : List ℕ). string_bytes c.loop-place.text ++ (comma_if (nat_lt 0 c.loop-place.place) ++ t)) (c.as_str.ensures.value ∙ c.in_ok-name.ensures))
