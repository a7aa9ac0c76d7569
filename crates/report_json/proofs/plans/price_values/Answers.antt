use Rattle.std.proofs.Common.{ap, map, ◌∙◌}
use Rattle.std.proofs.lemmas.Iterator.{YieldsList-from_slice, YieldsList-from_zip}
use Rattle.std.proofs.lemmas.Iterator.Consumers.{YieldsList-end}
use Rattle.report_json.specs.Replies.{price_value}
use Rattle.report_json.proofs.plans.price_values.Goals as goal

pub returns : goal.returns
returns c =
    let end = YieldsList-end (YieldsList-from_zip (YieldsList-from_slice c.args.goods.now cc) (YieldsList-from_slice c.args.prices.now cc)) c.loop-good.yielded c.loop-good.good-iterator c.loop-good.yielded_by c.next.result c.next.new.self c.in-None.is c.next.ensures.steps in
    c.loop-good.invariant ∙ ap (λ pairs. map (price_value c.args.game.now) pairs) end.0
