use Rattle.std.proofs.Common.{ap, map, ◌∙◌}
use Rattle.std.specs.List.{flat_map}
use Rattle.std.proofs.lemmas.Iterator.{YieldsList-from_slice, YieldsList-from_zip}
use Rattle.std.proofs.lemmas.Iterator.Consumers.{YieldsList-end}
use Rattle.plan_records.specs.Records.{price_of}
use Rattle.plan_records.specs.Texts.{record_text}
use Rattle.plan_records.proofs.texts.prices_text.Goals as goal

pub returns : goal.returns
returns c =
    let end = YieldsList-end (YieldsList-from_zip (YieldsList-from_slice c.args.goods.now cc) (YieldsList-from_slice c.args.prices.now cc)) c.loop-good.yielded c.loop-good.good-iterator c.loop-good.yielded_by c.next.result c.next.new.self c.in-None.is c.next.ensures.steps in
    c.loop-good.invariant ∙ ap (λ pairs. flat_map record_text (map (price_of c.args.game.now) pairs)) end.0
