use Rattle.std.proofs.Common.{◌≡◌, map}
use Rattle.std.specs.List.{flat_map}
use Rattle.plan_records.specs.Records.{price_of}
use Rattle.plan_records.specs.Texts.{record_text}
use Rattle.plan_records.proofs.texts.prices_text.Given as goal

abbrev pub invariant-loop-good : goal.invariant-loop-good
invariant-loop-good l = l.text.items ≡ flat_map record_text (map (price_of l.game) (map (λ p. (p.0.now, p.1.now)) l.yielded))
