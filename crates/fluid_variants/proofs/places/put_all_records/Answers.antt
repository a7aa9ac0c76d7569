use Rattle.std.proofs.Common.{◌∙◌, ◌++◌, ◌+◌, ap, sym, drop, get_or}
use Rattle.fluid_variants.specs.Contents.{contents}
use Rattle.fluid_variants.specs.Records.{all_records, record_place, records}
use Rattle.fluid_variants.proofs.PlaceLemmas.{records_next}
use Rattle.fluid_variants.proofs.places.put_all_records.Goals as goal

pub loop-number-preserved : goal.loop-number-preserved
loop-number-preserved c =
    ap (λ found. found ++ all_records (record_place c.args.items (contents c.args.lists.now) (c.loop-number.number + 1)) (drop (c.loop-number.number + 1) c.args.fluids.now) (drop (c.loop-number.number + 1) (contents c.args.lists.now)))
    (c.in_ok-put_records.ensures ∙ ap (λ list. c.loop-number.records.items ++ records (record { 0 = get_or c.args.places.now c.loop-number.number 0 }) c.index-fluids-number.result list) c.as_slice.ensures.value)
    ∙ sym (records_next c.args.items c.loop-number.records.items c.args.fluids.now c.args.lists.now c.args.places.now c.loop-number.number c.index-fluids-number.result c.index-lists-number.result
    c.loop-number-test.true c.requires.fluids c.index-fluids-number.is c.index-lists-number.is c.requires.places)
    ∙ c.loop-number.invariant
