use Rattle.std.proofs.Common.{◌∙◌, ◌+◌, ℕ, List, ap, subst, sym, arith}
use Rattle.fluid_variants.specs.Contents.{contents}
use Rattle.fluid_variants.specs.Records.{record_count}
use Rattle.fluid_variants.proofs.PlaceLemmas.{PlacesSoFar, places_few, places_more}
use Rattle.fluid_variants.proofs.places.places_of.Goals as goal

pub overflow_cast-place : goal.overflow_cast-place
overflow_cast-place c =
    let few = places_few c.args.items c.args.lists.now c.loop-list.list-index c.loop-list.places.items c.loop-list.place c.list-item.result c.record_count.result
    c.loop-list-test.true c.list-item.is (c.record_count.ensures ∙ ap record_count c.as_slice.ensures.value) c.requires.few c.loop-list.invariant in
    omega (arith, few)

pub overflow_add-place : goal.overflow_add-place
overflow_add-place c =
    let few = places_few c.args.items c.args.lists.now c.loop-list.list-index c.loop-list.places.items c.loop-list.place c.list-item.result c.record_count.result
    c.loop-list-test.true c.list-item.is (c.record_count.ensures ∙ ap record_count c.as_slice.ensures.value) c.requires.few c.loop-list.invariant in
    omega (arith, few)

pub loop-list-preserved : goal.loop-list-preserved
loop-list-preserved c =
    subst (λ (places : List ℕ). PlacesSoFar c.args.items (contents c.args.lists.now) (c.loop-list.list-index + 1) places (c.loop-list.place + c.record_count.result)) (sym c.in_ok-push.ensures.items)
    (places_more c.args.items c.args.lists.now c.loop-list.list-index c.loop-list.places.items c.loop-list.place c.list-item.result c.record_count.result
    c.loop-list-test.true c.list-item.is (c.record_count.ensures ∙ ap record_count c.as_slice.ensures.value) c.loop-list.invariant)
