use Rattle.std.proofs.Common.{◌∙◌, List, ap, subst, sym, arith}
use Rattle.std.specs.Prelude.{All, Vec}
use Rattle.std.specs.Global.{Global}
use Rattle.fractions.specs.Fraction.{Fraction}
use Rattle.fluid_variants.specs.Temperatures.{IsRising}
use Rattle.fluid_variants.specs.Contents.{contents}
use Rattle.fluid_variants.specs.Records.{list_at, variant_offset}
use Rattle.fluid_variants.proofs.PlaceLemmas.{made_of}
use Rattle.fluid_variants.proofs.places.Places.made.Goals as goal

pub overflow_cast-result : goal.overflow_cast-result
overflow_cast-result c =
    let found = (made_of c.self.inside.items (contents c.self.inside.lists.items) c.self.inside.places.items c.self.inside.last c.args.self.now c.args.made.now c.plain-plain.result c.saturating_sub-number.result c.offset_in-offset.result
    c.self.invariant c.self.view_is c.plain-plain.ensures c.saturating_sub-number.ensures
    (c.offset_in-offset.ensures ∙ ap (λ lists. variant_offset (list_at (contents lists) c.saturating_sub-number.result) c.args.made.now.at) c.as_slice.ensures.value)).0 in
    omega (arith, found)

pub overflow_add-result : goal.overflow_add-result
overflow_add-result c =
    let found = (made_of c.self.inside.items (contents c.self.inside.lists.items) c.self.inside.places.items c.self.inside.last c.args.self.now c.args.made.now c.plain-plain.result c.saturating_sub-number.result c.offset_in-offset.result
    c.self.invariant c.self.view_is c.plain-plain.ensures c.saturating_sub-number.ensures
    (c.offset_in-offset.ensures ∙ ap (λ lists. variant_offset (list_at (contents lists) c.saturating_sub-number.result) c.args.made.now.at) c.as_slice.ensures.value)).0 in
    omega (arith, found)

pub returns : goal.returns
returns c =
    (made_of c.self.inside.items (contents c.self.inside.lists.items) c.self.inside.places.items c.self.inside.last c.args.self.now c.args.made.now c.plain-plain.result c.saturating_sub-number.result c.offset_in-offset.result
    c.self.invariant c.self.view_is c.plain-plain.ensures c.saturating_sub-number.ensures
    (c.offset_in-offset.ensures ∙ ap (λ lists. variant_offset (list_at (contents lists) c.saturating_sub-number.result) c.args.made.now.at) c.as_slice.ensures.value)).1

pub offset_in-offset-requires : goal.offset_in-offset-requires
offset_in-offset-requires c = subst (λ (ls : List (Vec Fraction Global)). All IsRising (contents ls)) (sym c.as_slice.ensures.value) c.self.invariant.rising
