use Rattle.std.proofs.Common.{◌∙◌, ap, refl, arith, unsigned_abs}
use Rattle.std.specs.Int.{w64}
use Rattle.std.proofs.lemmas.Int.{to_z-of_z}
use Rattle.number_rows.specs.Tops.{top_at}
use Rattle.number_rows.proofs.Lists.{fits_at, combined_within}
use Rattle.number_rows.proofs.tops.combine.Goals as goal

pub combined_bound-most-requires : goal.combined_bound-most-requires
combined_bound-most-requires c =
    rw (c.unsigned_abs.ensures.value ∙ ap unsigned_abs (to_z-of_z w64 c.args.scale c.ranges.scale), c.unsigned_abs-2.ensures.value ∙ ap unsigned_abs (to_z-of_z w64 c.args.factor c.ranges.factor)) c.requires.fits

pub combine_by-requires-clause-tops : goal.combine_by-requires-clause-tops
combine_by-requires-clause-tops c = λ k lt. omega (arith, c.requires.within k lt, c.requires.bound_small)

pub combine_by-requires-clause-others : goal.combine_by-requires-clause-others
combine_by-requires-clause-others c = λ k lt. omega (arith, c.requires.others_within k lt, c.requires.other_bound_small)

pub combine_by-requires-clause-fits : goal.combine_by-requires-clause-fits
combine_by-requires-clause-fits c = λ k lt.
    let t = top_at c.args.tops.now k in
    let o = top_at c.args.others.now k in
    fits_at t t c.args.scale _ o o c.args.factor _ c.args.bound c.args.other_bound refl (to_z-of_z w64 c.args.scale c.ranges.scale) refl (to_z-of_z w64 c.args.factor c.ranges.factor)
    (c.requires.within k lt) (c.requires.others_within k (omega (arith, lt, c.requires.lengths))) c.requires.fits

pub returns-clause-within : goal.returns-clause-within
returns-clause-within c =
    let b = c.combined_bound-most in
    combined_within c.args.tops.now c.args.others.now c.combine_by.new.tops c.args.scale _ c.args.factor _ c.args.bound c.args.other_bound b.result
    (b.ensures.value ∙ rw (c.unsigned_abs.ensures.value ∙ ap unsigned_abs (to_z-of_z w64 c.args.scale c.ranges.scale), c.unsigned_abs-2.ensures.value ∙ ap unsigned_abs (to_z-of_z w64 c.args.factor c.ranges.factor)) refl)
    (to_z-of_z w64 c.args.scale c.ranges.scale) (to_z-of_z w64 c.args.factor c.ranges.factor) c.requires.within c.requires.others_within c.requires.lengths c.combine_by.ensures
