use Rattle.std.proofs.Common.{◌≡◌, ◌∙◌, ◌<◌, ◌^◌, length, arith, unsigned_abs}
use Rattle.std.specs.Prelude.{ℕ, ℤ, pos, slice_index_or}
use Rattle.std.specs.Int.{w64}
use Rattle.std.proofs.lemmas.Int.{to_z-of_z}
use Rattle.number_rows.specs.Tops.{top_at}
use Rattle.number_rows.proofs.Lists.{wrap, IsCombinedBelow, combined_at, combined_end, combined_gap, combined_more, same_combined}
use Rattle.number_rows.proofs.Places.{IsFirstPlace, first_place, later_places, no_place}
use Rattle.number_rows.proofs.tops.combine_at.Goals as goal

pub loop-rest-preserved : goal.loop-rest-preserved
loop-rest-preserved c =
    let ps = c.loop-rest.rest.now in
    let k : ℕ = slice_index_or ps 0 0 in
    let n : ℕ = length c.args.others.now in
    let t : ℤ = top_at c.args.tops.now k in
    let o : ℤ = top_at c.args.others.now k in
    let some : 0 < length ps = omega (arith, c.in-len1-up.len_at_least) in
    let one : wrap c.args.scale ≡ pos 1 = to_z-of_z w64 c.args.scale c.ranges.scale ∙ c.requires.one in
    let f : IsFirstPlace (λ j. top_at c.args.others.now j ≡ pos 0) c.loop-rest.from k n = first_place _ c.loop-rest.from ps n some c.loop-rest.invariant.0 in
    let ht : unsigned_abs t < 2 ^ 62 = c.requires.tops k (omega (arith, f.inside, c.requires.lengths)) in
    let ho : unsigned_abs o < 2 ^ 62 = c.requires.others k f.inside in
    let before : IsCombinedBelow c.args.tops.now (wrap c.args.scale) c.args.others.now (wrap c.args.factor) c.loop-rest.tops k =
    combined_gap c.args.tops.now (wrap c.args.scale) c.args.others.now (wrap c.args.factor) c.loop-rest.tops c.loop-rest.from k one f.after f.gap c.loop-rest.invariant.1 in (
      later_places (λ j. top_at c.args.others.now j ≡ pos 0) c.loop-rest.from ps n _ some (omega arith) c.loop-rest.invariant.0,
      combined_more c.args.tops.now (wrap c.args.scale) c.args.others.now (wrap c.args.factor) c.loop-rest.tops k (wrap c.combined-top.result) (omega (arith, f.inside, c.requires.lengths, c.loop-rest.auto.tops))
          (combined_at c.loop-rest.tops c.args.others.now (wrap c.args.scale) (wrap c.args.factor) c.combined-top.result t o k (before.rest k (omega arith)) (λ i. o) ht ho
          c.combined-top.ensures.value c.combined-top.ensures.small) before,
    )

pub returns : goal.returns
returns c =
    same_combined c.args.tops.now c.args.others.now c.loop-rest.tops c.args.scale (wrap c.args.scale) c.args.factor (wrap c.args.factor) (to_z-of_z w64 c.args.scale c.ranges.scale) (to_z-of_z w64 c.args.factor c.ranges.factor)
    (record {
      length_is = c.loop-rest.auto.tops;
      numbers = λ k q.
          combined_end c.args.tops.now (wrap c.args.scale) c.args.others.now (wrap c.args.factor) c.loop-rest.tops c.loop-rest.from (length c.args.others.now) (to_z-of_z w64 c.args.scale c.ranges.scale ∙ c.requires.one)
          (no_place _ c.loop-rest.from c.loop-rest.rest.now (length c.args.others.now) (omega (arith, c.in_default.len_below)) c.loop-rest.invariant.0) c.loop-rest.invariant.1 k (omega (arith, q, c.requires.lengths));
    })
