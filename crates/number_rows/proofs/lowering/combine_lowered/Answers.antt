use Rattle.std.proofs.Common.{◌≡◌, ◌∙◌, ℕ, length, sym, subst, arith}
use Rattle.std.specs.Prelude.{pos, slice_index_or}
use Rattle.std.specs.Int.{w64, ◌∣◌}
use Rattle.std.proofs.Math.Nat.{dvd_trans, dvd-mul_right}
use Rattle.std.proofs.lemmas.Bool.{OnTrue_at}
use Rattle.std.proofs.lemmas.Int.{to_z-of_z}
use Rattle.number_rows.specs.Lowered.{IsLoweredBelow}
use Rattle.number_rows.specs.Shared.{IsShared}
use Rattle.number_rows.specs.Tops.{top_at}
use Rattle.number_rows.proofs.Lists.{wrap}
use Rattle.number_rows.proofs.Parts.{first_some}
use Rattle.number_rows.proofs.Places.{IsFirstPlace, first_place, later_places, no_place}
use Rattle.number_rows.proofs.Quotients.{lowered_none, lowered_gap, lowered_all}
use Rattle.number_rows.proofs.lowering.combine_lowered.Goals as goal

pub loop-rest-init : goal.loop-rest-init
loop-rest-init c =
    let a = c.likely-shared.result.scale in
    let s : IsShared _ c.args.bottom c.likely-shared.result.common a c.likely-shared.result.factor = OnTrue_at c.if-not-is_of.false c.is_of.ensures in (
      c.requires.places,
      subst (λ (k : ℕ). k ∣ c.args.bottom) (sym c.new-over.ensures.divisor) (subst (λ (n : ℕ). a ∣ n) s.bottom_is (dvd-mul_right a c.likely-shared.result.common)),
      c.clear.ensures.length_is ∙ c.requires.quotients,
      subst (λ (k : ℕ). IsLoweredBelow c.args.tops.now (wrap c.args.scale) c.args.others.now (wrap c.args.factor) k c.new-over.result.bound c.clear.new.tops 0) (sym c.new-over.ensures.divisor)
          (subst (λ (k : ℕ). IsLoweredBelow c.args.tops.now (wrap c.args.scale) c.args.others.now (wrap c.args.factor) a k c.clear.new.tops 0) (sym c.new-over.ensures.bound)
          (lowered_none c.args.tops.now (wrap c.args.scale) c.args.others.now (wrap c.args.factor) a c.clear.new.tops (first_some a c.likely-shared.result.common c.args.bottom s.bottom_is c.requires.positive) s.scale_small c.clear.ensures.zero)),
      omega arith,
    )

pub put_quotient-requires-clause-inside : goal.put_quotient-requires-clause-inside
put_quotient-requires-clause-inside c =
    let f : IsFirstPlace (λ j. (top_at c.args.tops.now j ≡ pos 0) × (top_at c.args.others.now j ≡ pos 0)) c.loop-rest.from (slice_index_or c.loop-rest.rest.now 0 0) (length c.args.tops.now) = first_place _ c.loop-rest.from c.loop-rest.rest.now (length c.args.tops.now) (omega (arith, c.in-len1-up.len_at_least)) c.loop-rest.invariant.0 in
    f.inside

pub put_quotient-requires-clause-below : goal.put_quotient-requires-clause-below
put_quotient-requires-clause-below c =
    let f : IsFirstPlace (λ j. (top_at c.args.tops.now j ≡ pos 0) × (top_at c.args.others.now j ≡ pos 0)) c.loop-rest.from (slice_index_or c.loop-rest.rest.now 0 0) (length c.args.tops.now) = first_place _ c.loop-rest.from c.loop-rest.rest.now (length c.args.tops.now) (omega (arith, c.in-len1-up.len_at_least)) c.loop-rest.invariant.0 in
    lowered_gap c.args.tops.now (wrap c.args.scale) c.args.others.now (wrap c.args.factor) c.loop-rest.over.divisor c.loop-rest.over.bound c.loop-rest.quotients c.loop-rest.from (slice_index_or c.loop-rest.rest.now 0 0) f.after f.gap c.loop-rest.invariant.3

pub overflow_add-from : goal.overflow_add-from
overflow_add-from c =
    let f : IsFirstPlace (λ j. (top_at c.args.tops.now j ≡ pos 0) × (top_at c.args.others.now j ≡ pos 0)) c.loop-rest.from (slice_index_or c.loop-rest.rest.now 0 0) (length c.args.tops.now) = first_place _ c.loop-rest.from c.loop-rest.rest.now (length c.args.tops.now) (omega (arith, c.in-len1-up.len_at_least)) c.loop-rest.invariant.0 in
    omega (arith, f.inside)

pub loop-rest-preserved : goal.loop-rest-preserved
loop-rest-preserved c =
    let f : IsFirstPlace (λ j. (top_at c.args.tops.now j ≡ pos 0) × (top_at c.args.others.now j ≡ pos 0)) c.loop-rest.from (slice_index_or c.loop-rest.rest.now 0 0) (length c.args.tops.now) = first_place _ c.loop-rest.from c.loop-rest.rest.now (length c.args.tops.now) (omega (arith, c.in-len1-up.len_at_least)) c.loop-rest.invariant.0 in (
      later_places (λ j. (top_at c.args.tops.now j ≡ pos 0) × (top_at c.args.others.now j ≡ pos 0)) c.loop-rest.from c.loop-rest.rest.now (length c.args.tops.now) _ (omega (arith, c.in-len1-up.len_at_least)) (omega arith) c.loop-rest.invariant.0,
      dvd_trans c.in-Some.next.divisor c.in-Some.ensures.divides c.loop-rest.invariant.1,
      c.put_quotient.ensures.length_is,
      c.in-Some.ensures.below,
      omega (arith, f.inside),
    )

pub returns-clause-lowered : goal.returns-clause-lowered
returns-clause-lowered c =
    lowered_all c.args.tops.now c.args.scale (wrap c.args.scale) c.args.others.now c.args.factor (wrap c.args.factor) c.args.bottom c.loop-rest.over.divisor c.loop-rest.over.bound c.loop-rest.quotients c.loop-rest.invariant.2
    (to_z-of_z w64 c.args.scale c.ranges.scale) (to_z-of_z w64 c.args.factor c.ranges.factor) c.loop-rest.invariant.1
    (lowered_gap c.args.tops.now (wrap c.args.scale) c.args.others.now (wrap c.args.factor) c.loop-rest.over.divisor c.loop-rest.over.bound c.loop-rest.quotients c.loop-rest.from (length c.args.tops.now) c.loop-rest.invariant.4
    (no_place _ c.loop-rest.from c.loop-rest.rest.now (length c.args.tops.now) (omega (arith, c.in_default.len_below)) c.loop-rest.invariant.0) c.loop-rest.invariant.3)
