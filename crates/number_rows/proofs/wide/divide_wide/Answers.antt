use Rattle.std.proofs.Common.{◌≡◌, ◌∙◌, ◌*ℤ◌, ◌-ℤ◌, ◌<◌, ◌^◌, ℤ, pos, sym, subst, refl, arith, unsigned_abs}
use Rattle.std.specs.Int.{◌∣◌}
use Rattle.fractions.proofs.Parts.{whole_back}
use Rattle.number_rows.specs.Tops.{top_at}
use Rattle.number_rows.proofs.Lists.{size_below, within_more}
use Rattle.number_rows.proofs.Over.{wrap128}
use Rattle.number_rows.proofs.Broad.{IsPlace, place_is, divided_number, divided_to_more}
use Rattle.number_rows.proofs.wide.divide_wide.Goals as goal

pub loop-k-preserved : goal.loop-k-preserved
loop-k-preserved c =
    let k = c.loop-k.k in
    let t = top_at c.args.tops.now k in
    let t' = top_at c.loop-k.tops k in
    let o = top_at c.args.others.now k in
    let p : IsPlace t' o t o c.args.scale c.args.factor = place_is t' o t o c.args.scale c.args.factor c.args.bound c.args.other_bound (c.loop-k.invariant.0.rest k (omega arith)) refl (c.requires.within k (omega arith)) (c.requires.others_within k (omega (arith, c.requires.lengths))) c.requires.bound_small c.requires.other_bound_small c.requires.factor c.requires.first c.requires.second in
    let n = c.wide_combined-number in
    let q = c.likely_wide_quotient-quotient.result in
    let m = c.wide_greater-most in
    let f : wrap128 c.args.factor ≡ c.args.factor = whole_back c.args.factor (omega (arith, c.requires.factor)) in
    let hd : c.args.divisor ∣ unsigned_abs (t *ℤ pos c.args.scale -ℤ o *ℤ wrap128 c.args.factor) = subst (λ (f : ℤ). c.args.divisor ∣ unsigned_abs (t *ℤ pos c.args.scale -ℤ o *ℤ f)) (sym f) (c.requires.divides k (omega arith)) in
    let x : (wrap128 q *ℤ pos c.args.divisor ≡ t *ℤ pos c.args.scale -ℤ o *ℤ wrap128 c.args.factor) × (unsigned_abs (wrap128 q) < 2 ^ 125) =
    divided_number q n.result (t *ℤ pos c.args.scale -ℤ o *ℤ wrap128 c.args.factor) c.args.divisor (n.ensures.value ∙ p.number) n.ensures.small hd c.likely_wide_quotient-quotient.ensures.value c.likely_wide_quotient-quotient.ensures.small in (
      divided_to_more c.args.tops.now (pos c.args.scale) c.args.others.now (wrap128 c.args.factor) c.args.divisor c.loop-k.tops k (wrap128 q) (omega arith) x.0 c.loop-k.invariant.0,
      within_more c.loop-k.tops c.loop-k.most k (wrap128 q) m.result (omega arith) m.ensures.first (size_below c.unsigned_abs.result m.result (wrap128 q) c.unsigned_abs.ensures.value m.ensures.second) c.loop-k.invariant.1,
      m.ensures.small c.loop-k.invariant.2 (omega (arith, c.unsigned_abs.ensures.value, x.1)),
    )
