use Rattle.std.proofs.Common.{◌≡◌, ◌∙◌, ◌*ℤ◌, ◌-ℤ◌, ℤ, pos, subst, refl, arith, below_more, unsigned_abs}
use Rattle.std.specs.Int.{◌∣◌}
use Rattle.std.proofs.Math.Nat.{dvd_trans, le_of_dvd}
use Rattle.fractions.proofs.Parts.{whole_back}
use Rattle.number_rows.specs.Tops.{top_at}
use Rattle.number_rows.proofs.Over.{wrap128}
use Rattle.number_rows.proofs.Broad.{IsPlace, place_is, number_is}
use Rattle.number_rows.proofs.wide.wide_content.Goals as goal

pub likely_wide_divisor-next-requires-clause-small_bottom : goal.likely_wide_divisor-next-requires-clause-small_bottom
likely_wide_divisor-next-requires-clause-small_bottom c = omega (arith, le_of_dvd c.requires.positive c.loop-k.invariant.1, c.requires.small)

pub loop-k-preserved : goal.loop-k-preserved
loop-k-preserved c =
    let k = c.loop-k.k in
    let t = top_at c.args.tops.now k in
    let o = top_at c.args.others.now k in
    let p : IsPlace t o t o c.args.scale c.args.factor = place_is t o t o c.args.scale c.args.factor c.args.bound c.args.other_bound refl refl (c.requires.within k (omega arith)) (c.requires.others_within k (omega (arith, c.requires.lengths))) c.requires.bound_small c.requires.other_bound_small c.requires.factor c.requires.first c.requires.second in
    let n = c.wide_combined-number in
    let d = c.likely_wide_divisor-next in
    let same : wrap128 n.result ≡ t *ℤ pos c.args.scale -ℤ o *ℤ wrap128 c.args.factor = number_is n.result _ (n.ensures.value ∙ p.number) n.ensures.small in (
      d.ensures.positive,
      dvd_trans d.result d.ensures.bottom c.loop-k.invariant.1,
      below_more (λ j. d.result ∣ unsigned_abs (top_at c.args.tops.now j *ℤ pos c.args.scale -ℤ top_at c.args.others.now j *ℤ wrap128 c.args.factor)) k
          (λ j q. dvd_trans d.result d.ensures.bottom (c.loop-k.invariant.2 j q))
          (subst (λ (x : ℤ). d.result ∣ unsigned_abs x) same d.ensures.top),
    )

pub returns-clause-divides : goal.returns-clause-divides
returns-clause-divides c = λ k h.
    subst (λ (f : ℤ). c.loop-k.common ∣ unsigned_abs (top_at c.args.tops.now k *ℤ pos c.args.scale -ℤ top_at c.args.others.now k *ℤ f)) (whole_back c.args.factor (omega (arith, c.requires.factor))) (c.loop-k.invariant.2 k (omega (arith, h)))
