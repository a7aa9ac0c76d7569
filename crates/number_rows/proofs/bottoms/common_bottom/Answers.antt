use Rattle.std.proofs.Common.{◌≡◌, subst, arith, below_more}
use Rattle.std.specs.Int.{◌∣◌}
use Rattle.std.proofs.Math.Nat.{dvd_trans}
use Rattle.std.proofs.lemmas.List.{get_or_read}
use Rattle.fractions.specs.Fraction.{Fraction, zero_fraction}
use Rattle.linear_table.specs.Plans.{number_at}
use Rattle.number_rows.proofs.bottoms.common_bottom.Goals as goal

pub loop-k-preserved : goal.loop-k-preserved
loop-k-preserved c =
    let e = c.in-Some.ensures in
    let same : c.index-numbers-k.result ≡ number_at c.args.numbers.now c.loop-k.k = get_or_read c.args.numbers.now c.loop-k.k c.index-numbers-k.result (omega arith) c.index-numbers-k.is zero_fraction in (
      e.0,
      e.1,
      below_more (λ j. (number_at c.args.numbers.now j).den ∣ c.in-Some.next) c.loop-k.k
          (λ j q. dvd_trans (number_at c.args.numbers.now j).den (c.loop-k.invariant.2 j q) e.2)
          (subst (λ (x : Fraction). x.den ∣ c.in-Some.next) same e.3),
    )
