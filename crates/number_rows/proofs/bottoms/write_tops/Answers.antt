use Rattle.std.proofs.Common.{arith, subst, sym}
use Rattle.std.specs.Int.{◌∣◌}
use Rattle.std.proofs.lemmas.List.{get_or_read}
use Rattle.fractions.specs.Fraction.{Fraction, zero_fraction}
use Rattle.number_rows.proofs.bottoms.write_tops.Goals as goal

pub top_over-requires-clause-divides : goal.top_over-requires-clause-divides
top_over-requires-clause-divides c =
    subst (λ (x : Fraction). x.den ∣ c.args.bottom) (sym (get_or_read c.args.numbers.now c.loop-k.k c.index-numbers-k.result (omega arith) c.index-numbers-k.is zero_fraction)) (c.requires.divides c.loop-k.k (omega arith))
