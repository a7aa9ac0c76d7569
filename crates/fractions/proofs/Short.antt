-- The value of a numeral has few digits.
use Rattle.std.specs.Prelude.{◌≡◌, ℕ, zero, suc, ◌+◌, ◌*◌, ◌/◌, ◌^◌, ◌<◌, ◌≤◌, ℤ, pos, negsuc, ◌+ℤ◌, ◌-ℤ◌, neg_ℤ, ◌≤ℤ◌, List, ◌++◌, length, take, min}
use Rattle.std.specs.Int.{int_max}
use Rattle.std.specs.Str.Parse.{AllDigits, digits_value}
use Rattle.std.proofs.Common.{refl, sym, subst, ◌∙◌, arith, lit<}
use Rattle.std.proofs.Math.Nat.{one-le-pow, div-lt_iff_lt-mul}
use Rattle.std.proofs.lemmas.Int.{ints, clamps, by_lt_z}
use Rattle.fractions.specs.Fraction.{Fraction, zero_fraction, ◌<ʳ◌}
use Rattle.fractions.specs.Rounding.{rounded}
use Rattle.fractions.specs.Numeral.{Numeral, Writes, magnitude, rounded_at, first_place, place, limit, IsShort}
use Rattle.fractions.proofs.Significant.{leading_small, AllDigits-append}
use Rattle.fractions.proofs.Magnitude.{times_zero}
use Rattle.fractions.proofs.Order.{<ʳ_not_≤ʳ}
use Rattle.fractions.proofs.Value.{digits_of, nothing_counted, IsSized, sized, large_numeral, small_numeral, near_numeral}

zero_short : (x : Fraction) → x ≡ zero_fraction → IsShort x
zero_short x e = record { digits = 0; last = pos 0; few_digits = omega arith; few_places = omega (arith, ints); value = e ∙ sym (times_zero (pos 0)) }

half_le : (v u : ℕ) → 0 < u → (2 * v + u) / (2 * u) < v + 2
half_le v u p = (div-lt_iff_lt-mul (omega arith)).1 (bound v u p)
  where
    bound : (v u : ℕ) → 0 < u → 2 * v + u < (v + 2) * (2 * u)
    bound v (suc u) p = omega arith
    bound v zero p = absurd (omega arith)

rounded_le : (v d : ℕ) → v < 10 ^ 16 → rounded v d ≤ 10 ^ 16
rounded_le v d h = omega (arith, half_le v (10 ^ d) (omega (arith, one-le-pow d 10 (lit< tt))), h)

rounded_short : (v : ℕ) (low p z : ℤ) → v < 10 ^ 16 → negsuc 14 ≤ℤ p → p -ℤ low ≡ z → IsShort (rounded_at v low p z)
rounded_short v low p (pos d) h b e = record { digits = rounded v d; last = p; few_digits = rounded_le v d h; few_places = b; value = refl }
rounded_short v low p (negsuc d) h b e = record { digits = v; last = low; few_digits = omega (arith, h); few_places = omega (arith, ints); value = refl }

place_low : (f : ℤ) → negsuc 14 ≤ℤ int_max (f -ℤ pos 14) (negsuc 14)
place_low f = omega (arith, ints, clamps)

by_length : (n : Numeral) (k : ℕ) → AllDigits 10 n.whole → AllDigits 10 n.part → length (digits_of n) ≡ k → magnitude n <ʳ limit → IsShort (magnitude n)
by_length n zero w p e h = zero_short (magnitude n) (nothing_counted n e)
by_length n (suc k) w p e h =
    let s : IsSized n k = sized n k w p e in
    by_lt_z (first_place n) (neg_ℤ (pos 16))
    (λ l. zero_short (magnitude n) (small_numeral n k s (omega (arith, ints, l))))
    (λ l.
    by_lt_z (first_place n) (pos 18)
    (λ m.
    let v : ℕ = digits_value 10 (take 16 (digits_of n)) in
    let low : ℤ = first_place n +ℤ pos 1 -ℤ pos (min (suc k) 16) in
    let small : v < 10 ^ 16 = leading_small (n.whole ++ n.part) (record { count = length (digits_of n); value = v }) (AllDigits-append n.whole n.part w p) (record { count_is = refl; value_is = refl }) in
    subst IsShort (sym (near_numeral n k v low s refl refl)) (rounded_short v low (place n) (place n -ℤ low) small (place_low (first_place n)) refl))
    (λ m. absurd (<ʳ_not_≤ʳ _ _ h (large_numeral n k s m))))

pub short_magnitude : (text : List ℕ) (n : Numeral) → Writes text n → magnitude n <ʳ limit → IsShort (magnitude n)
short_magnitude text n w h = by_length n (length (digits_of n)) w.whole_is.digits w.part_is refl h
