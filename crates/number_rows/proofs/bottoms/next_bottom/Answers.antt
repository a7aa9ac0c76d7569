use Rattle.std.proofs.Common.{◌≡◌, ◌∙◌, ◌<◌, ◌*◌, ◌/◌, ℕ, sym, subst, arith, unsigned_abs}
use Rattle.std.proofs.Math.Nat.{dvd_refl, one-dvd}
use Rattle.std.proofs.lemmas.Nat.Gcd.{dvd_of_mod-eq-zero}
use Rattle.std.specs.Int.{◌∣◌}
use Rattle.number_rows.proofs.Lists.{common_is}
use Rattle.number_rows.proofs.Over.{own_is, wrap128}
use Rattle.number_rows.proofs.bottoms.next_bottom.Goals as goal

pub returns : goal.returns
returns c =
    let own = unsigned_abs (wrap128 c.denominator-own.result) in
    let same : own ≡ c.args.number.now.den = own_is c.denominator-own.result c.args.number.now.den c.denominator-own.ensures.value c.denominator-own.ensures.narrow in
    let d = c.common_divisor-common in
    let all = common_is c.args.bottom own d.result c.requires.positive (subst (λ (k : ℕ). 0 < k) (sym same) c.args.number.now.positive) d.ensures.second d.ensures.first in (
      all.0,
      omega (arith, c.if-next.false),
      all.1,
      subst (λ (k : ℕ). k ∣ c.args.bottom * (own / d.result)) same all.2,
    )

pub returns-then-own-eq1 : goal.returns-then-own-eq1
returns-then-own-eq1 c =
    let own = unsigned_abs (wrap128 c.denominator-own.result) in
    let same : own ≡ c.args.number.now.den = own_is c.denominator-own.result c.args.number.now.den c.denominator-own.ensures.value c.denominator-own.ensures.narrow in (
      c.requires.positive,
      c.requires.small,
      dvd_refl c.args.bottom,
      subst (λ (k : ℕ). k ∣ c.args.bottom) (sym c.if-own-eq1.true ∙ same) (one-dvd c.args.bottom),
    )

pub returns-then-rest-eq0 : goal.returns-then-rest-eq0
returns-then-rest-eq0 c =
    let own = unsigned_abs (wrap128 c.denominator-own.result) in
    let same : own ≡ c.args.number.now.den = own_is c.denominator-own.result c.args.number.now.den c.denominator-own.ensures.value c.denominator-own.ensures.narrow in (
      c.requires.positive,
      c.requires.small,
      dvd_refl c.args.bottom,
      subst (λ (k : ℕ). k ∣ c.args.bottom) same (dvd_of_mod-eq-zero own c.if-rest-eq0.true),
    )
