use Rattle.std.proofs.Common.{ℕ, ap, subst, arith, unsigned_abs}
use Rattle.std.specs.Int.{◌∣◌}
use Rattle.std.proofs.Math.Nat.{dvd-mod_iff}
use Rattle.fractions.proofs.Parts.{whole_back}
use Rattle.number_rows.proofs.Over.{wrap128}
use Rattle.number_rows.proofs.wide.wide_divisor.Goals as goal

pub returns-clause-top : goal.returns-clause-top
returns-clause-top c =
    let d = c.common_factor in
    let h : d.result ∣ unsigned_abs (wrap128 c.args.top) = (dvd-mod_iff d.result d.ensures.second).0 (subst (λ (n : ℕ). d.result ∣ n) c.rest_by.ensures.value d.ensures.first) in
    subst (λ (n : ℕ). d.result ∣ n) (ap unsigned_abs (whole_back c.args.top (omega (arith, c.requires.small)))) h
