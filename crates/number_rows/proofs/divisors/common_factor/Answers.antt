use Rattle.std.proofs.Common.{ℕ, sym, subst}
use Rattle.std.specs.Int.{◌∣◌}
use Rattle.std.proofs.Math.Nat.{dvd-zero, dvd_refl}
use Rattle.number_rows.proofs.divisors.common_factor.Goals as goal

pub returns-then-first-eq0-clause-first : goal.returns-then-first-eq0-clause-first
returns-then-first-eq0-clause-first c = subst (λ (n : ℕ). c.args.second ∣ n) (sym c.if-first-eq0.true) (dvd-zero c.args.second)

pub returns-then-first-eq0-clause-second : goal.returns-then-first-eq0-clause-second
returns-then-first-eq0-clause-second c = dvd_refl c.args.second
