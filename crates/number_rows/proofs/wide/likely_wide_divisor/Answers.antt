use Rattle.std.proofs.Common.{◌≡◌, ◌∙◌, ℕ, sym, ap, subst, arith, to_z, unsigned_abs}
use Rattle.std.proofs.lemmas.Int.{to_z_pos}
use Rattle.std.proofs.Math.Nat.{dvd-zero}
use Rattle.std.specs.Prelude.{pos, ℤ}
use Rattle.std.specs.Int.{w128}
use Rattle.std.specs.Int.{◌∣◌}
use Rattle.fractions.proofs.Parts.{whole_back}
use Rattle.number_rows.proofs.Over.{wrap128}
use Rattle.number_rows.proofs.Broad.{divides_by}
use Rattle.number_rows.proofs.wide.likely_wide_divisor.Goals as goal

pub returns-in-Some-clause-top : goal.returns-in-Some-clause-top
returns-in-Some-clause-top c =
    subst (λ (n : ℕ). c.args.bottom ∣ n) (ap unsigned_abs (whole_back c.args.top (omega (arith, c.requires.small)))) (divides_by (wrap128 c.args.top) c.in-Some.field-0 c.args.bottom c.in-Some.ensures.0)

pub returns-in-None-clause-top : goal.returns-in-None-clause-top
returns-in-None-clause-top c =
    subst (λ (n : ℕ). c.wide_divisor.result ∣ n) (ap unsigned_abs (whole_back c.args.top (omega (arith, c.requires.small)))) c.wide_divisor.ensures.top

pub returns-then-top-eq0-clause-top : goal.returns-then-top-eq0-clause-top
returns-then-top-eq0-clause-top c =
    let nothing : c.args.top ≡ pos 0 = sym (whole_back c.args.top (omega (arith, c.requires.small))) ∙ (ap (λ (k : ℕ). to_z w128 k) c.if-top-eq0.true ∙ to_z_pos w128 0 (omega arith)) in
    subst (λ (z : ℤ). c.args.bottom ∣ unsigned_abs z) (sym nothing) (dvd-zero c.args.bottom)
