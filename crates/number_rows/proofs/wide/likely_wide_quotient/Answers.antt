use Rattle.std.proofs.Common.{◌≡◌, ◌∙◌, ◌*ℤ◌, ℕ, sym, ap, arith, int_div, pos, to_z}
use Rattle.std.proofs.lemmas.Int.{ints, to_z_pos}
use Rattle.std.specs.Int.{w128}
use Rattle.fractions.proofs.Parts.{whole_back}
use Rattle.number_rows.proofs.Over.{wrap128}
use Rattle.number_rows.proofs.Broad.{quotient_by, widened}
use Rattle.number_rows.proofs.wide.likely_wide_quotient.Goals as goal

pub returns-in-Some-clause-value : goal.returns-in-Some-clause-value
returns-in-Some-clause-value c =
    widened c.in-Some.quotient c.in-Some.ensures.1
    ∙ (quotient_by (wrap128 c.args.top) c.in-Some.quotient c.args.divisor c.requires.positive c.in-Some.ensures.0
    ∙ ap (λ x. int_div x (pos c.args.divisor)) (whole_back c.args.top (omega (arith, c.requires.small))))

pub returns-then-top-eq0-clause-value : goal.returns-then-top-eq0-clause-value
returns-then-top-eq0-clause-value c =
    let nothing : c.args.top ≡ pos 0 = sym (whole_back c.args.top (omega (arith, c.requires.small))) ∙ (ap (λ (k : ℕ). to_z w128 k) c.if-top-eq0.true ∙ to_z_pos w128 0 (omega arith)) in
    let zero : pos 0 *ℤ pos c.args.divisor ≡ pos 0 = omega (arith, ints) in
    quotient_by c.args.top (pos 0) c.args.divisor c.requires.positive (zero ∙ sym nothing)
