use Rattle.std.proofs.Common.{◌≡◌, ◌∙◌, ℕ, sym, ap, subst, arith, to_z}
use Rattle.std.proofs.lemmas.Int.{to_z_pos}
use Rattle.std.specs.Prelude.{pos, ℤ}
use Rattle.std.specs.Int.{w128}
use Rattle.fractions.specs.Fraction.{frac, whole_fraction, ◌/ʳ◌}
use Rattle.fractions.specs.Fracs.{zero-frac}
use Rattle.fractions.specs.Limits.{IsNarrow}
use Rattle.fractions.proofs.Parts.{whole_back}
use Rattle.number_rows.proofs.Slim.{narrow_frac}
use Rattle.number_rows.proofs.Broad.{fraction_is, whole_some}
use Rattle.number_rows.proofs.wide.fraction.Goals.{After-div}
use Rattle.number_rows.proofs.wide.fraction.Goals as goal

pub div-requires : goal.div-requires
div-requires c = λ e. whole_some c.args.bottom c.requires.positive (sym (c.whole_number-2.ensures ∙ ap whole_fraction (to_z_pos w128 c.args.bottom (omega (arith, c.requires.small_bottom)))) ∙ e)

value : (c : After-div) → c.whole_number.result /ʳ c.whole_number-2.result ≡ frac c.args.top c.args.bottom
value c =
    let first : c.whole_number.result ≡ whole_fraction c.args.top = c.whole_number.ensures ∙ ap whole_fraction (whole_back c.args.top (omega (arith, c.requires.small))) in
    let second : c.whole_number-2.result ≡ whole_fraction (pos c.args.bottom) = c.whole_number-2.ensures ∙ ap whole_fraction (to_z_pos w128 c.args.bottom (omega (arith, c.requires.small_bottom))) in
    ap (λ x. x /ʳ c.whole_number-2.result) first ∙ (ap (λ y. whole_fraction c.args.top /ʳ y) second ∙ fraction_is c.args.top c.args.bottom c.requires.positive)

pub unreachable-requires : goal.unreachable-requires
unreachable-requires c =
    c.in-Err.ensures (subst IsNarrow (sym (value (goal.at.unreachable-requires c).After-div)) (narrow_frac c.args.top c.args.bottom c.requires.positive (omega (arith, c.requires.small)) (omega (arith, c.requires.small_bottom))))

pub returns : goal.returns
returns c = c.in-Ok.ensures.1 ∙ value (goal.at.returns c).After-div

pub returns-then-top-eq0 : goal.returns-then-top-eq0
returns-then-top-eq0 c =
    let nothing : c.args.top ≡ pos 0 = sym (whole_back c.args.top (omega (arith, c.requires.small))) ∙ (ap (λ (k : ℕ). to_z w128 k) c.if-top-eq0.true ∙ to_z_pos w128 0 (omega arith)) in
    c.zero.ensures ∙ (sym (zero-frac c.args.bottom c.requires.positive) ∙ ap (λ (t : ℤ). frac t c.args.bottom) (sym nothing))
