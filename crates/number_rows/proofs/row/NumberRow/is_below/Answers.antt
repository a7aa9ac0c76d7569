use Rattle.std.proofs.Common.{◌≡◌, ◌∙◌, sym, ap, subst, arith, ◌<◌, ◌^◌, length, ℤ, unsigned_abs}
use Rattle.std.proofs.lemmas.List.{get_or_read}
use Rattle.fractions.specs.Fraction.{frac}
use Rattle.linear_table.specs.Plans.{number_at}
use Rattle.number_rows.specs.Tops.{top_at}
use Rattle.std.specs.Prelude.{pos}
use Rattle.number_rows.proofs.Kept.{short_at, length_shown}
use Rattle.number_rows.proofs.Signs.{below_by}
use Rattle.number_rows.proofs.row.NumberRow.is_below.Goals as goal

pub returns-then-self : goal.returns-then-self
returns-then-self c =
    let r = c.self.inside in
    let inside : c.args.k < length r.tops.items = omega (arith, c.requires, length_shown r.short r.bottom r.tops.items r.numbers.items c.args.self.now c.self.view_is c.self.invariant.same_length) in
    let t : c.index.result.now ≡ top_at r.tops.items c.args.k = get_or_read r.tops.items c.args.k c.index.result.now inside c.index.ensures (pos 0) in
    below_by (number_at c.args.self.now.items c.args.k) c.index.result.now r.bottom c.self.invariant.positive
    (subst (λ (z : ℤ). unsigned_abs z < 2 ^ 62) (sym t) (omega (arith, c.self.invariant.within c.args.k inside, c.self.invariant.bound_small)))
    (short_at r.short r.bottom r.tops.items r.numbers.items c.args.self.now c.args.k c.self.view_is c.if-self.true inside ∙ ap (λ z. frac z r.bottom) (sym t))
