use Rattle.std.proofs.Common.{◌≡◌, ◌∙◌, ap, sym, subst, arith, ◌<◌, ◌^◌, length, ℤ, unsigned_abs}
use Rattle.std.specs.Prelude.{pos}
use Rattle.std.proofs.lemmas.List.{get_or_read}
use Rattle.fractions.specs.Fraction.{frac}
use Rattle.fractions.proofs.Parts.{whole_back}
use Rattle.number_rows.specs.Tops.{top_at}
use Rattle.number_rows.proofs.Kept.{short_at, length_shown}
use Rattle.number_rows.proofs.Over.{wrap128}
use Rattle.number_rows.proofs.long.Long.number.Goals.{After-index}
use Rattle.number_rows.proofs.long.Long.number.Goals as goal

inside : (c : After-index) → c.args.k < length c.self.inside.tops.items
inside c = let r = c.self.inside in omega (arith, c.requires, length_shown r.whole r.bottom r.tops.items r.numbers.items c.args.self.now c.self.view_is (λ e. c.self.invariant.same_length))

back : (c : After-index) → wrap128 c.index.result.now ≡ top_at c.self.inside.tops.items c.args.k
back c =
    let r = c.self.inside in
    ap wrap128 (get_or_read r.tops.items c.args.k c.index.result.now (inside c) c.index.ensures (pos 0)) ∙ whole_back (top_at r.tops.items c.args.k) (omega (arith, c.self.invariant.within c.args.k (inside c), c.self.invariant.bound_small))

pub fraction-requires-clause-small : goal.fraction-requires-clause-small
fraction-requires-clause-small c =
    let r = c.self.inside in
    let a = (goal.at.fraction-requires-clause-small c).After-index in
    subst (λ (x : ℤ). unsigned_abs x < 2 ^ 125) (sym (back a)) (omega (arith, c.self.invariant.within c.args.k (inside a), c.self.invariant.bound_small))

pub returns-then-self : goal.returns-then-self
returns-then-self c =
    let r = c.self.inside in
    let a = (goal.at.returns-then-self c).After-index in
    c.fraction.ensures ∙ (ap (λ t. frac t r.bottom) (back a) ∙ sym (short_at r.whole r.bottom r.tops.items r.numbers.items c.args.self.now c.args.k c.self.view_is c.if-self.true (inside a)))
