use Rattle.std.proofs.Common.{◌≡◌, ◌∙◌, refl, sym, ap, subst, arith, ℕ, ◌<◌, ◌≤◌, ◌^◌, length, List, ℤ, unsigned_abs}
use Rattle.std.proofs.lemmas.List.{get_or_read, with_items_is}
use Rattle.std.specs.Prelude.{◌*◌, ◌/◌, pos, ◌*ℤ◌, Bool}
use Rattle.std.proofs.lemmas.Bool.{OnTrue_at}
use Rattle.std.proofs.lemmas.Nat.Gcd.{le_of_dvd}
use Rattle.fractions.specs.Fraction.{Fraction, lower_pos}
use Rattle.fractions.specs.Fracs.{pos_product}
use Rattle.fractions.proofs.Parts.{whole_back}
use Rattle.number_rows.specs.Changed.{Numbers}
use Rattle.number_rows.specs.Row.{kept, IsKeptLong}
use Rattle.number_rows.specs.Tops.{top_at, IsCombinedOver, DividesCombined}
use Rattle.number_rows.proofs.Kept.{length_shown}
use Rattle.number_rows.proofs.Over.{wrap128}
use Rattle.number_rows.proofs.Exchanged.{reduced_wide, divided_tops}
use Rattle.number_rows.proofs.Broad.{factor_wide, factor_small}
use Rattle.number_rows.proofs.long.Long.reduce_whole.Goals.{After-wide_quotient-factor}
use Rattle.number_rows.proofs.long.Long.reduce_whole.Goals as goal

inside : (c : After-wide_quotient-factor) → c.args.enter < length c.self.inside.tops.items
inside c = let r = c.self.inside in omega (arith, c.requires.inside, length_shown r.whole r.bottom r.tops.items r.numbers.items c.args.self.now c.self.view_is (λ e. c.self.invariant.same_length))

-- the factor, times the divisor, is the number at the place that enters
factor : (c : After-wide_quotient-factor) → (c.wide_quotient-factor.result *ℤ pos c.wide_divisor-common.result ≡ top_at c.self.inside.tops.items c.args.enter) × (unsigned_abs c.wide_quotient-factor.result ≤ c.self.inside.bound)
factor c =
    let r = c.self.inside in
    factor_wide c.index-top.result.now (top_at r.tops.items c.args.enter) c.wide_quotient-factor.result c.wide_divisor-common.result r.bound (get_or_read r.tops.items c.args.enter c.index-top.result.now (inside c) c.index-top.ensures (pos 0))
    (c.self.invariant.within c.args.enter (inside c)) c.self.invariant.bound_small c.wide_divisor-common.ensures.top c.wide_quotient-factor.ensures.value c.wide_quotient-factor.ensures.small

-- its size, as the calls have it
factor_size : (c : After-wide_quotient-factor) → unsigned_abs (wrap128 c.wide_quotient-factor.result) < 2 ^ 125
factor_size c = factor_small c.wide_quotient-factor.result (omega (arith, (factor c).1, c.self.invariant.bound_small))

pub wide_quotient-factor-requires-clause-small_divisor : goal.wide_quotient-factor-requires-clause-small_divisor
wide_quotient-factor-requires-clause-small_divisor c = omega (arith, le_of_dvd c.requires.positive c.wide_divisor-common.ensures.bottom, c.requires.small)

pub wide_content-divisor-requires-clause-factor : goal.wide_content-divisor-requires-clause-factor
wide_content-divisor-requires-clause-factor c = factor_size (goal.at.wide_content-divisor-requires-clause-factor c).After-wide_quotient-factor

pub wide_content-divisor-requires-clause-second : goal.wide_content-divisor-requires-clause-second
wide_content-divisor-requires-clause-second c = subst (λ (n : ℕ). c.args.other_bound * n < 2 ^ 124) c.unsigned_abs.ensures.value (OnTrue_at c.if-not-fits_wide.false c.fits_wide.ensures).1

pub divide_wide-self-inside-requires-clause-factor : goal.divide_wide-self-inside-requires-clause-factor
divide_wide-self-inside-requires-clause-factor c = factor_size (goal.at.divide_wide-self-inside-requires-clause-factor c).After-wide_quotient-factor

pub divide_wide-self-inside-requires-clause-second : goal.divide_wide-self-inside-requires-clause-second
divide_wide-self-inside-requires-clause-second c = subst (λ (n : ℕ). c.args.other_bound * n < 2 ^ 124) c.unsigned_abs.ensures.value (OnTrue_at c.if-not-fits_wide.false c.fits_wide.ensures).1

pub divide_wide-self-inside-requires-clause-small_divisor : goal.divide_wide-self-inside-requires-clause-small_divisor
divide_wide-self-inside-requires-clause-small_divisor c = omega (arith, le_of_dvd c.self.invariant.positive c.wide_content-divisor.ensures.bottom, c.self.invariant.bottom_small)

pub divide_wide-self-inside-requires-clause-divides : goal.divide_wide-self-inside-requires-clause-divides
divide_wide-self-inside-requires-clause-divides c =
    subst (λ (ts : List ℤ). DividesCombined ts (pos (c.args.other_bottom / c.wide_divisor-common.result)) c.args.others.now (wrap128 c.wide_quotient-factor.result) c.wide_content-divisor.result) (c.deref.ensures.value ∙ sym c.deref_mut.ensures.value) c.wide_content-divisor.ensures.divides

pub invariant_of-self : goal.invariant_of-self
invariant_of-self c =
    let r = c.self.inside in
    let d = c.divide_wide-self-inside in
    let a = c.args.other_bottom / c.wide_divisor-common.result in
    let len : length d.new.tops ≡ length r.tops.items = d.ensures.combined.length_is ∙ ap (λ (ts : List ℤ). length ts) c.deref_mut.ensures.value in
    subst (λ (ts : List ℤ). IsKeptLong (r.bottom / c.wide_content-divisor.result * a) d.result ts r.numbers.items) (sym (with_items_is r.tops d.new.tops (len ∙ sym r.tops.ok.0)))
    (record {
      same_length = len ∙ c.self.invariant.same_length;
      positive = pos_product (r.bottom / c.wide_content-divisor.result) a (lower_pos r.bottom c.wide_content-divisor.result c.self.invariant.positive c.wide_content-divisor.ensures.bottom) (lower_pos c.args.other_bottom c.wide_divisor-common.result c.requires.positive c.wide_divisor-common.ensures.bottom);
      bottom_small = OnTrue_at c.if-not-product_keeps_within.false c.product_keeps_within.ensures;
      bound_small = d.ensures.small;
      within = d.ensures.within;
    })

pub returns-clause-done : goal.returns-clause-done
returns-clause-done c =
    let r = c.self.inside in
    let d = c.divide_wide-self-inside in
    let us = d.new.tops in
    let g = c.wide_divisor-common.result in
    let a = c.args.other_bottom / g in
    let e = c.wide_content-divisor.result in
    let m = r.bottom / e * a in
    let f = c.wide_quotient-factor.result in
    let w = (goal.at.returns-clause-done c).After-wide_quotient-factor in
    let known = factor w in
    let both = OnTrue_at c.if-not-fits_wide.false c.fits_wide.ensures in
    let plain = whole_back f (omega (arith, known.1, c.self.invariant.bound_small)) in
    let second : c.args.other_bound * unsigned_abs f < 2 ^ 124 = subst (λ (n : ℕ). c.args.other_bound * n < 2 ^ 124) (c.unsigned_abs.ensures.value ∙ ap unsigned_abs plain) both.1 in
    let len : length us ≡ length r.tops.items = d.ensures.combined.length_is ∙ ap (λ (ts : List ℤ). length ts) c.deref_mut.ensures.value in
    let t : IsCombinedOver r.tops.items (pos a) c.args.others.now f e us =
    subst (λ (ts : List ℤ). IsCombinedOver ts (pos a) c.args.others.now f e us) c.deref_mut.ensures.value
    (subst (λ (x : ℤ). IsCombinedOver c.deref_mut.result.now (pos a) c.args.others.now x e us) plain d.ensures.combined) in
    let pa : 0 < a = lower_pos c.args.other_bottom g c.requires.positive c.wide_divisor-common.ensures.bottom in
    reduced_wide r.whole r.bottom c.args.other_bottom r.bound c.args.other_bound a g m f r.tops.items us c.args.others.now r.numbers.items c.args.self.now _ c.args.enter
    c.self.view_is c.if-not-self.false c.self.invariant c.requires.positive c.requires.small c.requires.within c.requires.width (inside w) both.0 second
    c.wide_divisor-common.ensures.positive c.wide_divisor-common.ensures.bottom refl known.0
    (divided_tops r.bottom e a f r.tops.items c.args.others.now us c.self.invariant.positive c.wide_content-divisor.ensures.positive c.wide_content-divisor.ensures.bottom pa t)
    (ap (λ ts. shown r.whole m ts r.numbers.items) (with_items_is r.tops us (len ∙ sym r.tops.ok.0)))
  where
    shown : Bool → ℕ → List ℤ → List Fraction → Numbers
    shown s b ts ns = record { items = kept s b ts ns }
