use Rattle.std.proofs.Common.{◌≡◌, ◌∙◌, refl, sym, ap, subst, arith, length, take, List, ℤ}
use Rattle.std.proofs.lemmas.List.{with_items_is}
use Rattle.std.proofs.Math.Nat.{div-le_self}
use Rattle.std.specs.Prelude.{◌/◌, ℕ}
use Rattle.fractions.specs.Fraction.{Fraction, lower_pos}
use Rattle.number_rows.specs.Changed.{Numbers}
use Rattle.number_rows.specs.Row.{kept, IsKept}
use Rattle.number_rows.specs.Tops.{IsDividedBy}
use Rattle.number_rows.proofs.Exchanged.{cancelled}
use Rattle.number_rows.proofs.Filled.{places_of}
use Rattle.number_rows.proofs.Quotients.{divided_alone}
use Rattle.number_rows.proofs.row.NumberRow.cancel.Goals.{After-swap}
use Rattle.number_rows.proofs.row.NumberRow.cancel.Goals as goal

pub combine_lowered-requires-clause-places : goal.combine_lowered-requires-clause-places
combine_lowered-requires-clause-places c =
    places_of c.deref.result.now c.deref-3.result.now c.deref-2.result.now c.deref-4.result.now (take c.write_places-count.result c.write_places-count.new.places)
    (c.deref.ensures.value ∙ sym c.deref-3.ensures.value) (c.deref-2.ensures.value ∙ sym c.deref-4.ensures.value) c.write_places-count.ensures.places

-- as many quotients as tops
count : (c : After-swap) → length c.combine_lowered.new.quotients ≡ length c.self.inside.tops.items
count c = c.combine_lowered.ensures.length_is ∙ ap (λ (ts : List ℤ). length ts) c.deref-3.ensures.value

-- the quotients take the place of the tops
taken : (c : After-swap) → c.swap.new.x.items ≡ c.combine_lowered.new.quotients
taken c =
    let r = c.self.inside in
    rw c.swap.ensures.x_after (with_items_is r.spare c.combine_lowered.new.quotients (count c ∙ (sym c.self.invariant.room_is ∙ sym r.spare.ok.0)))

pub invariant_of-self-2 : goal.invariant_of-self-2
invariant_of-self-2 c =
    let r = c.self.inside in
    let low = c.in-Some.ensures.lowered in
    let d = c.in-Some.lowered.divisor in
    let s = (goal.at.invariant_of-self-2 c).After-swap in
    let room : length c.swap.new.y.items ≡ length r.tops.items = rw c.swap.ensures.y_after refl in
    subst (λ (n : ℕ). IsKept r.short (r.bottom / d) c.in-Some.lowered.bound c.swap.new.x.items r.numbers.items n) (sym room)
    (subst (λ (ts : List ℤ). IsKept r.short (r.bottom / d) c.in-Some.lowered.bound ts r.numbers.items (length r.tops.items)) (sym (taken s))
    (record {
      same_length = λ e. count s ∙ c.self.invariant.same_length e;
      room_is = sym (count s);
      positive = lower_pos r.bottom d c.self.invariant.positive low.divides;
      bottom_small = omega (arith, div-le_self r.bottom d, c.self.invariant.bottom_small);
      bound_small = low.small;
      within = low.within;
    }))

pub returns-clause-same : goal.returns-clause-same
returns-clause-same c =
    let r = c.self.inside in
    let low = c.in-Some.ensures.lowered in
    let d = c.in-Some.lowered.divisor in
    let us = c.combine_lowered.new.quotients in
    let s = (goal.at.returns-clause-same c).After-swap in
    let divided : IsDividedBy r.tops.items d us =
    subst (λ (ts : List ℤ). IsDividedBy ts d us) c.deref-3.ensures.value (divided_alone c.deref-3.result.now _ c.deref-4.result.now _ d us refl refl low.combined) in
    let same : kept r.short (r.bottom / d) c.swap.new.x.items r.numbers.items ≡ kept r.short r.bottom r.tops.items r.numbers.items =
    ap (λ ts. kept r.short (r.bottom / d) ts r.numbers.items) (taken s)
    ∙ cancelled r.short r.bottom d r.tops.items us r.numbers.items c.if-not-self.false c.self.invariant.positive low.positive low.divides divided in
    ap (λ xs. numbers_of xs) same ∙ c.self.view_is
  where
    numbers_of : List Fraction → Numbers
    numbers_of xs = record { items = xs }
