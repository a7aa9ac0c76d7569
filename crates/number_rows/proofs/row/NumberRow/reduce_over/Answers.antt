use Rattle.std.proofs.Common.{◌≡◌, ◌∙◌, refl, sym, ap, subst, arith, ℕ, ◌<◌, length, take, List, ℤ}
use Rattle.std.proofs.lemmas.List.{get_or_read, with_items_is}
use Rattle.std.specs.Prelude.{◌*◌, ◌/◌, pos, Bool}
use Rattle.fractions.specs.Fraction.{Fraction, lower_pos}
use Rattle.fractions.specs.Fracs.{pos_product}
use Rattle.std.proofs.lemmas.Bool.{OnTrue_at}
use Rattle.number_rows.specs.Changed.{Numbers}
use Rattle.number_rows.specs.Row.{kept, IsKept}
use Rattle.number_rows.specs.Tops.{top_at, IsCombinedOver}
use Rattle.number_rows.proofs.Kept.{length_shown}
use Rattle.number_rows.proofs.Lists.{back}
use Rattle.number_rows.proofs.Filled.{places_of}
use Rattle.number_rows.proofs.Parts.{HasParts, parts}
use Rattle.number_rows.proofs.Exchanged.{reduced_row, divided_tops, scale_back, combined_over_plain}
use Rattle.number_rows.proofs.row.NumberRow.reduce_over.Goals.{After-swap}
use Rattle.number_rows.proofs.row.NumberRow.reduce_over.Goals as goal

-- what the number at the place that enters shares with the denominator of the pivot's row
shares : (c : After-swap) → HasParts (top_at c.self.inside.tops.items c.args.enter) c.pivot_row.inside.bottom c.args.shared.common c.args.shared.scale c.args.shared.factor
shares c =
    let r = c.self.inside in
    let inside : c.args.enter < length r.tops.items = omega (arith, c.requires.inside, length_shown r.short r.bottom r.tops.items r.numbers.items c.args.self.now c.self.view_is c.self.invariant.same_length) in
    parts c.index.result.now (top_at r.tops.items c.args.enter) c.pivot_row.inside.bottom c.args.shared.common c.args.shared.scale c.args.shared.factor c.pivot_row.invariant.positive (get_or_read r.tops.items c.args.enter c.index.result.now inside c.index.ensures (pos 0))
    (omega (arith, c.self.invariant.within c.args.enter inside, c.self.invariant.bound_small)) (OnTrue_at c.if-not-is_of.false c.is_of.ensures)

pub combine_lowered-requires-clause-places : goal.combine_lowered-requires-clause-places
combine_lowered-requires-clause-places c =
    places_of c.deref.result.now c.deref-3.result.now c.deref-2.result.now c.deref-4.result.now (take c.write_places-count.result c.write_places-count.new.places)
    (c.deref.ensures.value ∙ sym c.deref-3.ensures.value) (c.deref-2.ensures.value ∙ sym c.deref-4.ensures.value) c.write_places-count.ensures.places

-- as many quotients as tops
count : (c : After-swap) → length c.combine_lowered.new.quotients ≡ length c.self.inside.tops.items
count c = c.combine_lowered.ensures.length_is ∙ ap (λ (ts : List ℤ). length ts) c.deref-3.ensures.value

-- the quotients take the place of the tops
taken : (c : After-swap) → c.swap.new.x.items ≡ c.combine_lowered.new.quotients
taken c =
    let r = c.self.inside in
    rw c.swap.ensures.x_after (with_items_is r.spare c.combine_lowered.new.quotients (count c ∙ (sym c.self.invariant.room_is ∙ sym r.spare.ok.0)))

pub invariant_of-self-2 : goal.invariant_of-self-2
invariant_of-self-2 c =
    let r = c.self.inside in
    let low = c.in-Some.ensures.lowered in
    let d = c.in-Some.lowered.divisor in
    let s = (goal.at.invariant_of-self-2 c).After-swap in
    let a = c.args.shared.scale in
    let m = r.bottom / d * a in
    let room : length c.swap.new.y.items ≡ length r.tops.items = rw c.swap.ensures.y_after refl in
    subst (λ (n : ℕ). IsKept r.short m c.in-Some.lowered.bound c.swap.new.x.items r.numbers.items n) (sym room)
    (subst (λ (ts : List ℤ). IsKept r.short m c.in-Some.lowered.bound ts r.numbers.items (length r.tops.items)) (sym (taken s))
    (record {
      same_length = λ e. count s ∙ c.self.invariant.same_length e;
      room_is = sym (count s);
      positive = pos_product (r.bottom / d) a (lower_pos r.bottom d c.self.invariant.positive low.divides) (shares s).scale_positive;
      bottom_small = OnTrue_at c.if-not-product_keeps_within.false c.product_keeps_within.ensures;
      bound_small = low.small;
      within = low.within;
    }))

pub returns-clause-done : goal.returns-clause-done
returns-clause-done c =
    let r = c.self.inside in
    let p = c.pivot_row.inside in
    let low = c.in-Some.ensures.lowered in
    let d = c.in-Some.lowered.divisor in
    let us = c.combine_lowered.new.quotients in
    let g = c.args.shared.common in
    let a = c.args.shared.scale in
    let f = c.args.shared.factor in
    let m = r.bottom / d * a in
    let s = shares (goal.at.returns-clause-done c).After-swap in
    let inside : c.args.enter < length r.tops.items = omega (arith, c.requires.inside, length_shown r.short r.bottom r.tops.items r.numbers.items c.args.self.now c.self.view_is c.self.invariant.same_length) in
    let t : IsCombinedOver r.tops.items (pos a) p.tops.items f d us =
    combined_over_plain c.deref-3.result.now r.tops.items p.tops.items c.deref-4.result.now us _ f a d c.deref-3.ensures.value c.deref-4.ensures.value
    (scale_back a s.scale_small) (back f (omega (arith, s.factor_small))) low.combined in
    reduced_row r.short p.short r.bottom p.bottom r.bound p.bound a g m f r.tops.items us p.tops.items r.numbers.items p.numbers.items c.args.self.now _ c.args.pivot_row.now c.args.enter
    c.self.view_is c.if-not-self.false c.self.invariant c.pivot_row.view_is c.if-not-pivot_row.false c.pivot_row.invariant c.requires.width inside s.positive s.divides s.scale_is s.factor_is
    (divided_tops r.bottom d a f r.tops.items p.tops.items us c.self.invariant.positive low.positive low.divides s.scale_positive t)
    (ap (λ ts. shown r.short m ts r.numbers.items) (taken (goal.at.returns-clause-done c).After-swap))
  where
    shown : Bool → ℕ → List ℤ → List Fraction → Numbers
    shown s b ts ns = record { items = kept s b ts ns }
