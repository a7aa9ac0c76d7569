use Rattle.std.proofs.Common.{◌≡◌, ◌∙◌, sym, ap, subst, arith, ℕ, ◌<◌, length, List, ℤ}
use Rattle.std.proofs.lemmas.List.{get_or_read, with_items_is}
use Rattle.std.proofs.lemmas.Bool.{OnTrue_at}
use Rattle.std.specs.Prelude.{◌*◌, pos, Bool}
use Rattle.fractions.specs.Fraction.{Fraction}
use Rattle.fractions.specs.Fracs.{pos_product}
use Rattle.number_rows.specs.Changed.{Numbers}
use Rattle.number_rows.specs.Row.{kept, IsKept}
use Rattle.number_rows.specs.Tops.{top_at, IsCombined}
use Rattle.number_rows.proofs.Kept.{length_shown}
use Rattle.number_rows.proofs.Lists.{back}
use Rattle.number_rows.proofs.Filled.{filled_tops}
use Rattle.number_rows.proofs.Parts.{HasParts, parts}
use Rattle.number_rows.proofs.Exchanged.{reduced_row, combined_tops, scale_back, combined_plain}
use Rattle.number_rows.proofs.row.NumberRow.reduce_short.Goals.{After-fitting_bound}
use Rattle.number_rows.proofs.row.NumberRow.reduce_short.Goals as goal

-- what the number at the place that enters shares with the denominator of the pivot's row
shares : (c : After-fitting_bound) → HasParts (top_at c.self.inside.tops.items c.args.enter) c.pivot_row.inside.bottom c.args.shared.common c.args.shared.scale c.args.shared.factor
shares c =
    let r = c.self.inside in
    let inside : c.args.enter < length r.tops.items = omega (arith, c.requires.inside, length_shown r.short r.bottom r.tops.items r.numbers.items c.args.self.now c.self.view_is c.self.invariant.same_length) in
    parts c.index.result.now (top_at r.tops.items c.args.enter) c.pivot_row.inside.bottom c.args.shared.common c.args.shared.scale c.args.shared.factor c.pivot_row.invariant.positive (get_or_read r.tops.items c.args.enter c.index.result.now inside c.index.ensures (pos 0))
    (omega (arith, c.self.invariant.within c.args.enter inside, c.self.invariant.bound_small)) (OnTrue_at c.if-not-is_of.false c.is_of.ensures)

pub combine-self-inside-requires-clause-places : goal.combine-self-inside-requires-clause-places
combine-self-inside-requires-clause-places c =
    let p = c.pivot_row.inside in
    filled_tops p.short p.bottom p.bound p.tops.items p.numbers.items c.args.pivot_row.now _ c.args.places.now c.pivot_row.view_is c.if-not-pivot_row.false c.pivot_row.invariant c.deref-2.ensures.value c.requires.places

pub invariant_of-self : goal.invariant_of-self
invariant_of-self c =
    let r = c.self.inside in
    let d = c.combine-self-inside in
    let a = c.args.shared.scale in
    let s = shares (goal.at.invariant_of-self c).After-fitting_bound in
    let len : length d.new.tops ≡ length r.tops.items = d.ensures.combined.length_is ∙ ap (λ (ts : List ℤ). length ts) c.deref_mut.ensures.value in
    subst (λ (ts : List ℤ). IsKept r.short (r.bottom * a) d.result ts r.numbers.items (length r.spare.items)) (sym (with_items_is r.tops d.new.tops (len ∙ sym r.tops.ok.0)))
    (record {
      same_length = λ e. len ∙ c.self.invariant.same_length e;
      room_is = c.self.invariant.room_is ∙ sym len;
      positive = pos_product r.bottom a c.self.invariant.positive s.scale_positive;
      bottom_small = c.in-Some.ensures.3;
      bound_small = d.ensures.small;
      within = d.ensures.within;
    })

pub returns-clause-done : goal.returns-clause-done
returns-clause-done c =
    let r = c.self.inside in
    let p = c.pivot_row.inside in
    let d = c.combine-self-inside in
    let g = c.args.shared.common in
    let a = c.args.shared.scale in
    let f = c.args.shared.factor in
    let s = shares (goal.at.returns-clause-done c).After-fitting_bound in
    let inside : c.args.enter < length r.tops.items = omega (arith, c.requires.inside, length_shown r.short r.bottom r.tops.items r.numbers.items c.args.self.now c.self.view_is c.self.invariant.same_length) in
    let len : length d.new.tops ≡ length r.tops.items = d.ensures.combined.length_is ∙ ap (λ (ts : List ℤ). length ts) c.deref_mut.ensures.value in
    let t : IsCombined r.tops.items (pos a) p.tops.items f d.new.tops =
    combined_plain c.deref_mut.result.now r.tops.items p.tops.items c.deref-2.result.now d.new.tops _ f a c.deref_mut.ensures.value c.deref-2.ensures.value
    (scale_back a s.scale_small) (back f (omega (arith, s.factor_small))) d.ensures.combined in
    reduced_row r.short p.short r.bottom p.bottom r.bound p.bound a g (r.bottom * a) f r.tops.items d.new.tops p.tops.items r.numbers.items p.numbers.items c.args.self.now _ c.args.pivot_row.now c.args.enter
    c.self.view_is c.if-not-self.false c.self.invariant c.pivot_row.view_is c.if-not-pivot_row.false c.pivot_row.invariant c.requires.width inside s.positive s.divides s.scale_is s.factor_is (combined_tops r.bottom a f r.tops.items p.tops.items d.new.tops t)
    (ap (λ ts. shown r.short (r.bottom * a) ts r.numbers.items) (with_items_is r.tops d.new.tops (len ∙ sym r.tops.ok.0)))
  where
    shown : Bool → ℕ → List ℤ → List Fraction → Numbers
    shown s b ts ns = record { items = kept s b ts ns }
