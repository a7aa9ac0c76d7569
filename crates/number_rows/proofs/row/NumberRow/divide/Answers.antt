use Rattle.std.proofs.Common.{◌≡◌, ◌∙◌, sym, ap, subst, arith, ℕ, ◌<◌, ◌≤◌, ◌^◌, length, List, ℤ, unsigned_abs}
use Rattle.std.proofs.lemmas.List.{get_or_read, with_items_is}
use Rattle.std.specs.Prelude.{pos, Bool}
use Rattle.fractions.specs.Fraction.{Fraction}
use Rattle.linear_table.specs.Plans.{number_at}
use Rattle.number_rows.specs.Changed.{Numbers}
use Rattle.number_rows.specs.Row.{kept, IsKept}
use Rattle.number_rows.specs.Tops.{top_at, AreWithin, IsTurned}
use Rattle.number_rows.proofs.Kept.{short_at, length_shown}
use Rattle.std.specs.Int.Signed.{lt_z}
use Rattle.number_rows.proofs.Lists.{wrap, back}
use Rattle.number_rows.proofs.Exchanged.{divided_row, size_some, top_not_zero, turned_size}
use Rattle.number_rows.proofs.row.NumberRow.divide.Goals.{After-unsigned_abs-self-inside}
use Rattle.number_rows.proofs.row.NumberRow.divide.Goals as goal

pub invariant_of-self : goal.invariant_of-self
invariant_of-self c =
    let r = c.self.inside in
    let d = c.turn_all in
    let xs = c.args.self.now in
    let inside : c.args.enter < length r.tops.items = omega (arith, c.requires.inside, length_shown r.short r.bottom r.tops.items r.numbers.items xs c.self.view_is c.self.invariant.same_length) in
    let t : c.index-pivot.result.now ≡ top_at r.tops.items c.args.enter = get_or_read r.tops.items c.args.enter c.index-pivot.result.now inside c.index-pivot.ensures (pos 0) in
    let small : unsigned_abs (top_at r.tops.items c.args.enter) ≤ r.bound = c.self.invariant.within c.args.enter inside in
    let m : c.unsigned_abs-self-inside.result ≡ unsigned_abs (top_at r.tops.items c.args.enter) = c.unsigned_abs-self-inside.ensures.value ∙ ap unsigned_abs (back c.index-pivot.result.now (subst (λ (z : ℤ). unsigned_abs z < 2 ^ 63) (sym t) (omega (arith, small, c.self.invariant.bound_small))) ∙ t) in
    let some : 0 < unsigned_abs (top_at r.tops.items c.args.enter) = size_some (top_at r.tops.items c.args.enter) (top_not_zero (top_at r.tops.items c.args.enter) r.bottom (number_at xs.items c.args.enter) c.self.invariant.positive (short_at r.short r.bottom r.tops.items r.numbers.items xs c.args.enter c.self.view_is c.if-self.true inside) c.requires.not_zero) in
    let old : c.deref_mut.result.now ≡ r.tops.items = c.deref_mut.ensures.value in
    let len : length d.new.tops ≡ length r.tops.items = d.ensures.length_is ∙ ap (λ (ts : List ℤ). length ts) old in
    subst (λ (ts : List ℤ). IsKept r.short c.unsigned_abs-self-inside.result r.bound ts r.numbers.items (length r.spare.items)) (sym (with_items_is r.tops d.new.tops (len ∙ sym r.tops.ok.0)))
    (record {
      same_length = λ e. len ∙ c.self.invariant.same_length e;
      room_is = c.self.invariant.room_is ∙ sym len;
      positive = omega (arith, m, some);
      bottom_small = omega (arith, m, small, c.self.invariant.bound_small);
      bound_small = c.self.invariant.bound_small;
      within = within (c.deref_mut.result.now) r.tops.items d.new.tops r.bound _ old d.ensures c.self.invariant.within;
    })
  where
    within : (cur ts us : List ℤ) (bound : ℕ) (z : Bool) → cur ≡ ts → IsTurned cur z us → AreWithin ts bound → AreWithin us bound
    within cur ts us bound z e t h = λ k q.
        let lt : k < length cur = omega (arith, q, t.length_is) in
        subst (λ (n : ℕ). n ≤ bound) (sym (ap unsigned_abs (t.numbers k lt) ∙ turned_size (top_at cur k) z)) (subst (λ (l : List ℤ). unsigned_abs (top_at l k) ≤ bound) (sym e) (h k (subst (λ (l : List ℤ). k < length l) e lt)))

pub returns-then-self-clause-ok : goal.returns-then-self-clause-ok
returns-then-self-clause-ok c =
    let r = c.self.inside in
    let d = c.turn_all in
    let xs = c.args.self.now in
    let inside : c.args.enter < length r.tops.items = omega (arith, c.requires.inside, length_shown r.short r.bottom r.tops.items r.numbers.items xs c.self.view_is c.self.invariant.same_length) in
    let t : c.index-pivot.result.now ≡ top_at r.tops.items c.args.enter = get_or_read r.tops.items c.args.enter c.index-pivot.result.now inside c.index-pivot.ensures (pos 0) in
    let small : unsigned_abs (top_at r.tops.items c.args.enter) ≤ r.bound = c.self.invariant.within c.args.enter inside in
    let w = back c.index-pivot.result.now (subst (λ (z : ℤ). unsigned_abs z < 2 ^ 63) (sym t) (omega (arith, small, c.self.invariant.bound_small))) ∙ t in
    let m : c.unsigned_abs-self-inside.result ≡ unsigned_abs (top_at r.tops.items c.args.enter) = c.unsigned_abs-self-inside.ensures.value ∙ ap unsigned_abs w in
    let old : c.deref_mut.result.now ≡ r.tops.items = c.deref_mut.ensures.value in
    let len : length d.new.tops ≡ length r.tops.items = d.ensures.length_is ∙ ap (λ (ts : List ℤ). length ts) old in
    let z : Bool = lt_z (wrap c.index-pivot.result.now) (pos 0) in
    let turned : IsTurned r.tops.items z d.new.tops = subst (λ (ts : List ℤ). IsTurned ts z d.new.tops) old d.ensures in
    divided_row r.short r.bottom c.unsigned_abs-self-inside.result r.bound r.tops.items d.new.tops r.numbers.items xs c.find_inverse.new.self c.args.enter z c.self.view_is c.if-self.true c.self.invariant inside c.requires.not_zero
    (ap (λ z. lt_z z (pos 0)) w) m turned
    (c.find_inverse.ensures ∙ (c.cancel.ensures.same ∙ ap (λ ts. shown r.short c.unsigned_abs-self-inside.result ts r.numbers.items) (with_items_is r.tops d.new.tops (len ∙ sym r.tops.ok.0))))
  where
    shown : Bool → ℕ → List ℤ → List Fraction → Numbers
    shown s b ts ns = record { items = kept s b ts ns }
