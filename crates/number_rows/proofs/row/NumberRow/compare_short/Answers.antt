use Rattle.std.proofs.Common.{◌≡◌, ◌∙◌, ap, arith, ℕ, ◌<◌, ◌^◌, length, List, ℤ}
use Rattle.std.proofs.lemmas.List.{get_or_read}
use Rattle.std.specs.Prelude.{pos, ◌*ℤ◌}
use Rattle.linear_table.specs.Plans.{number_at}
use Rattle.number_rows.specs.Tops.{top_at, AreWithin}
use Rattle.number_rows.proofs.Kept.{short_at, length_shown}
use Rattle.fractions.proofs.Parts.{whole_back}
use Rattle.number_rows.proofs.Lists.{wrap, back}
use Rattle.number_rows.proofs.Signs.{compared_by}
use Rattle.number_rows.proofs.row.NumberRow.compare_short.Goals as goal

read_is : (ts : List ℤ) (k : ℕ) (bound : ℕ) (t : ℤ) → AreWithin ts bound → bound < 2 ^ 62 → k < length ts → t ≡ top_at ts k → wrap t ≡ top_at ts k
read_is ts k bound t h hb lt e = ap wrap e ∙ back (top_at ts k) (omega (arith, h k lt, hb))

pub returns-then-other : goal.returns-then-other
returns-then-other c =
    let r = c.self.inside in
    let o = c.other.inside in
    let xs = c.args.self.now in
    let ys = c.args.other.now in
    let len = length_shown r.short r.bottom r.tops.items r.numbers.items xs c.self.view_is c.self.invariant.same_length in
    let len' = length_shown o.short o.bottom o.tops.items o.numbers.items ys c.other.view_is c.other.invariant.same_length in
    let v : c.args.value < length r.tops.items = omega (arith, len, c.requires.inside.0) in
    let e : c.args.enter < length r.tops.items = omega (arith, len, c.requires.inside.1) in
    let v' : c.args.value < length o.tops.items = omega (arith, len', c.requires.other_inside.0) in
    let e' : c.args.enter < length o.tops.items = omega (arith, len', c.requires.other_inside.1) in
    let f = c.long_product-first in
    let s = c.long_product-second in
    let rv = read_is r.tops.items c.args.value r.bound c.index.result.now c.self.invariant.within c.self.invariant.bound_small v (get_or_read r.tops.items c.args.value c.index.result.now v c.index.ensures (pos 0)) in
    let oe = read_is o.tops.items c.args.enter o.bound c.index-then-other.result.now c.other.invariant.within c.other.invariant.bound_small e' (get_or_read o.tops.items c.args.enter c.index-then-other.result.now e' c.index-then-other.ensures (pos 0)) in
    let ov = read_is o.tops.items c.args.value o.bound c.index-then-other-2.result.now c.other.invariant.within c.other.invariant.bound_small v' (get_or_read o.tops.items c.args.value c.index-then-other-2.result.now v' c.index-then-other-2.ensures (pos 0)) in
    let re = read_is r.tops.items c.args.enter r.bound c.index-then-other-3.result.now c.self.invariant.within c.self.invariant.bound_small e (get_or_read r.tops.items c.args.enter c.index-then-other-3.result.now e c.index-then-other-3.ensures (pos 0)) in
    compared_by (number_at xs.items c.args.value) (number_at xs.items c.args.enter) (number_at ys.items c.args.value) (number_at ys.items c.args.enter)
    (top_at r.tops.items c.args.value) (top_at r.tops.items c.args.enter) (top_at o.tops.items c.args.value) (top_at o.tops.items c.args.enter) r.bottom o.bottom _ _ c.cmp.result c.self.invariant.positive c.other.invariant.positive
    (short_at r.short r.bottom r.tops.items r.numbers.items xs c.args.value c.self.view_is c.if-self.true v)
    (short_at r.short r.bottom r.tops.items r.numbers.items xs c.args.enter c.self.view_is c.if-self.true e)
    (short_at o.short o.bottom o.tops.items o.numbers.items ys c.args.value c.other.view_is c.if-other.true v')
    (short_at o.short o.bottom o.tops.items o.numbers.items ys c.args.enter c.other.view_is c.if-other.true e')
    c.requires.above c.requires.other_above
    (whole_back f.result (omega (arith, f.ensures.small)) ∙ (f.ensures.value ∙ (ap (λ k. k *ℤ wrap c.index-then-other.result.now) rv ∙ ap (λ k. top_at r.tops.items c.args.value *ℤ k) oe)))
    (whole_back s.result (omega (arith, s.ensures.small)) ∙ (s.ensures.value ∙ (ap (λ k. k *ℤ wrap c.index-then-other-3.result.now) ov ∙ ap (λ k. top_at o.tops.items c.args.value *ℤ k) re)))
    c.cmp.ensures
