use Rattle.std.proofs.Common.{◌≡◌, ◌∙◌, sym, ap, ℕ, length, List, ℤ, true}
use Rattle.std.specs.Prelude.{Bool}
use Rattle.std.proofs.lemmas.List.{with_items_is}
use Rattle.fractions.specs.Fraction.{Fraction}
use Rattle.number_rows.specs.Changed.{Numbers}
use Rattle.number_rows.specs.Row.{kept}
use Rattle.number_rows.proofs.Exchanged.{shortened}
use Rattle.number_rows.proofs.row.NumberRow.shorten.Goals as goal

pub returns : goal.returns
returns c =
    let r = c.self.inside in
    let u = c.write_short.new.tops in
    let b = c.in-Some.short.bottom in
    let len : length u ≡ length r.tops.items = c.write_short.ensures.length_is ∙ ap (λ (ts : List ℤ). length ts) c.deref_mut.ensures.value in
    ap (λ ts. shown true b ts r.numbers.items) (with_items_is r.tops u (len ∙ sym r.tops.ok.0))
    ∙ shortened r.short r.bottom b r.tops.items u r.numbers.items c.args.self.now c.self.view_is c.if-self.false c.in-Some.ensures.over.4
  where
    shown : Bool → ℕ → List ℤ → List Fraction → Numbers
    shown s b ts ns = record { items = kept s b ts ns }
