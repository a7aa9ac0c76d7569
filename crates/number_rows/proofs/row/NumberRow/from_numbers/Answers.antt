use Rattle.std.proofs.Common.{◌≡◌, ◌∙◌, sym, ap, length, List, ℤ, true}
use Rattle.std.specs.Prelude.{[]}
use Rattle.std.proofs.lemmas.List.{with_items_is}
use Rattle.number_rows.specs.Row.{kept}
use Rattle.number_rows.proofs.Kept.{shown_over}
use Rattle.number_rows.proofs.row.NumberRow.from_numbers.Goals as goal

pub returns-in-Some : goal.returns-in-Some
returns-in-Some c =
    let u = c.short_form.new.tops in
    let b = c.in-Some.short.bottom in
    let len : length u ≡ length c.in_ok-tops.tops.items = c.short_form.ensures.length_is ∙ ap (λ (ts : List ℤ). length ts) c.deref_mut.ensures.value in
    ap (λ (ts : List ℤ). kept true b ts []) (with_items_is c.in_ok-tops.tops u (len ∙ sym c.in_ok-tops.tops.ok.0))
    ∙ (shown_over b u c.deref.result.now c.in-Some.ensures.over.4 ∙ c.deref.ensures.value)
