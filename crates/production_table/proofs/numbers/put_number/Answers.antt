use Rattle.std.proofs.Common.{◌≡◌, ◌∙◌, ◌≤◌, List, length, sym, ap, subst}
use Rattle.std.specs.Prelude.{true, false}
use Rattle.fractions.specs.Fraction.{Fraction}
use Rattle.plan_base.specs.declared.ids.GoodId.{GoodId}
use Rattle.table_rows.specs.Places.{has_at, IsPlace}
use Rattle.production_table.proofs.NumberLemmas.{put_at, put_new}
use Rattle.production_table.proofs.numbers.put_number.Goals as goal

pub returns-then-has_at-clause-ok : goal.returns-then-has_at-clause-ok
returns-then-has_at-clause-ok c =
    let pairs = c.args.pairs.now.items in
    let place = c.place_in-place.result in
    let at : IsPlace pairs c.args.good place = subst (λ (ps : List (GoodId × Fraction)). IsPlace ps c.args.good place) c.as_slice.ensures.value c.place_in-place.ensures.place in
    let has : has_at pairs place c.args.good ≡ true
    = ap (λ (ps : List (GoodId × Fraction)). has_at ps place c.args.good) (sym c.as_slice-2.ensures.value) ∙ sym c.has_at.ensures ∙ c.if-has_at.true in
    sym (put_at c.args.good c.args.number.now pairs place at has)

pub returns-clause-ok : goal.returns-clause-ok
returns-clause-ok c =
    let pairs = c.args.pairs.now.items in
    let place = c.place_in-place.result in
    let at : IsPlace pairs c.args.good place = subst (λ (ps : List (GoodId × Fraction)). IsPlace ps c.args.good place) c.as_slice.ensures.value c.place_in-place.ensures.place in
    let within : place ≤ length pairs = subst (λ (ps : List (GoodId × Fraction)). place ≤ length ps) c.as_slice.ensures.value c.place_in-place.ensures.within in
    let has : has_at pairs place c.args.good ≡ false
    = ap (λ (ps : List (GoodId × Fraction)). has_at ps place c.args.good) (sym c.as_slice-2.ensures.value) ∙ sym c.has_at.ensures ∙ c.if-has_at.false in
    c.in_ok-insert.ensures.items ∙ sym (put_new c.args.good c.args.number.now pairs place at.before at.behind has within)
