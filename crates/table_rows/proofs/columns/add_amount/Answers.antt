use Rattle.std.proofs.Common.{◌≡◌, ◌∙◌, ℕ, ◌<◌, ◌≤◌, List, length, sym, subst, refl, ap, arith}
use Rattle.std.specs.Prelude.{true, false, Result, Ok, Err, slice_index_or, slice_set, drop}
use Rattle.fractions.specs.Fraction.{Fraction}
use Rattle.plan_base.specs.declared.ids.GoodId.{GoodId}
use Rattle.game_types.specs.declared.effects.Wide.{Wide}
use Rattle.game_types.specs.Steps.{◌▸◌}
use Rattle.game_types.proofs.Walks.{returned}
use Rattle.table_rows.specs.declared.faults.RowFault.TheVariants.{Wide as WideRow}
use Rattle.table_rows.specs.Places.{has_at, IsPlace, StartsFrom}
use Rattle.table_rows.proofs.Parts.{has_within, part_added, part_new}
use Rattle.table_rows.proofs.Sums.{handed_on}
use Rattle.table_rows.proofs.columns.add_amount.Goals as goal

pub returns-in_err-sum : goal.returns-in_err-sum
returns-in_err-sum c =
    let column = c.args.column.now.items in
    let place = c.place_in-place.result in
    let at : IsPlace column c.args.good place = subst (λ (ps : List (GoodId × Fraction)). IsPlace ps c.args.good place) c.as_slice.ensures.value c.place_in-place.ensures.place in
    let has : has_at column place c.args.good ≡ true
    = ap (λ (ps : List (GoodId × Fraction)). has_at ps place c.args.good) (sym c.as_slice-2.ensures.value) ∙ sym c.has_at.ensures ∙ c.if-has_at.true in
    let meant = part_added c.args.step c.args.good c.args.amount.now column place c.index.result.now at has c.index.ensures in
    let wide_is : (wide : Wide) → WideRow c.in_err-sum.field-0.0 ≡ WideRow wide → c.in_err-sum.field-0.0 ≡ wide = λ wide is. cc in
    handed_on _ c.from_residual.result (WideRow c.in_err-sum.field-0.0) column (returned c.from_residual.result (WideRow c.in_err-sum.field-0.0) c.from_residual.ensures)
    (λ wide is.
    meant
    ∙ ap (λ (r : Result Fraction Wide). r ▸ λ sum. Ok (slice_set column place (c.args.good, sum))) (sym c.in_err-sum.ensures)
    ∙ ap (λ (w : Wide). Err w) (wide_is wide is))

pub index_mut-requires : goal.index_mut-requires
index_mut-requires c =
    let column = c.args.column.now.items in
    let place = c.place_in-place.result in
    let has : has_at column place c.args.good ≡ true
    = ap (λ (ps : List (GoodId × Fraction)). has_at ps place c.args.good) (sym c.as_slice-2.ensures.value) ∙ sym c.has_at.ensures ∙ c.if-has_at.true in
    let within : place < length c.as_slice.result.now = subst (λ (ps : List (GoodId × Fraction)). place < length ps) (sym c.as_slice.ensures.value) (has_within column place c.args.good has) in
    let same = c.as_slice.ensures.len in
    omega arith

pub returns-then-has_at : goal.returns-then-has_at
returns-then-has_at c =
    let column = c.args.column.now.items in
    let place = c.place_in-place.result in
    let at : IsPlace column c.args.good place = subst (λ (ps : List (GoodId × Fraction)). IsPlace ps c.args.good place) c.as_slice.ensures.value c.place_in-place.ensures.place in
    let has : has_at column place c.args.good ≡ true
    = ap (λ (ps : List (GoodId × Fraction)). has_at ps place c.args.good) (sym c.as_slice-2.ensures.value) ∙ sym c.has_at.ensures ∙ c.if-has_at.true in
    let meant = part_added c.args.step c.args.good c.args.amount.now column place c.index.result.now at has c.index.ensures in
    meant ∙ ap (λ (r : Result Fraction Wide). r ▸ λ sum. Ok (slice_set column place (c.args.good, sum))) (sym c.in_ok-sum.ensures)

pub returns : goal.returns
returns c =
    let column = c.args.column.now.items in
    let place = c.place_in-place.result in
    let at : IsPlace column c.args.good place = subst (λ (ps : List (GoodId × Fraction)). IsPlace ps c.args.good place) c.as_slice.ensures.value c.place_in-place.ensures.place in
    let within : place ≤ length column = subst (λ (ps : List (GoodId × Fraction)). place ≤ length ps) c.as_slice.ensures.value c.place_in-place.ensures.within in
    let has : has_at column place c.args.good ≡ false
    = ap (λ (ps : List (GoodId × Fraction)). has_at ps place c.args.good) (sym c.as_slice-2.ensures.value) ∙ sym c.has_at.ensures ∙ c.if-has_at.false in
    part_new c.args.step c.args.good c.args.amount.now column place at.before at.behind has within
    ∙ ap (λ (ps : List (GoodId × Fraction)). Ok ps) (sym c.in_ok-insert.ensures.items)
