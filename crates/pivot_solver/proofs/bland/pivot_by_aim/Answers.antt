use Rattle.std.proofs.Common.{subst, ◌≡◌, ◌<◌, ℕ, List, length}
use Rattle.std.specs.Prelude.{◌≢◌}
use Rattle.std.proofs.lemmas.Bool.{OnTrue_at, OnFalse_at}
use Rattle.fractions.specs.Fraction.{Fraction, zero_fraction, ◌≤ʳ◌, ◌<ʳ◌}
use Rattle.linear_table.specs.Plans.{number_at}
use Rattle.pivot_solver.specs.Rows.{row_at}
use Rattle.pivot_solver.specs.Search.{IsFirstNumber, NoNumber}
use Rattle.pivot_solver.specs.Aim.{IsAimRow}
use Rattle.pivot_solver.specs.Least.{IsLeastRow}
use Rattle.pivot_solver.proofs.ManyRows.{number_of_row, items_of_row}
use Rattle.pivot_solver.proofs.Choosing.{at_sizes, value_zero, next_at_zero, next_above_zero, aim_is_candidate}
use Rattle.pivot_solver.proofs.bland.pivot_by_aim.Goals as goal

pub returns-in-Some-least_row : goal.returns-in-Some-least_row
returns-in-Some-least_row g c =
    let inside : c.args.aim < length c.args.rows.now = c.requires.1.1.1.1.0.inside in
    let value_at : number_at c.index-rows-aim.result.items c.args.columns ≡ number_at (row_at c.args.rows.now c.args.aim) c.args.columns = number_of_row c.args.rows.now c.args.aim c.args.columns c.index-rows-aim.result inside c.index-rows-aim.is in
    let row_is : c.index-rows-aim-then-is_above.result.items ≡ row_at c.args.rows.now c.args.aim = items_of_row c.args.rows.now c.args.aim c.index-rows-aim-then-is_above.result inside c.index-rows-aim-then-is_above.is in
    next_above_zero g.t.system c.args.basis.now c.args.rows.now g.t.cost c.requires.0 c.args.aim c.in-Some.enter c.in-Some-least_row.row
    (at_sizes (λ n w. IsAimRow c.args.basis.now c.args.rows.now n w (length c.args.rows.now) c.args.aim) c.requires.1.0 c.requires.1.1.0 c.requires.1.1.1.1.0)
    (subst (λ (w : ℕ). zero_fraction <ʳ number_at (row_at c.args.rows.now c.args.aim) w) c.requires.1.1.0 (subst (λ (x : Fraction). zero_fraction <ʳ x) value_at (OnTrue_at c.if-is_above.true c.is_above.ensures.above)))
    (at_sizes (λ n w. IsFirstNumber (row_at c.args.rows.now c.args.aim) n w (λ x. zero_fraction <ʳ x) c.in-Some.enter) c.requires.1.0 c.requires.1.1.0
    (subst (λ (r : List Fraction). IsFirstNumber r c.args.goods c.args.columns (λ x. zero_fraction <ʳ x) c.in-Some.enter) row_is c.in-Some.ensures))
    (subst (λ (w : ℕ). IsLeastRow c.args.basis.now c.args.rows.now c.in-Some.enter w (length c.args.rows.now) c.in-Some-least_row.row) c.requires.1.1.0 c.in-Some-least_row.ensures)
    (c.requires.1.1.1.1.1.1 c.requires.0.entries c.requires.0.are_entries)

pub unreachable-requires-in-None-least_row : goal.unreachable-requires-in-None-least_row
unreachable-requires-in-None-least_row g c =
    let inside : c.args.aim < length c.args.rows.now = c.requires.1.1.1.1.0.inside in
    let row_is : c.index-rows-aim-then-is_above.result.items ≡ row_at c.args.rows.now c.args.aim = items_of_row c.args.rows.now c.args.aim c.index-rows-aim-then-is_above.result inside c.index-rows-aim-then-is_above.is in
    absurd (aim_is_candidate g.t.system c.args.basis.now c.args.rows.now g.t.cost c.requires.0 c.args.aim c.in-Some.enter
    (at_sizes (λ n w. IsAimRow c.args.basis.now c.args.rows.now n w (length c.args.rows.now) c.args.aim) c.requires.1.0 c.requires.1.1.0 c.requires.1.1.1.1.0)
    (at_sizes (λ n w. IsFirstNumber (row_at c.args.rows.now c.args.aim) n w (λ x. zero_fraction <ʳ x) c.in-Some.enter) c.requires.1.0 c.requires.1.1.0
    (subst (λ (r : List Fraction). IsFirstNumber r c.args.goods c.args.columns (λ x. zero_fraction <ʳ x) c.in-Some.enter) row_is c.in-Some.ensures))
    c.in-None-least_row.ensures)

pub returns-in-Some-first_nonzero : goal.returns-in-Some-first_nonzero
returns-in-Some-first_nonzero g c =
    let inside : c.args.aim < length c.args.rows.now = c.requires.1.1.1.1.0.inside in
    let value_at : number_at c.index-rows-aim.result.items c.args.columns ≡ number_at (row_at c.args.rows.now c.args.aim) c.args.columns = number_of_row c.args.rows.now c.args.aim c.args.columns c.index-rows-aim.result inside c.index-rows-aim.is in
    let row_is : c.index-rows-aim-else-is_above.result.items ≡ row_at c.args.rows.now c.args.aim = items_of_row c.args.rows.now c.args.aim c.index-rows-aim-else-is_above.result inside c.index-rows-aim-else-is_above.is in
    next_at_zero g.t.system c.args.basis.now c.args.rows.now g.t.cost c.requires.0 c.args.aim c.in-Some-first_nonzero.enter
    (at_sizes (λ n w. IsAimRow c.args.basis.now c.args.rows.now n w (length c.args.rows.now) c.args.aim) c.requires.1.0 c.requires.1.1.0 c.requires.1.1.1.1.0)
    (value_zero g.t.system c.args.basis.now c.args.rows.now g.t.cost c.requires.0 c.args.aim inside c.requires.1.1.1.0
    (subst (λ (w : ℕ). number_at (row_at c.args.rows.now c.args.aim) w ≤ʳ zero_fraction) c.requires.1.1.0 (subst (λ (x : Fraction). x ≤ʳ zero_fraction) value_at (OnFalse_at c.if-is_above.false c.is_above.ensures.not_above))))
    (at_sizes (λ n w. IsFirstNumber (row_at c.args.rows.now c.args.aim) n w (λ x. x ≢ zero_fraction) c.in-Some-first_nonzero.enter) c.requires.1.0 c.requires.1.1.0
    (subst (λ (r : List Fraction). IsFirstNumber r c.args.goods c.args.columns (λ x. x ≢ zero_fraction) c.in-Some-first_nonzero.enter) row_is c.in-Some-first_nonzero.ensures))
    (c.requires.1.1.1.1.1.1 c.requires.0.entries c.requires.0.are_entries)

pub unreachable-requires-in-None-first_nonzero : goal.unreachable-requires-in-None-first_nonzero
unreachable-requires-in-None-first_nonzero g c =
    let inside : c.args.aim < length c.args.rows.now = c.requires.1.1.1.1.0.inside in
    let row_is : c.index-rows-aim-else-is_above.result.items ≡ row_at c.args.rows.now c.args.aim = items_of_row c.args.rows.now c.args.aim c.index-rows-aim-else-is_above.result inside c.index-rows-aim-else-is_above.is in
    absurd (c.requires.1.1.1.1.0.not_zero
    (subst (λ (r : List Fraction). NoNumber r c.args.goods c.args.columns (λ x. x ≢ zero_fraction)) row_is c.in-None-first_nonzero.ensures))
