use Rattle.std.proofs.Common.{arith, subst, sym, ◌≡◌, ◌+◌, ℕ, Option}
use Rattle.std.specs.Prelude.{MatchOption}
use Rattle.std.proofs.lemmas.Bool.{OnTrue_at, OnFalse_at}
use Rattle.fractions.specs.Fraction.{Fraction, zero_fraction, ◌≤ʳ◌, ◌<ʳ◌}
use Rattle.linear_table.specs.Plans.{number_at}
use Rattle.pivot_solver.specs.Rows.{row_at}
use Rattle.pivot_solver.specs.Least.{IsLeastRow, NoRowAbove}
use Rattle.pivot_solver.proofs.ManyRows.{number_of_row}
use Rattle.pivot_solver.proofs.Leaving.{first_one, better_one, keep_best}
use Rattle.pivot_solver.proofs.ratio_test.least_row.Goals as goal
use Rattle.pivot_solver.proofs.ratio_test.least_row.Goals.{then-is_above+in-None, then-is_above+in-Some, else-is_above}

pub loop-i-preserved : goal.loop-i-preserved
loop-i-preserved c =
    let at : number_at c.index-rows-i.result.items c.args.enter ≡ number_at (row_at c.args.rows.now c.loop-i.i) c.args.enter = number_of_row c.args.rows.now c.loop-i.i c.args.enter c.index-rows-i.result (omega arith) c.index-rows-i.is in
    elim c.if-is_above.branch [
      | then-is_above+in-None w ↦
          subst (λ (o : Option ℕ). MatchOption o (NoRowAbove c.args.rows.now c.args.enter (c.loop-i.i + 1)) (IsLeastRow c.args.basis.now c.args.rows.now c.args.enter c.args.value (c.loop-i.i + 1))) (sym w.best-is)
          (first_one c.args.basis.now c.args.rows.now c.args.enter c.args.value c.loop-i.i
          (subst (λ (o : Option ℕ). MatchOption o (NoRowAbove c.args.rows.now c.args.enter c.loop-i.i) (IsLeastRow c.args.basis.now c.args.rows.now c.args.enter c.args.value c.loop-i.i)) w.in-None.is c.loop-i.invariant)
          (subst (λ (x : Fraction). zero_fraction <ʳ x) at (OnTrue_at w.if-is_above.true c.is_above.ensures.above)))
      | then-is_above+in-Some w ↦
          subst (λ (o : Option ℕ). MatchOption o (NoRowAbove c.args.rows.now c.args.enter (c.loop-i.i + 1)) (IsLeastRow c.args.basis.now c.args.rows.now c.args.enter c.args.value (c.loop-i.i + 1))) (sym w.best-is)
          (better_one c.args.basis.now c.args.rows.now c.args.enter c.args.value c.loop-i.i w.in-Some.j w.better.result
          (subst (λ (o : Option ℕ). MatchOption o (NoRowAbove c.args.rows.now c.args.enter c.loop-i.i) (IsLeastRow c.args.basis.now c.args.rows.now c.args.enter c.args.value c.loop-i.i)) w.in-Some.is c.loop-i.invariant)
          (subst (λ (x : Fraction). zero_fraction <ʳ x) at (OnTrue_at w.if-is_above.true c.is_above.ensures.above))
          w.better.ensures.one_of w.better.ensures.beats_i w.better.ensures.beats_j)
      | else-is_above w ↦
          subst (λ (o : Option ℕ). MatchOption o (NoRowAbove c.args.rows.now c.args.enter (c.loop-i.i + 1)) (IsLeastRow c.args.basis.now c.args.rows.now c.args.enter c.args.value (c.loop-i.i + 1))) (sym w.best-is)
          (keep_best c.args.basis.now c.args.rows.now c.args.enter c.args.value c.loop-i.i c.loop-i.best c.loop-i.invariant
          (subst (λ (x : Fraction). x ≤ʳ zero_fraction) at (OnFalse_at w.if-is_above.false c.is_above.ensures.not_above)))
    ]
