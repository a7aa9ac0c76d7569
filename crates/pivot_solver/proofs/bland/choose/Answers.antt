use Rattle.std.proofs.Common.{subst, sym, List}
use Rattle.std.proofs.lemmas.Bool.{OnTrue_at, OnFalse_at}
use Rattle.fractions.specs.Fraction.{Fraction}
use Rattle.pivot_solver.specs.Tableau.{IsTableau}
use Rattle.pivot_solver.proofs.Choosing.{unsettled_by_rows, plan_at, none_at}
use Rattle.pivot_solver.proofs.bland.choose.Goals as goal

pub returns-in-Some : goal.returns-in-Some
returns-in-Some g c =
    none_at g.t.system c.args.basis.now c.args.rows.now g.t.cost c.requires.0 c.args.goods c.args.columns c.in-Some.row c.requires.1.1.1.0 c.requires.1.1.1.1.0 c.in-Some.ensures.0 c.in-Some.ensures.1

pub returns-then-shows_plan : goal.returns-then-shows_plan
returns-then-shows_plan g c =
    plan_at g.t.system c.args.basis.now c.args.rows.now c.args.cost.now.items (subst (λ (k : List Fraction). IsTableau g.t.system c.args.basis.now c.args.rows.now k) (sym c.requires.1.0) c.requires.0) c.args.goods c.args.columns c.requires.1.1.1.0 c.requires.1.1.1.1.0
    (OnTrue_at c.if-shows_plan.true c.shows_plan.ensures.yes).0 (OnTrue_at c.if-shows_plan.true c.shows_plan.ensures.yes).1

pub pivot_by_aim-requires : goal.pivot_by_aim-requires
pivot_by_aim-requires g c = (
  c.requires.0,
  (
    c.requires.1.1.1.0,
    (
      c.requires.1.1.1.1.0,
      (
        c.requires.1.1.1.1.1,
        (
          c.in-Some-aim_row.ensures,
          (
            c.in-None.ensures,
            unsettled_by_rows g.t.system c.args.basis.now c.args.rows.now c.args.cost.now.items (subst (λ (k : List Fraction). IsTableau g.t.system c.args.basis.now c.args.rows.now k) (sym c.requires.1.0) c.requires.0) c.args.goods c.args.columns c.requires.1.1.1.0 c.requires.1.1.1.1.0 c.in-None.ensures (OnFalse_at c.if-shows_plan.false c.shows_plan.ensures.not),
          ),
        ),
      ),
    ),
  ),
)

pub pivot_by_cost-requires : goal.pivot_by_cost-requires
pivot_by_cost-requires g c = (
  subst (λ (k : List Fraction). IsTableau g.t.system c.args.basis.now c.args.rows.now k) (sym c.requires.1.0) c.requires.0,
  (
    c.requires.1.1.0,
    (
      c.requires.1.1.1.0,
      (
        c.requires.1.1.1.1.0,
        (
          c.requires.1.1.1.1.1,
          (
            c.in-None-aim_row.ensures,
            (
              c.in-None.ensures,
              unsettled_by_rows g.t.system c.args.basis.now c.args.rows.now c.args.cost.now.items (subst (λ (k : List Fraction). IsTableau g.t.system c.args.basis.now c.args.rows.now k) (sym c.requires.1.0) c.requires.0) c.args.goods c.args.columns c.requires.1.1.1.0 c.requires.1.1.1.1.0 c.in-None.ensures (OnFalse_at c.if-shows_plan.false c.shows_plan.ensures.not),
            ),
          ),
        ),
      ),
    ),
  ),
)

pub returns-in-Some-aim_row : goal.returns-in-Some-aim_row
returns-in-Some-aim_row g c = c.pivot_by_aim.ensures
