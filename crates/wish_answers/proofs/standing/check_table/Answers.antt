use Rattle.std.proofs.Common.{Bool, subst}
use Rattle.std.specs.Bool.{OnTrue}
use Rattle.wish_checks.specs.Answers.{IsMet}
use Rattle.wish_setups.specs.declared.wish.Met.{Met}
use Rattle.wish_answers.proofs.standing.check_table.Goals as goal

pub returns-then-branch : goal.returns-then-branch
returns-then-branch c =
    let met : Met = record c.args.met.now { table = c.in_ok-met.field-0 } in
    (met, c.in_ok-met.ensures, subst (λ (b : Bool). OnTrue b (IsMet c.args.game.now c.args.reached.now c.args.name.now c.args.wish.now met)) c.if-branch.true c.in_ok-is_met.ensures.yes)
