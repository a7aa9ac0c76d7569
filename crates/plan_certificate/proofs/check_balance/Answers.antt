use Rattle.std.proofs.Common.{arith, below_more, sym, ◌∙◌}
use Rattle.plan_certificate.proofs.Ends.{balanced_at, unbalanced_at, equal, differ}
use Rattle.plan_certificate.proofs.check_balance.Goals as goal

pub returns-in_default : goal.returns-in_default
returns-in_default c =
    record {
      place = c.loop-g.g;
      first = record { inside = omega arith; earlier = c.loop-g.invariant; fails = λ h. c.in_default.ensures h.0 };
      wide = c.in_default.ensures;
    }

pub returns-then-ne : goal.returns-then-ne
returns-then-ne c =
    unbalanced_at c.args.linear.now c.args.rates.now c.loop-g.g c.in-Ok.sum c.want-want.result c.good.result (omega arith) c.loop-g.invariant c.in-Ok.ensures c.want-want.ensures (differ c.in-Ok.sum c.want-want.result (sym c.ne.ensures ∙ c.if-ne.true)) c.good.ensures

pub loop-g-preserved : goal.loop-g-preserved
loop-g-preserved c =
    below_more _ _ c.loop-g.invariant
    (balanced_at c.args.linear.now c.args.rates.now c.loop-g.g c.in-Ok.sum c.want-want.result c.in-Ok.ensures c.want-want.ensures (equal c.in-Ok.sum c.want-want.result (sym c.ne.ensures ∙ c.if-ne.false)))

pub returns : goal.returns
returns c = λ g h. c.loop-g.invariant g (omega arith)
