use Rattle.std.proofs.Common.{arith, below_more, sym, ◌∙◌}
use Rattle.plan_certificate.proofs.Ends.{within_at, gains_at, above, not_above}
use Rattle.plan_certificate.proofs.check_values.Goals as goal

pub returns-in_default : goal.returns-in_default
returns-in_default c =
    record {
      place = c.loop-j.j;
      first = record { inside = omega arith; earlier = c.loop-j.invariant; fails = λ h. c.in_default.ensures h.0 };
      wide = c.in_default.ensures;
    }

pub returns-then-gt : goal.returns-then-gt
returns-then-gt c =
    gains_at c.args.linear.now c.args.limit c.args.prices.now c.loop-j.j c.in-Ok.value c.limit_of-most.result c.name.result
    (omega arith) c.loop-j.invariant c.in-Ok.ensures c.limit_of-most.ensures (above c.in-Ok.value c.limit_of-most.result (sym c.gt.ensures ∙ c.if-gt.true)) c.name.ensures

pub loop-j-preserved : goal.loop-j-preserved
loop-j-preserved c =
    below_more _ _ c.loop-j.invariant
    (within_at c.args.linear.now c.args.limit c.args.prices.now c.loop-j.j c.in-Ok.value c.limit_of-most.result c.in-Ok.ensures c.limit_of-most.ensures (not_above c.in-Ok.value c.limit_of-most.result (sym c.gt.ensures ∙ c.if-gt.false)))

pub returns : goal.returns
returns c = λ j h. c.loop-j.invariant j (omega arith)
