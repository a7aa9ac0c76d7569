use Rattle.fractions.proofs.Significant.{leading_zero, leading_kept, leading_counted}
use Rattle.fractions.proofs.numeral.Leading.then.Goals.{else-self-eq0-via-then-self-eq0+else-digit-eq48, else-self-eq0-via-else-self-eq0}
use Rattle.fractions.proofs.numeral.Leading.then.Goals as goal

pub returns-then-digit-eq48 : goal.returns-then-digit-eq48
returns-then-digit-eq48 c ds h = leading_zero ds c.args.digit c.args.self c.if-self-eq0.true c.if-digit-eq48.true h

pub returns-then-self-lt16 : goal.returns-then-self-lt16
returns-then-self-lt16 c ds h =
    leading_kept ds c.args.digit c.args.self
    (λ z e. elim c.else-self-eq0.branch [ else-self-eq0-via-then-self-eq0+else-digit-eq48 w ↦ w.if-digit-eq48.false e | else-self-eq0-via-else-self-eq0 w ↦ w.if-self-eq0.false z ])
    c.requires.digit c.if-self-lt16.true h

pub returns-else-self-lt16 : goal.returns-else-self-lt16
returns-else-self-lt16 c ds h =
    leading_counted ds c.args.digit c.args.self
    (λ z e. elim c.else-self-eq0.branch [ else-self-eq0-via-then-self-eq0+else-digit-eq48 w ↦ w.if-digit-eq48.false e | else-self-eq0-via-else-self-eq0 w ↦ w.if-self-eq0.false z ])
    c.if-self-lt16.false h
