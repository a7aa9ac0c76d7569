use Rattle.std.proofs.Common.{◌%◌, ◌∙◌, ap, sym}
use Rattle.fractions.specs.Gcd.{gcd, gcd_comm}
use Rattle.fractions.proofs.whole.shared_divisor.Goals as goal
use Rattle.fractions.proofs.Ceiling.{gcd-one}

pub returns-then-small-eq1-clause-exact : goal.returns-then-small-eq1-clause-exact
returns-then-small-eq1-clause-exact c =
    let k = c.args.any % c.args.small in
    sym (gcd_comm c.args.small k ∙ (ap (gcd k) c.if-small-eq1.true ∙ gcd-one k))
