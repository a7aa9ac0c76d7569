use Rattle.certificate_file.proofs.ReadingLemmas.{fault_gives}
use Rattle.certificate_file.proofs.reading.plan_claim.Goals as goal

pub returns-in_err-plan : goal.returns-in_err-plan
returns-in_err-plan c = fault_gives _ c.from_residual.result c.in_err-plan.field-0.0 c.from_residual.ensures (λ bad claim says. c.in_err-plan.ensures.0 bad says.0 says.2, c.in_err-plan.ensures.1)
