use Rattle.certificate_file.proofs.ReadingLemmas.{fault_gives}
use Rattle.certificate_file.proofs.reading.infeasible_claim.Goals as goal

pub returns-in_err-prices : goal.returns-in_err-prices
returns-in_err-prices c = fault_gives _ c.from_residual.result c.in_err-prices.field-0.0 c.from_residual.ensures (λ bad claim says. c.in_err-prices.ensures.0 bad says.0 says.2, c.in_err-prices.ensures.1)
