use Rattle.certificate_file.proofs.reading.plan_in.Goals as goal

pub returns-in-Err : goal.returns-in-Err
returns-in-Err c = (λ bad plan says. c.in-Err.ensures.0 bad plan.rates says.rates, c.in-Err.ensures.1)

pub returns-in-Err-fraction_at : goal.returns-in-Err-fraction_at
returns-in-Err-fraction_at c = (λ bad plan says. c.in-Err-fraction_at.ensures.0 bad plan.cost says.cost, c.in-Err-fraction_at.ensures.1)

pub returns-in-Err-fractions_at : goal.returns-in-Err-fractions_at
returns-in-Err-fractions_at c = (λ bad plan says. c.in-Err-fractions_at.ensures.0 bad plan.prices says.prices, c.in-Err-fractions_at.ensures.1)
