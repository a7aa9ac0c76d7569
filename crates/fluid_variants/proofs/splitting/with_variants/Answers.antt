use Rattle.fluid_variants.proofs.splitting.with_variants.Goals as goal

pub returns-in-Ok : goal.returns-in-Ok
returns-in-Ok c = c.in-Ok.ensures.game

pub returns-in-Err : goal.returns-in-Err
returns-in-Err c = c.in-Err.ensures.fault
