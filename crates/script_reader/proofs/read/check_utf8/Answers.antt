use Rattle.std.proofs.Common.{refl}
use Rattle.script_reader.specs.Reading.{Answers, the_one}
use Rattle.script_reader.proofs.read.check_utf8.Goals as goal

pub returns-in-Ok : goal.returns-in-Ok
unfolding Answers the_one
returns-in-Ok c = c.in-Ok.ensures.cases.1

pub returns-in-Err : goal.returns-in-Err
unfolding Answers the_one
returns-in-Err c = (refl, λ u. c.in-Err.ensures.cases.0)
