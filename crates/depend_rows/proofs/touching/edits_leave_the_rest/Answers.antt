use Rattle.depend_rows.proofs.AlikeLaw.{alike_law}
use Rattle.depend_rows.proofs.touching.edits_leave_the_rest.Goals as goal

pub returns : goal.returns
returns c = alike_law
