use Rattle.std.proofs.Common.{◌↔◌, length}
use Rattle.linear_table.specs.Plans.{Rises}
use Rattle.linear_table.proofs.form.places_rise.Given as goal

abbrev pub invariant-loop-rest : goal.invariant-loop-rest
invariant-loop-rest l = Rises l.from l.goods l.rest ↔ Rises 0 l.goods l.parts

abbrev pub decreases-loop-rest : goal.decreases-loop-rest
decreases-loop-rest l = length l.rest
