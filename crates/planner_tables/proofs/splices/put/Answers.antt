use Rattle.std.proofs.Common.{ap, arith}
use Rattle.std.specs.Prelude.{vec_len}
use Rattle.std.proofs.lemmas.Grind.{common_steps}
use Rattle.planner_tables.proofs.SpliceLemmas.{goes_again}
use Rattle.planner_tables.proofs.splices.put.Goals as goal

pub returns-in-Ok-insert-clause-back : goal.returns-in-Ok-insert-clause-back
returns-in-Ok-insert-clause-back g c =
    goes_again c.args.list.now.items c.replace-room.new.dest.items c.args.place c.args.item c.replace-room.result
    (let h = c.args.list.now.ok.0 in omega arith)
    (grind (arith, common_steps))
    (let h = ap vec_len c.replace-room.ensures.value in grind (arith, common_steps))
    (grind (arith, common_steps, c.args.list.now.ok.0))
