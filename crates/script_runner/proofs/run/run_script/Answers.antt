use Rattle.std.proofs.Common.{refl}
use Rattle.script_runner.proofs.FormLemmas.{ends_many}
use Rattle.script_runner.proofs.run.run_script.Goals as goal

pub returns-then-has_many_lines-clause-leaves : goal.returns-then-has_many_lines-clause-leaves
returns-then-has_many_lines-clause-leaves g c =
    ends_many c.args.planner.now c.args.script.now c.args.solved.now.items (g.K.Sink.written c.args.out.now) (g.K.Sink.written c.tell_many_lines.new.out) c.args.steps.now c.tell_many_lines.result c.requires.none_yet (c.if-has_many_lines.ensures.many refl) c.tell_many_lines.ensures.tells
