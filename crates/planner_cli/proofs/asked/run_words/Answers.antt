use Rattle.std.proofs.Common.{◌-◌}
use Rattle.run_inputs.specs.Words.{asked_of}
use Rattle.planner_cli.proofs.HeadlineLemmas.{with_headline}
use Rattle.planner_cli.proofs.asked.run_words.Goals as goal

pub returns-clause-leaves : goal.returns-clause-leaves
returns-clause-leaves g c =
    with_headline (g.S.Store.shelf c.args.store.now) (asked_of c.args.words.now) (c.status_of_run.new.steps - c.args.steps.now) c.status_of_run.new.solved.items (g.K.Sink.written c.args.out.now) (g.K.Sink.written c.status_of_run.new.out) c.args.steps.now
    c.status_of_run.new.steps c.status_of_run.result c.status_of_run.ensures.leaves
