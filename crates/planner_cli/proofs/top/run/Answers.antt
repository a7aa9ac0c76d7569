use Rattle.std.proofs.Common.{◌-◌}
use Rattle.run_inputs.specs.Words.{asked_of}
use Rattle.planner_cli.proofs.PlayerLemmas.{tells_player}
use Rattle.planner_cli.proofs.top.run.Goals as goal

pub returns-clause-headline : goal.returns-clause-headline
returns-clause-headline g c =
    tells_player (g.S.Store.shelf c.args.store.now) (asked_of c.args.words.now) (c.run_words-status.new.steps - c.args.steps.now) c.run_words-status.new.solved.items (g.K.Sink.written c.args.out.now) (g.K.Sink.written c.run_words-status.new.out)
    c.args.steps.now c.run_words-status.new.steps c.run_words-status.result c.run_words-status.ensures.leaves
