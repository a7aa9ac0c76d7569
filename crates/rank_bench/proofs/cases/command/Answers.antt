use Rattle.rank_bench.proofs.cases.command.Goals as goal

pub returns-in-drop-clause-worlds : goal.returns-in-drop-clause-worlds
returns-in-drop-clause-worlds g c = c.take_out-place.ensures.worlds c.args.graph.now c.args.barred.now c.args.granted.now c.requires.worlds
