use Rattle.std.proofs.Common.{◌∙◌, sym, arith}
use Rattle.pivot_solver.proofs.Leaving.{ratio_of_row, beats_at_tie}
use Rattle.pivot_solver.proofs.ratio_test.better.Goals as goal

pub returns-then-basis-i-clause-beats_j : goal.returns-then-basis-i-clause-beats_j
returns-then-basis-i-clause-beats_j c =
    beats_at_tie c.args.basis.now c.args.rows.now c.args.enter c.args.value c.args.i c.args.j
    (sym (ratio_of_row c.args.rows.now c.args.i c.args.enter c.args.value c.index-rows-i.result c.requires.i_inside c.index-rows-i.is) ∙ (c.in-Equal.ensures ∙ ratio_of_row c.args.rows.now c.args.j c.args.enter c.args.value c.index-rows-j.result c.requires.j_inside c.index-rows-j.is))
    (omega (arith, c.if-basis-i.true))

pub returns-else-basis-i-clause-beats_i : goal.returns-else-basis-i-clause-beats_i
returns-else-basis-i-clause-beats_i c =
    beats_at_tie c.args.basis.now c.args.rows.now c.args.enter c.args.value c.args.j c.args.i
    (sym (sym (ratio_of_row c.args.rows.now c.args.i c.args.enter c.args.value c.index-rows-i.result c.requires.i_inside c.index-rows-i.is) ∙ (c.in-Equal.ensures ∙ ratio_of_row c.args.rows.now c.args.j c.args.enter c.args.value c.index-rows-j.result c.requires.j_inside c.index-rows-j.is)))
    (omega (arith, c.if-basis-i.false))
