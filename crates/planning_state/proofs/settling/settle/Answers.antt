use Rattle.std.proofs.Common.{◌≡◌, List, arith, length, subst, sym}
use Rattle.std.specs.Prelude.{IfSome}
use Rattle.std.proofs.lemmas.Bool.Decides.{nat_tests}
use Rattle.graph_store.specs.declared.Row.{Row}
use Rattle.planning_state.specs.Remembered.{AreRight, Remembers}
use Rattle.planning_state.proofs.SettleLemmas.{rows-same}
use Rattle.planning_state.proofs.settling.settle.Goals as goal

pub settle_marks-requires-clause-rows : goal.settle_marks-requires-clause-rows
settle_marks-requires-clause-rows g c =
    let none : length c.args.others.now ≡ 0 = grind (arith, nat_tests, c.is_empty.ensures, c.if-is_empty.true) in
    rows-same c.args.book.now c.args.others.now (g.R.Rows.rows c.args.graph.now) none c.requires.as_long c.requires.rows

pub settle_marks-requires-clause-marks : goal.settle_marks-requires-clause-marks
settle_marks-requires-clause-marks g c =
    let none : length c.args.others.now ≡ 0 = grind (arith, nat_tests, c.is_empty.ensures, c.if-is_empty.true) in
    subst (λ (rows : List Row). IfSome c.args.remembered.now.marks (λ m. AreRight rows m c.args.worlds.now))
    (rows-same c.args.book.now c.args.others.now (g.R.Rows.rows c.args.graph.now) none c.requires.as_long c.requires.rows) c.requires.marks

pub settle_marks-requires-clause-before : goal.settle_marks-requires-clause-before
settle_marks-requires-clause-before g c =
    let none : length c.args.others.now ≡ 0 = grind (arith, nat_tests, c.is_empty.ensures, c.if-is_empty.true) in
    subst (λ (rows : List Row). IfSome c.args.remembered.now.before (λ b. AreRight rows b.marks b.worlds))
    (rows-same c.args.book.now c.args.others.now (g.R.Rows.rows c.args.graph.now) none c.requires.as_long c.requires.rows) c.requires.before

pub returns-then-is_empty-clause-rows : goal.returns-then-is_empty-clause-rows
returns-then-is_empty-clause-rows g c =
    let none : length c.args.others.now ≡ 0 = grind (arith, nat_tests, c.is_empty.ensures, c.if-is_empty.true) in
    rows-same c.args.book.now c.args.others.now (g.R.Rows.rows c.args.graph.now) none c.requires.as_long c.requires.rows

pub returns-then-is_empty-clause-remembers : goal.returns-then-is_empty-clause-remembers
returns-then-is_empty-clause-remembers g c =
    let none : length c.args.others.now ≡ 0 = grind (arith, nat_tests, c.is_empty.ensures, c.if-is_empty.true) in
    subst (λ (rows : List Row). Remembers c.args.book.now rows c.settle_marks.new.remembered)
    (sym (rows-same c.args.book.now c.args.others.now (g.R.Rows.rows c.args.graph.now) none c.requires.as_long c.requires.rows)) c.settle_marks.ensures.remembers
