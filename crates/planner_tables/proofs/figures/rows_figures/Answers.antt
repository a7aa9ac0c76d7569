use Rattle.std.proofs.Common.{Ok, arith, map}
use Rattle.planner_tables.specs.Figures.{rows_figures}
use Rattle.planner_tables.proofs.FigureLemmas.{figures_done, figures_end, figures_more, figures_over}
use Rattle.planner_tables.proofs.figures.rows_figures.Goals as goal

pub returns-in_default : goal.returns-in_default
returns-in_default c =
    figures_done c.args.rows.now c.args.rates.now c.loop-i.i c.loop-i.figures.items (rows_figures (map Ok c.args.rows.now) c.args.rates.now) c.from_vec.result c.from_vec.ensures
    (figures_end c.args.rows.now c.args.rates.now c.loop-i.i c.in_default.ensures.lookup.3) c.loop-i.invariant

pub loop-i-preserved : goal.loop-i-preserved
loop-i-preserved c =
    figures_more c.args.rows.now c.args.rates.now c.loop-i.i c.index-rows-i.result c.in-Some.rate.now c.loop-i.figures.items c.push.new.self.items (rows_figures (map Ok c.args.rows.now) c.args.rates.now) c.figures_at.result
    (omega arith) c.in-Some.ensures.lookup.3.0 c.index-rows-i.is c.in-Some.ensures.lookup.1 c.figures_at.ensures c.in_ok-push.ensures.items c.loop-i.invariant

pub returns : goal.returns
returns c =
    figures_done c.args.rows.now c.args.rates.now c.loop-i.i c.loop-i.figures.items (rows_figures (map Ok c.args.rows.now) c.args.rates.now) c.from_vec-2.result c.from_vec-2.ensures
    (figures_over c.args.rows.now c.args.rates.now c.loop-i.i c.loop-i-test.false) c.loop-i.invariant
