use Rattle.std.proofs.Common.{◌≡◌, ℕ, List, ◌++◌, map}
use Rattle.std.specs.List.{zip}
use Rattle.plan_report.specs.Plans.{price_lines, row_line, stream_lines, total_line}
use Rattle.plan_report.proofs.PlanTexts.{plan_further}
use Rattle.plan_report.proofs.solved.plan_further.Goals as goal

joined : (out rows streams prices total rows_is streams_is prices_is total_is further : List ℕ) → out ≡ rows ++ (streams ++ (prices ++ total))
    → rows ≡ rows_is → streams ≡ streams_is → prices ≡ prices_is → total ≡ total_is → further ≡ rows_is ++ (streams_is ++ (prices_is ++ total_is)) → out ≡ further
joined out rows streams prices total rows_is streams_is prices_is total_is further written is-rows is-streams is-prices is-total lines = cc

pub returns : goal.returns
returns c =
    let lines = plan_further (map row_line (zip c.args.labels.now (zip c.args.rates.now c.args.rows.now))) (price_lines c.args.game.now c.args.goods.now c.args.prices.now) (stream_lines c.args.game.now) (zip c.args.columns.now c.args.rates.now) (total_line c.args.total.now) in
    joined _ _ _ _ _ _ _ _ _ _ c.in_ok-format.ensures.ok c.in_ok-rows.ensures c.in_ok-streams.ensures c.in_ok-prices.ensures c.in_ok-total.ensures lines
