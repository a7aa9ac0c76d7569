use Rattle.std.proofs.Common.{ap, ◌∙◌, arith, ◌≡◌, ◌-◌}
use Rattle.fractions.specs.Fraction.{negated}
use Rattle.linear_table.specs.Plans.{number_at, column_count}
use Rattle.pivot_solver.proofs.Settling.{plan_of, rates_at, prices_at}
use Rattle.pivot_solver.proofs.Paths.{path_values}
use Rattle.pivot_solver.proofs.answers.plan.Goals as goal

pub returns : goal.returns
returns c =
    let p = c.args.path.now in
    let path = c.requires.is_path in
    let columns : c.args.width - c.args.goods ≡ column_count c.args.linear.now = omega arith in
    let last : c.number.result ≡ number_at p.cost.items c.args.width = c.number.ensures in
    plan_of c.args.linear.now p.basis.items p.rows.items p.cost.items c.requires.well_formed path.tableau (path_values c.args.linear.now p c.requires.well_formed path) c.requires.shows c.from_vec.result c.from_vec-2.result c.neg.result
    (rates_at c.deref.ensures.value c.deref-2.ensures.value c.requires.width_is c.requires.goods_is columns c.from_vec.ensures c.in_ok-rates.ensures)
    (prices_at negated (λ i. p.cost.items) c.requires.goods_is c.from_vec-2.ensures c.in_ok-prices.ensures)
    (c.neg.ensures ∙ (ap negated last ∙ ap (λ k. negated (number_at p.cost.items k)) c.requires.width_is))
