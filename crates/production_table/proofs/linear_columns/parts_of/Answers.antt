use Rattle.std.proofs.Common.{◌∙◌, ◌++◌, ◌+◌, List, drop, sym, ap}
use Rattle.std.specs.Prelude.{ℕ}
use Rattle.fractions.specs.Fraction.{Fraction}
use Rattle.game_types.proofs.Walks.{next}
use Rattle.production_table.specs.Linear.{parts_at}
use Rattle.production_table.proofs.Forms.{parts_end, parts_on}
use Rattle.production_table.proofs.linear_columns.parts_of.Goals as goal

pub loop-pair-preserved : goal.loop-pair-preserved
loop-pair-preserved c =
    c.loop-pair.invariant
    ∙ parts_on c.args.goods.now c.loop-pair.parts.items c.args.column.now c.loop-pair.pair-index c.pair-item.result (next c.args.column.now c.loop-pair.pair-index c.pair-item.result c.loop-pair-test.true c.pair-item.is)
    ∙ ap (λ (parts : List (ℕ × Fraction)). parts ++ parts_at c.args.goods.now (drop (c.loop-pair.pair-index + 1) c.args.column.now)) (sym c.in_ok-add_part.ensures)

pub returns : goal.returns
returns c = c.from_vec.ensures ∙ sym (c.loop-pair.invariant ∙ parts_end c.args.goods.now c.loop-pair.parts.items c.args.column.now c.loop-pair.pair-index c.loop-pair-test.false)
