use Rattle.std.proofs.Common.{◌≡◌, ◌∙◌, List, refl, sym, ap, subst}
use Rattle.game_types.proofs.Walks.{next, returned}
use Rattle.table_rows.specs.Columns.{given, pack_taken, taken}
use Rattle.table_rows.proofs.Sums.{handed_on, walk_end, walk_on, walk_stop}
use Rattle.table_rows.proofs.given_taken.take_packs.Goals as goal

pub returns-in_err-take_pack : goal.returns-in_err-take_pack
returns-in_err-take_pack c =
    handed_on _ c.from_residual.result c.in_err-take_pack.field-0.0 c.take_pack.new.column.items (returned c.from_residual.result c.in_err-take_pack.field-0.0 c.from_residual.ensures)
    (λ wide is.
    c.loop-pack.invariant
    ∙ walk_stop pack_taken c.loop-pack.column.items c.args.packs.now c.loop-pack.pack-index c.pack-item.result wide
    (next c.args.packs.now c.loop-pack.pack-index c.pack-item.result c.loop-pack-test.true c.pack-item.is) (c.in_err-take_pack.ensures wide is))

pub loop-pack-preserved : goal.loop-pack-preserved
loop-pack-preserved c =
    c.loop-pack.invariant
    ∙ walk_on pack_taken c.loop-pack.column.items c.take_pack.new.column.items c.args.packs.now c.loop-pack.pack-index c.pack-item.result
    (next c.args.packs.now c.loop-pack.pack-index c.pack-item.result c.loop-pack-test.true c.pack-item.is) c.in_ok-take_pack.ensures

pub returns : goal.returns
returns c = c.loop-pack.invariant ∙ walk_end pack_taken c.loop-pack.column.items c.args.packs.now c.loop-pack.pack-index c.loop-pack-test.false
