use Rattle.std.proofs.Common.{ℕ, suc, ◌+◌, ◌<◌, length, sym, subst, refl, take, add-one, arith}
use Rattle.std.proofs.lemmas.Option.{slice_get_read}
use Rattle.table_rows.specs.Places.{AllBelow}
use Rattle.table_rows.proofs.Parts.{below_next}
use Rattle.table_rows.proofs.columns.place_in.Goals as goal

pub loop-place-preserved : goal.loop-place-preserved
loop-place-preserved c =
    let column = c.args.column.now in
    let place = c.loop-place.place in
    subst (λ (n : ℕ). AllBelow c.args.good (take n column)) (sym (add-one place))
    (below_next c.args.good column place c.index-column-place.result c.loop-place.invariant (slice_get_read column (length column) place c.index-column-place.result refl c.loop-place-test.true c.index-column-place.is) c.if-good-part.false)
