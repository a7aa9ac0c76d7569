use Rattle.std.proofs.Common.{◌≡◌, arith, length, pos}
use Rattle.number_rows.specs.Tops.{top_at}
use Rattle.number_rows.proofs.Filled.{written_back}
use Rattle.number_rows.proofs.Places.{but_map, fails_map}
use Rattle.number_rows.proofs.row.listed_places.Goals as goal

pub returns-clause-filled : goal.returns-clause-filled
returns-clause-filled c =
    let written : c.in_ok-places.places.len ≡ length c.write_places-count.new.places = omega (arith, c.write_places-count.ensures.length_is, c.in_ok-places.ensures.len, c.in_ok-places.places.ok, c.deref_mut.ensures.len) in
    rw (c.truncate.ensures.items, c.deref_mut.ensures.writes_back, written_back _ c.write_places-count.new.places _ written)
    (but_map _ (λ k. top_at c.args.tops.now k ≡ pos 0) 0 _ (length c.args.tops.now) (λ k q both. both.0) c.write_places-count.ensures.places)

pub returns-clause-only : goal.returns-clause-only
returns-clause-only c =
    let written : c.in_ok-places.places.len ≡ length c.write_places-count.new.places = omega (arith, c.write_places-count.ensures.length_is, c.in_ok-places.ensures.len, c.in_ok-places.places.ok, c.deref_mut.ensures.len) in
    rw (c.truncate.ensures.items, c.deref_mut.ensures.writes_back, written_back _ c.write_places-count.new.places _ written)
    (fails_map _ (λ k. top_at c.args.tops.now k ≡ pos 0) _ (λ k none. (none, none)) c.write_places-count.ensures.only)
