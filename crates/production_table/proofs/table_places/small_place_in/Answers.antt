use Rattle.std.proofs.Common.{◌≡◌, ◌<◌, ◌≤◌, ℕ, length, sym, arith, inl, inr}
use Rattle.std.specs.Prelude.{◌⊎◌}
use Rattle.production_table.specs.Linear.{place_in}
use Rattle.production_table.proofs.Goods.{place_within}
use Rattle.production_table.proofs.table_places.small_place_in.Goals as goal

out : (place n : ℕ) → (place < n) ⊎ (place ≡ 0) → n ≤ 512 → 512 ≤ place → 0 ≡ place
out place n (inl h) few far = absurd (omega arith)
out place n (inr h) few far = sym h

pub returns-else-place-lt-LIMIT : goal.returns-else-place-lt-LIMIT
returns-else-place-lt-LIMIT c =
    let far : 512 ≤ place_in c.args.goods.now c.args.good.0 = let e = c.place_in-place.ensures in let f = c.if-place-lt-LIMIT.false in omega arith in
    out (place_in c.args.goods.now c.args.good.0) (length c.args.goods.now) (place_within c.args.goods.now c.args.good.0) c.requires.few far
