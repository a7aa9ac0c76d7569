use Rattle.std.proofs.Common.{arith, ◌<◌, length}
use Rattle.std.specs.Prelude.{pos}
use Rattle.std.proofs.lemmas.List.{get_or_read}
use Rattle.linear_table.specs.Plans.{number_at}
use Rattle.number_rows.specs.Tops.{top_at}
use Rattle.number_rows.proofs.Kept.{short_at, length_shown}
use Rattle.number_rows.proofs.Signs.{zero_at}
use Rattle.number_rows.proofs.long.Long.is_zero.Goals as goal

pub returns-then-self : goal.returns-then-self
returns-then-self c =
    let r = c.self.inside in
    let inside : c.args.k < length r.tops.items = omega (arith, c.requires, length_shown r.whole r.bottom r.tops.items r.numbers.items c.args.self.now c.self.view_is (λ e. c.self.invariant.same_length)) in
    zero_at (number_at c.args.self.now.items c.args.k) (top_at r.tops.items c.args.k) c.index.result.now r.bottom c.self.invariant.positive
    (get_or_read r.tops.items c.args.k c.index.result.now inside c.index.ensures (pos 0))
    (omega (arith, c.self.invariant.within c.args.k inside, c.self.invariant.bound_small))
    (short_at r.whole r.bottom r.tops.items r.numbers.items c.args.self.now c.args.k c.self.view_is c.if-self.true inside)
