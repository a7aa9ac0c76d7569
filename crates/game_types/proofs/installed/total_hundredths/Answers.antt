use Rattle.std.specs.Prelude.{◌≡◌, pos, ◌+ℤ◌, ◌*ℤ◌}
use Rattle.std.proofs.Common.{◌∙◌, ap, arith, get_or, to_z, of_z, w64}
use Rattle.std.proofs.lemmas.Int.{to_z-of_z, ints}
use Rattle.game_types.specs.declared.goods.Module.{Module}
use Rattle.game_types.specs.Modules.{of_kind, hundredths_of}
use Rattle.game_types.proofs.ModuleLemmas.{total_step, room_step, count_next, hundredths_all}
use Rattle.game_types.proofs.installed.total_hundredths.Goals as goal

pub with_modules-sum-requires-clause-room : goal.with_modules-sum-requires-clause-room
with_modules-sum-requires-clause-room c = omega (arith, count_next c.args.modules.now c.loop-good.good-index (record { 0 = 0 }, 0) c.loop-good-test.true)

pub loop-good-preserved : goal.loop-good-preserved
loop-good-preserved c =
    let r : to_z w64 (of_z w64 c.with_modules-sum.result) ≡ c.with_modules-sum.result = to_z-of_z w64 c.with_modules-sum.result (record { sfits = c.with_modules-sum.type_inv }) in
    let k : to_z w64 (of_z w64 c.of_kind.result) ≡ c.of_kind.result = to_z-of_z w64 c.of_kind.result (record { sfits = c.of_kind.type_inv }) in
    let m = get_or c.args.modules.now c.loop-good.good-index (record { 0 = 0 }, 0) in
    let e : to_z w64 (of_z w64 c.with_modules-sum.result) ≡ to_z w64 c.loop-good.sum-bits +ℤ (c.of_kind.result *ℤ pos m.1)
    = r ∙ c.with_modules-sum.ensures ∙ ap (λ z. to_z w64 c.loop-good.sum-bits +ℤ (z *ℤ pos m.1)) k in
    record {
      sum = total_step c.args.game.now c.args.kind c.args.modules.now c.loop-good.good-index (record { 0 = 0 }, 0)
          (to_z w64 c.loop-good.sum-bits) (to_z w64 (of_z w64 c.with_modules-sum.result)) c.of_kind.result (hundredths_of c.args.game.now c.args.kind c.args.modules.now)
          c.loop-good-test.true e (c.of_kind.ensures.value ∙ ap (λ (x : Module). of_kind c.args.kind x.bonus) c.module.ensures.value) c.loop-good.invariant.sum;
      room = room_step c.args.modules.now c.loop-good.good-index (record { 0 = 0 }, 0) (to_z w64 c.loop-good.sum-bits) (to_z w64 (of_z w64 c.with_modules-sum.result)) c.of_kind.result 6_553_500_000_000
          c.loop-good-test.true e c.of_kind.ensures.small c.loop-good.invariant.room;
    }

pub returns : goal.returns
returns c =
    let e = hundredths_all c.args.game.now c.args.kind c.args.modules.now c.loop-good.good-index c.loop-good-test.false in
    omega (arith, ints, e)
