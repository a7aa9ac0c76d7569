use Rattle.std.proofs.Common.{arith, length-drop}
use Rattle.plan_io.proofs.WritingLemmas.{appends_piece, front_kept, on_err_always}
use Rattle.plan_io.proofs.output.write_all.Goals as goal

pub returns-in_err-done-clause-err : goal.returns-in_err-done-clause-err
returns-in_err-done-clause-err g c =
    on_err_always c.from_residual.result (front_kept _ _ _ c.args.bytes.now c.loop-done.done c.loop-done.invariant.written c.in_err-done.ensures.bytes)

pub loop-done-preserved : goal.loop-done-preserved
loop-done-preserved g c = record {
  within = omega (arith, c.in_ok-done.ensures.bound, length-drop c.loop-done.done c.args.bytes.now);
  written = appends_piece _ _ _ c.args.bytes.now c.loop-done.done c.in_ok-done.field-0 c.loop-done.invariant.written c.in_ok-done.ensures.bytes;
  limit = cc (c.in_ok-done.ensures.limit, c.loop-done.invariant.limit);
  kept = cc (c.in_ok-done.ensures.cause.kept, c.loop-done.invariant.kept);
}
