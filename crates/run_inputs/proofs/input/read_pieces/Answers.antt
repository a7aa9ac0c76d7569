use Rattle.std.proofs.Common.{◌<◌, length, arith}
use Rattle.run_inputs.proofs.ReadingLemmas.{longer}
use Rattle.run_inputs.proofs.input.read_pieces.Goals as goal

pub returns-clause-reading : goal.returns-clause-reading
returns-clause-reading g c =
    let bytes = c.loop-bytes.bytes in
    let more : c.args.limit < length bytes.items = omega (arith, bytes.ok.0) in
    longer c.args.limit (g.S.Store.left c.args.store.now c.args.slot) (g.S.Store.left c.loop-bytes.store c.args.slot) bytes.items c.loop-bytes.invariant.taken more
