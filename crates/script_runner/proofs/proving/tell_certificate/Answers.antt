use Rattle.std.proofs.Common.{◌≡◌, codes}
use Rattle.script_runner.proofs.ProvingLemmas.{front_behind, front_more}
use Rattle.script_runner.proofs.proving.tell_certificate.Goals as goal

pub returns-in-Err-clause-err : goal.returns-in-Err-clause-err
returns-in-Err-clause-err g c =
    let text : c.as_bytes.result.now ≡ c.args.text.now = cc (c.as_bytes.ensures.value, c.as_str.ensures) in
    let front = rw text at c.in-Err.ensures.err in
    front_more (g.K.Sink.written c.args.out.now) (g.K.Sink.written c.write_all.new.out) c.args.text.now (codes "\n") front

pub returns-in-Ok-clause-err : goal.returns-in-Ok-clause-err
returns-in-Ok-clause-err g c =
    let text : c.as_bytes.result.now ≡ c.args.text.now = cc (c.as_bytes.ensures.value, c.as_str.ensures) in
    let first = rw text at c.in-Ok.ensures.ok in
    front_behind c.write_all-in-Ok.result (g.K.Sink.written c.args.out.now) (g.K.Sink.written c.write_all.new.out) (g.K.Sink.written c.write_all-in-Ok.new.out) c.args.text.now (codes "\n") first c.write_all-in-Ok.ensures.err
