use Rattle.std.proofs.Common.{arith, refl}
use Rattle.plan_io.proofs.WritingLemmas.{appends_none}
use Rattle.run_inputs.proofs.ToldLemmas.{tells_itself}
use Rattle.run_inputs.proofs.telling.tell.Goals as goal

pub returns-in_default : goal.returns-in_default
returns-in_default g c = record {
  tells = tells_itself c.args.early (g.K.Sink.written c.args.out.now) c.requires c.in_default.not-BadWords c.in_default.not-BadDump c.in_default.not-TooLong c.in_default.not-BadCert (appends_none _);
  sink = record { limit = refl; later = omega arith; failed = λ e. absurd (c.requires e) };
}
