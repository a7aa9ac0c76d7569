use Rattle.std.proofs.Common.{length, ◌-◌}
use Rattle.json_text.proofs.Emits.{Unescaping}
use Rattle.json_text.proofs.text.unescaped_bytes.Given as goal

abbrev pub invariant-bytes : goal.invariant-bytes
invariant-bytes l = record { so_far : Unescaping l.bytes l.i l.text.items l.lex }

abbrev pub decreases-bytes : goal.decreases-bytes
decreases-bytes l = length l.bytes - l.i
