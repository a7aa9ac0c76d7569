use Rattle.std.proofs.Common.{length, ◌-◌, ◌≡◌, ◌≤◌, true, false}
use Rattle.std.specs.Prelude.{slice_range}
use Rattle.json_text.specs.Lending.{IsUnmarked, HasEscape}
use Rattle.json_text.specs.Lexing.{LexRuns, lex_end}
use Rattle.json_text.specs.declared.lex.Lex.TheVariants.{Between}
use Rattle.json_text.proofs.strings.string_rest.Given as goal

abbrev pub invariant-chars : goal.invariant-chars
invariant-chars l = record {
  behind : l.start ≤ l.i;
  within : l.i ≤ length l.bytes;
  runs : LexRuns Between (slice_range l.bytes l.start l.i);
  whole : lex_end Between (slice_range l.bytes l.start l.i) ≡ Between;
  shown : l.plain ≡ true → IsUnmarked (slice_range l.bytes l.start l.i);
  marked : l.plain ≡ false → HasEscape l.bytes l.start l.i;
}

abbrev pub decreases-chars : goal.decreases-chars
decreases-chars l = length l.bytes - l.i
