use Rattle.std.proofs.Common.{length, ◌-◌, ◌≡◌, ◌≤◌, true, get_or}
use Rattle.std.specs.Prelude.{slice_range, ◌⊎◌}
use Rattle.json_text.specs.Lending.{IsUnmarked}
use Rattle.json_text.specs.Lexing.{LexRuns, lex_end}
use Rattle.json_text.specs.declared.lex.Lex.TheVariants.{Between}
use Rattle.json_text.proofs.Lexed.{is_shown}
use Rattle.json_text.proofs.strings.char_end.Given as goal

abbrev pub invariant-bytes : goal.invariant-bytes
invariant-bytes l = record {
  behind : l.at ≤ l.i;
  within : l.i ≤ length l.bytes;
  runs : LexRuns Between (slice_range l.bytes l.at l.i);
  end : lex_end Between (slice_range l.bytes l.at l.i) ≡ l.lex;
  first : (l.i ≡ l.at) ⊎ (l.lex ≡ Between → ⊥);
  unmarked : (get_or l.bytes l.at 0 ≡ 92 → ⊥) → (is_shown l.lex ≡ true) × IsUnmarked (slice_range l.bytes l.at l.i);
}

abbrev pub decreases-bytes : goal.decreases-bytes
decreases-bytes l = length l.bytes - l.i
