use Rattle.std.proofs.Common.{◌≡◌, ◌++◌, ◌∷◌, IsUtf8, string_bytes}
use Rattle.std.specs.Str.Iter.{chars_rest}
use Rattle.std.specs.List.{flat_map}
use Rattle.plan_report.specs.Words.{in_quotes}
use Rattle.plan_report.proofs.words.quoted.Given as goal

abbrev pub invariant-loop-letter : goal.invariant-loop-letter
invariant-loop-letter l = record {
  in_utf8 : IsUtf8 (chars_rest l.letter-iterator);
  so_far : string_bytes l.text ++ flat_map in_quotes (chars_rest l.letter-iterator) ≡ 34 ∷ flat_map in_quotes l.fn.word;
}
