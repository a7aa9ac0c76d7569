use Rattle.std.proofs.Common.{◌≡◌, ◌++◌, ◌∷◌, IsUtf8, string_bytes}
use Rattle.std.specs.Str.Iter.{chars_rest}
use Rattle.std.specs.List.{flat_map}
use Rattle.page_rows.specs.Labels.{labelled}
use Rattle.page_rows.proofs.labels.labels.Given as goal

abbrev pub invariant-loop-letter : goal.invariant-loop-letter
invariant-loop-letter l = record {
  in_utf8 : IsUtf8 (chars_rest l.letter-iterator);
  so_far : string_bytes l.text ++ flat_map labelled (chars_rest l.letter-iterator) ≡ flat_map labelled l.fn.plain;
}
