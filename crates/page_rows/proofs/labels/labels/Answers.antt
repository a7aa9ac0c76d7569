use Rattle.std.proofs.Common.{◌++◌, ◌∙◌, List, ℕ, ap, sym, string_bytes, encode_utf8}
use Rattle.std.specs.List.{flat_map}
use Rattle.std.specs.Str.Iter.{chars_rest}
use Rattle.std.proofs.lemmas.Str.{IsUtf8-past_char}
use Rattle.page_rows.specs.Labels.{labelled}
use Rattle.page_rows.proofs.LabelLemmas.{letter_more}
use Rattle.page_rows.proofs.labels.labels.Goals as goal

pub loop-letter-preserved : goal.loop-letter-preserved
loop-letter-preserved c =
    let held = c.loop-letter.invariant in
    let parts = c.in-Some.ensures.steps.0 in
    record {
      in_utf8 = IsUtf8-past_char _ _ c.in-Some.letter held.in_utf8 parts;
      so_far = ap (λ (text : List ℕ). text ++ flat_map labelled (chars_rest c.next.new.self)) c.in_ok-push_labelled.ensures ∙ sym (letter_more (string_bytes c.loop-letter.text) (encode_utf8 c.in-Some.letter) (chars_rest c.next.new.self) (chars_rest c.loop-letter.letter-iterator) parts) ∙ held.so_far;
    }
