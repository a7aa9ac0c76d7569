use Rattle.std.proofs.Common.{◌∙◌, sym, ap}
use Rattle.fractions.specs.Digits.{front_digits, behind_digits}
use Rattle.script_reader.proofs.Whole.{whole_iff, not_whole}
use Rattle.script_reader.proofs.fields.is_whole.Goals as goal

pub returns-then-is_empty : goal.returns-then-is_empty
returns-then-is_empty c =
    let s = c.split_digits in
    whole_iff c.args.word.now _ _ c.is_whole_part.result (s.ensures.front ∙ ap front_digits c.as_bytes.ensures.value) (s.ensures.behind ∙ ap behind_digits c.as_bytes.ensures.value) (sym c.is_empty.ensures ∙ c.if-is_empty.true) c.is_whole_part.ensures

pub returns-else-is_empty : goal.returns-else-is_empty
returns-else-is_empty c = (λ t. cc, λ w. absurd (not_whole c.args.word.now _ (c.split_digits.ensures.behind ∙ ap behind_digits c.as_bytes.ensures.value) (sym c.is_empty.ensures ∙ c.if-is_empty.false) w))
