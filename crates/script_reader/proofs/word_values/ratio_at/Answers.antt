use Rattle.std.specs.Prelude.{Ok}
use Rattle.std.proofs.Common.{refl, subst, ◌∙◌}
use Rattle.fractions.specs.Fraction.{Fraction}
use Rattle.fractions.specs.Reading.{ReadsRatio}
use Rattle.script_reader.specs.Reading.{Answers, the_one}
use Rattle.script_reader.proofs.Ratios.{no_ratio}
use Rattle.script_reader.proofs.word_values.ratio_at.Goals as goal

pub returns-in-Err : goal.returns-in-Err
unfolding Answers the_one
returns-in-Err c = (refl, subst (λ w. (x : Fraction) → ¬ (ReadsRatio w (Ok x))) (c.as_bytes.ensures.value ∙ c.as_str.ensures) (no_ratio c.as_bytes.result.now c.in-Err.field-0 c.in-Err.ensures.numeral c.in-Err.ensures.quotient))
