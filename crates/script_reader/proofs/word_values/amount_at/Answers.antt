use Rattle.std.specs.Prelude.{codes, ◌≢◌}
use Rattle.std.proofs.Common.{rules}
use Rattle.script_reader.proofs.Ratios.{ratio_other}
use Rattle.script_reader.proofs.Readings.{answers_of_fault}
use Rattle.script_reader.proofs.word_values.amount_at.Goals as goal

pub returns-in_err-value : goal.returns-in_err-value
returns-in_err-value c = answers_of_fault _ c.in_err-value.field-0.0 _ c.from_residual.ensures (let other : c.args.word.now ≢ codes "drop" = search rules in ratio_other (codes "drop") c.args.word.now c.in_err-value.field-0.0 other c.in_err-value.ensures)
