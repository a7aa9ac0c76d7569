use Rattle.std.proofs.Common.{◌∙◌, sym, ap}
use Rattle.number_rows.specs.Row.{kept}
use Rattle.number_rows.proofs.Kept.{shown_over}
use Rattle.number_rows.proofs.wide.write_whole.Goals as goal

pub returns-then-whole : goal.returns-then-whole
returns-then-whole c =
    sym (ap (λ s. kept s c.args.bottom c.args.tops.now c.args.numbers.now) c.if-whole.true ∙ shown_over c.args.bottom c.args.tops.now c.write_wide.new.numbers c.write_wide.ensures)
