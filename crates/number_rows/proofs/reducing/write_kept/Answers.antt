use Rattle.std.proofs.Common.{◌∙◌, sym, ap}
use Rattle.number_rows.specs.Row.{kept}
use Rattle.number_rows.proofs.Kept.{shown_over}
use Rattle.number_rows.proofs.reducing.write_kept.Goals as goal

pub returns-in_ok-make_room-clause-written : goal.returns-in_ok-make_room-clause-written
returns-in_ok-make_room-clause-written c =
    sym (ap (λ s. kept s c.args.bottom c.args.tops.now c.args.numbers.now.items) c.if-short.true ∙ shown_over c.args.bottom c.args.tops.now c.write.new.self.items c.write.ensures)
