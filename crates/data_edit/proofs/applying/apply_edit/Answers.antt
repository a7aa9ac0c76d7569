use Rattle.std.proofs.Common.{sym, subst}
use Rattle.plan_base.specs.Outcomes.{Gives}
use Rattle.data_edit.specs.Books.{IsSoundBook}
use Rattle.data_edit.specs.Edits.{replacement}
use Rattle.data_edit.proofs.Soundness.{edit_sound}
use Rattle.data_edit.proofs.applying.apply_edit.Goals as goal

pub returns-clause-sound : goal.returns-clause-sound
returns-clause-sound c =
    let meant = subst (Gives (replacement c.args.edit.now c.args.book.now)) c.in_ok-part.was c.replacement.ensures in
    subst IsSoundBook (sym c.exchange.ensures.after) (edit_sound c.args.edit.now c.args.book.now c.in_ok-part.part c.requires meant)
