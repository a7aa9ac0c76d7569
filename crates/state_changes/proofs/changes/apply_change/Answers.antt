use Rattle.std.proofs.Common.{◌≡◌, ◌∙◌, Ok, Err, ap, sym}
use Rattle.data_edit.specs.Edits.{effect}
use Rattle.state_changes.specs.States.{state_of}
use Rattle.state_changes.specs.Effects.{effect_of}
use Rattle.state_changes.proofs.Changing.{asks-edit, refused-edit, refused-name}
use Rattle.state_changes.proofs.FaultLemmas.{of-edit}
use Rattle.planner_tables.proofs.ChangeLemmas.{passed}
use Rattle.state_changes.proofs.changes.apply_change.Goals as goal

pub unreachable-requires : goal.unreachable-requires
unreachable-requires c = asks-edit c.args.book.now.game c.args.change.now c.requires.held c.requires.of_book (c.in_ok-named.ensures ∙ ap Ok c.in_default.is)

pub returns-in_err-named-clause-fault : goal.returns-in_err-named-clause-fault
returns-in_err-named-clause-fault c = passed _ c.from_residual.result c.in_err-named.field-0.0 c.from_residual.ensures λ refusal milestones tables e. refused-name c.args.book.now milestones tables c.args.change.now refusal c.requires.held c.requires.of_book (c.in_err-named.ensures refusal e)

pub returns-in-Err-clause-fault : goal.returns-in-Err-clause-fault
returns-in-Err-clause-fault c = λ refusal milestones tables e.
    of-edit (effect c.in-Some.edit c.args.book.now) (λ r. effect_of (state_of c.args.book.now milestones tables) c.args.change.now ≡ Err r) c.in-Err.fault c.in-Err.ensures.effect
    (λ f h. refused-edit c.args.book.now milestones tables c.args.change.now c.in-Some.edit f c.requires.held c.requires.of_book (c.in_ok-named.ensures ∙ ap Ok c.in-Some.is) h) refusal (sym c.edit_fault.ensures ∙ e)
