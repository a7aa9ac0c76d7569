-- A refused line leaves all as it was.
use Rattle.std.proofs.Common.{◌≡◌, ◌∙◌, ℕ, [], ◌∷◌, List, ap, sym, refl, inl, inr, Result}
use Rattle.std.specs.Prelude.{◌⊎◌, Bool, true, false, Option, Some, None, Ok, Err, length, nat_lt}
use Rattle.edit_undo.specs.Edits.{apply_edits}
use Rattle.edit_undo.specs.Session.{Session, redo_of, undo_of}
use Rattle.edit_undo.specs.Kept.{session_of}
use Rattle.plan_lines.specs.declared.change.Change.{Change}
use Rattle.plan_lines.specs.declared.command.Command.{Command}
use Rattle.plan_lines.specs.declared.command.Command.TheVariants as command
use Rattle.plan_lines.specs.declared.reply.RefusalCode.{RefusalCode}
use Rattle.plan_lines.specs.declared.reply.RefusalCode.TheVariants as code
use Rattle.plan_lines.specs.declared.reply.Reply.{Reply}
use Rattle.plan_lines.specs.declared.reply.Reply.TheVariants as reply
use Rattle.state_changes.specs.declared.refusals.Refusal.{Refusal}
use Rattle.state_changes.specs.Actions.{can_be_held}
use Rattle.state_changes.specs.Effects.{effect_of}
use Rattle.state_changes.specs.States.{State}
use Rattle.planner_core.specs.Replies.{done_reply, held_reply}
use Rattle.planner_core.specs.Lines.{Ends, Held, Holds, HoldsChange, IsFree, IsOpen, IsStepIn, Moves, Planned, Tries, changes_of, closed, line_at, no_line, planned}
use Rattle.script_runner.specs.Answers.{Answered, IsAnswered, IsReply, Reading, is_refusal_reply}
use Rattle.planner_cli.specs.Facts.{LeavesAll}

-- ---- replies that are no refusals
nothing_no : (answer : Reply) → answer ≡ reply.Nothing → is_refusal_reply answer ≡ true → ⊥
nothing_no answer is refused = let no : is_refusal_reply answer ≡ false = ap is_refusal_reply is in cc

done_no : (quiet : Bool) (answer : Reply) → answer ≡ done_reply quiet → is_refusal_reply answer ≡ true → ⊥
done_no true answer is refused = nothing_no answer is refused
done_no false answer is refused = let no : is_refusal_reply answer ≡ false = ap is_refusal_reply is in cc

held_no : (quiet : Bool) (answer : Reply) → answer ≡ held_reply quiet → is_refusal_reply answer ≡ true → ⊥
held_no true answer is refused = nothing_no answer is refused
held_no false answer is refused = let no : is_refusal_reply answer ≡ false = ap is_refusal_reply is in cc

-- ---- a line where no batch is open
closed_free : (p : Planned) → p.batch ≡ None → closed p ≡ p
closed_free p none = λ i. planned p.state p.kept (sym none i) p.quiet

moves_leave : (entries : List (List Change)) (why : RefusalCode) (session : Session Change) (p r : Planned) (answer : Reply) → Moves entries why session p r answer → is_refusal_reply answer ≡ true → r ≡ p
moves_leave [] why session p r answer is refused = is.0
moves_leave (entry ∷ entries) why session p r answer is refused = absurd (done_no p.quiet answer is.3 refused)

tries_close : (o : Result State (ℕ × Refusal)) (line_of : ℕ → Option ℕ) (p : Planned) (edits : List Change) (r : Planned) (answer : Reply) → Tries o line_of p edits r answer → is_refusal_reply answer ≡ true → r ≡ closed p
tries_close (Ok state) line_of p edits r answer is refused = absurd (done_no p.quiet answer is.2 refused)
tries_close (Err fault) line_of p edits r answer is refused = is.0

free_leaves : (p : Planned) (asked : Command) (r : Planned) (answer : Reply) → p.batch ≡ None → IsFree p asked r answer → is_refusal_reply answer ≡ true → r ≡ p
free_leaves p (command.Reach object) r answer none is refused = is.0
free_leaves p (command.Why object) r answer none is refused = is.0
free_leaves p (command.Missing object) r answer none is refused = is.0
free_leaves p (command.Mask object) r answer none is refused = is.0
free_leaves p (command.List kind) r answer none is refused = is.0
free_leaves p command.Milestones r answer none is refused = is.0
free_leaves p command.Summary r answer none is refused = is.0
free_leaves p (command.Rate table label) r answer none is refused = is.0
free_leaves p (command.Solve table budget) r answer none is refused = is.0
free_leaves p (command.Quiet on) r answer none is refused = absurd (nothing_no answer is.1 refused)
free_leaves p command.Undo r answer none is refused = moves_leave (session_of p.kept).done code.H1 (undo_of (session_of p.kept)) p r answer is refused
free_leaves p command.Redo r answer none is refused = moves_leave (session_of p.kept).undone code.H2 (redo_of (session_of p.kept)) p r answer is refused
free_leaves p command.Batch r answer none is refused = absurd (done_no p.quiet answer is.1 refused)
free_leaves p command.End r answer none is refused = is.0
free_leaves p command.Cancel r answer none is refused = is.0
free_leaves p (command.Change change) r answer none is refused =
    tries_close (apply_edits effect_of p.state (change ∷ [])) no_line p (change ∷ []) r answer is refused ∙ closed_free p none

-- ---- a line where a batch is open
abbrev LeavesOpen : Planned → Command → Planned → Type 0
LeavesOpen p asked r = (r ≡ p) ⊎ ((asked ≡ command.End) × (r ≡ closed p))

ends_close : (p : Planned) (held : List Held) (r : Planned) (answer : Reply) → Ends p held r answer → is_refusal_reply answer ≡ true → r ≡ closed p
ends_close p [] r answer is refused = is.0
ends_close p (first ∷ rest) r answer is refused =
    tries_close (apply_edits effect_of p.state (changes_of (first ∷ rest))) (line_at (first ∷ rest)) p (changes_of (first ∷ rest)) r answer is refused

holds_leave : (line : ℕ) (p : Planned) (held : List Held) (change : Change) (b : Bool) (r : Planned) (answer : Reply) → Holds line p held change b r answer → is_refusal_reply answer ≡ true → r ≡ p
holds_leave line p held change true r answer is refused = absurd (held_no p.quiet answer is.1 refused)
holds_leave line p held change false r answer is refused = is.0

change_leaves : (line : ℕ) (p : Planned) (held : List Held) (change : Change) (b : Bool) (r : Planned) (answer : Reply) → HoldsChange line p held change b r answer → is_refusal_reply answer ≡ true → r ≡ p
change_leaves line p held change true r answer is refused = holds_leave line p held change (nat_lt (length held) 1024) r answer is refused
change_leaves line p held change false r answer is refused = is.0

open_leaves : (line : ℕ) (p : Planned) (held : List Held) (asked : Command) (r : Planned) (answer : Reply) → IsOpen line p held asked r answer → is_refusal_reply answer ≡ true → LeavesOpen p asked r
open_leaves line p held (command.Reach object) r answer is refused = inl is.0
open_leaves line p held (command.Why object) r answer is refused = inl is.0
open_leaves line p held (command.Missing object) r answer is refused = inl is.0
open_leaves line p held (command.Mask object) r answer is refused = inl is.0
open_leaves line p held (command.List kind) r answer is refused = inl is.0
open_leaves line p held command.Milestones r answer is refused = inl is.0
open_leaves line p held command.Summary r answer is refused = inl is.0
open_leaves line p held (command.Rate table label) r answer is refused = inl is.0
open_leaves line p held (command.Solve table budget) r answer is refused = inl is.0
open_leaves line p held command.Undo r answer is refused = inl is.0
open_leaves line p held command.Redo r answer is refused = inl is.0
open_leaves line p held command.Batch r answer is refused = inl is.0
open_leaves line p held (command.Quiet on) r answer is refused = absurd (nothing_no answer is.1 refused)
open_leaves line p held command.End r answer is refused = inr (refl, ends_close p held r answer is refused)
open_leaves line p held command.Cancel r answer is refused = absurd (done_no p.quiet answer is.1 refused)
open_leaves line p held (command.Change change) r answer is refused = inl (change_leaves line p held change (can_be_held change) r answer is refused)

-- ---- any line
step_leaves : (line : ℕ) (batch : Option (List Held)) (p : Planned) (asked : Command) (r : Planned) (answer : Reply) → p.batch ≡ batch → IsStepIn line batch p asked r answer → is_refusal_reply answer ≡ true → LeavesOpen p asked r
step_leaves line None p asked r answer none is refused = inl (free_leaves p asked r answer none is refused)
step_leaves line (Some held) p asked r answer some is refused = open_leaves line p held asked r answer is refused

abbrev reads : Command → Reading
reads asked = Ok (Some asked)

reply_leaves : (number : ℕ) (before : Planned) (reading : Reading) (after : Planned) (answer : Reply) → IsReply number before reading after answer → is_refusal_reply answer ≡ true
    → (after ≡ before) ⊎ ((reading ≡ Ok (Some command.End)) × (after ≡ closed before))
reply_leaves number before (Ok None) after answer is refused = inl is.0
reply_leaves number before (Ok (Some asked)) after answer is refused =
    elim (step_leaves number before.batch before asked after answer refl is.does refused) [ inl same ↦ inl same | inr ended ↦ inr (ap reads ended.0, ended.1) ]
reply_leaves number before (Err fault) after answer is refused = inl is.0

pub leaves_all : (a : Answered) → IsAnswered a → LeavesAll a
leaves_all a is = λ refused. reply_leaves a.number a.before a.reading a.after a.reply is.replied refused
