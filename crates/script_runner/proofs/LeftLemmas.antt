-- What a line makes of a planner, whatever the solver answers and whatever set supports a node.
use Rattle.std.proofs.Common.{◌≡◌, ◌∷◌, ◌++◌, [], ℕ, List, Bool, true, false, ap, subst, refl, ◌∙◌, length}
use Rattle.std.specs.Prelude.{Option, Some, None, Result, Ok, Err, find, nat_lt}
use Rattle.plan_base.specs.declared.ids.NodeId.{NodeId}
use Rattle.edit_undo.specs.Edits.{apply_edits}
use Rattle.edit_undo.specs.Session.{Session, redo_of, undo_of, with_entry}
use Rattle.edit_undo.specs.Kept.{Kept, session_of}
use Rattle.fractions.specs.Fraction.{Fraction}
use Rattle.game_types.specs.declared.effects.Effects.{Effects}
use Rattle.game_types.specs.declared.effects.Rates.{Rates}
use Rattle.game_types.specs.declared.effects.Wide.{Wide}
use Rattle.game_types.specs.declared.games.Game.{Game}
use Rattle.game_types.specs.Steps.{◌▸◌}
use Rattle.linear_table.specs.Answer.{IsAnswer}
use Rattle.linear_table.specs.declared.Linear.{Linear}
use Rattle.linear_table.specs.declared.SolveAnswer.{SolveAnswer}
use Rattle.plan_lines.specs.declared.change.Change.{Change}
use Rattle.plan_lines.specs.declared.command.Command.{Command}
use Rattle.plan_lines.specs.declared.command.Command.TheVariants as command
use Rattle.production_table.specs.declared.tables.Table.{Table}
use Rattle.production_table.specs.declared.tables.TableRow.{TableRow}
use Rattle.production_table.specs.Tables.{is_label}
use Rattle.table_rows.specs.Columns.{figures_of}
use Rattle.plan_lines.specs.declared.reply.RefusalCode.{RefusalCode}
use Rattle.plan_lines.specs.declared.reply.Reply.{Reply}
use Rattle.planner_tables.specs.Effects.{named, table_at, table_named}
use Rattle.planner_tables.specs.Questions.{IsSolveReply, IsSolveReplyAt, IsSolved, IsSolvedWhere, answered, linear_named, linear_outcome, rate_outcome, rate_reply, rates_outcome, row_rates_outcome, solved}
use Rattle.table_rows.specs.declared.refusals.TableRefusal.{TableRefusal}
use Rattle.state_changes.specs.Actions.{can_be_held, node_named}
use Rattle.state_changes.specs.Effects.{effect_of}
use Rattle.state_changes.specs.States.{State}
use Rattle.state_changes.specs.declared.refusals.Refusal.{Refusal}
use Rattle.state_changes.specs.declared.undos.Undo.{Undo}
use Rattle.planner_core.specs.Lines.{Ends, Held, Holds, HoldsChange, IsFree, IsOpen, IsStep, IsStepIn, Moves, Planned, Tries, changes_of, planned}
use Rattle.planner_core.specs.Posing.{form_asked, form_in, form_of}
use Rattle.planner_core.specs.Replies.{AboutNode, IsWhyReply, done_reply, held_reply, mask_reply, missing_reply, refused_as}
use Rattle.script_runner.specs.Answers.{gives_up, is_refusal_reply, solved_in}

-- ---- what a line leaves behind besides the planning state, and whether it is refused
pub record Left : Type 0 where
  pub session : Session Change
  pub batch : Option (List Held)
  pub quiet : Bool
  pub refused : Bool

abbrev pub left : Session Change → Option (List Held) → Bool → Bool → Left
left session batch quiet refused = record { session = session; batch = batch; quiet = quiet; refused = refused }

-- what is left by a planner and a reply
abbrev pub left_by : Planned → Reply → Left
left_by r answer = left (session_of r.kept) r.batch r.quiet (is_refusal_reply answer)

abbrev pub is_err : {A E : Type 0} → Result A E → Bool
is_err (Ok x) = false
is_err (Err e) = true

abbrev pub tried : Result State (ℕ × Refusal) → Session Change → Bool → List Change → Left
tried (Ok state) session quiet edits = left (with_entry session edits) None quiet false
tried (Err fault) session quiet edits = left session None quiet true

abbrev pub ended : State → Session Change → Bool → List Held → Left
ended state session quiet [] = left session None quiet false
ended state session quiet (first ∷ rest) = tried (apply_edits effect_of state (changes_of (first ∷ rest))) session quiet (changes_of (first ∷ rest))

abbrev pub moved : List (List Change) → Session Change → Option (List Held) → Bool → Session Change → Left
moved [] session batch quiet other = left session batch quiet true
moved (entry ∷ entries) session batch quiet other = left other batch quiet false

abbrev pub free_left : Bool → State → Session Change → Bool → Command → Left
free_left no_form state session quiet (command.Reach object) = left session None quiet (is_err (node_named state.book.game object))
free_left no_form state session quiet (command.Why object) = left session None quiet (is_err (node_named state.book.game object))
free_left no_form state session quiet (command.Missing object) = left session None quiet (is_err (node_named state.book.game object))
free_left no_form state session quiet (command.Mask object) = left session None quiet (is_err (node_named state.book.game object))
free_left no_form state session quiet (command.Rate table label) = left session None quiet (is_refusal_reply (rate_reply state.book.game state.tables table label))
free_left no_form state session quiet (command.Solve table budget) = left session None quiet no_form
free_left no_form state session quiet (command.Quiet on) = left session None on false
free_left no_form state session quiet command.Undo = moved session.done session None quiet (undo_of session)
free_left no_form state session quiet command.Redo = moved session.undone session None quiet (redo_of session)
free_left no_form state session quiet command.Batch = left session (Some []) quiet false
free_left no_form state session quiet command.End = left session None quiet true
free_left no_form state session quiet command.Cancel = left session None quiet true
free_left no_form state session quiet (command.Change change) = tried (apply_edits effect_of state (change ∷ [])) session quiet (change ∷ [])
free_left no_form state session quiet other = left session None quiet false

abbrev pub held_left : ℕ → Session Change → Bool → List Held → Change → Bool → Bool → Left
held_left line session quiet held change true true = left session (Some (held ++ (line, change) ∷ [])) quiet false
held_left line session quiet held change true false = left session (Some held) quiet true
held_left line session quiet held change false room = left session (Some held) quiet true

abbrev pub open_left : ℕ → State → Session Change → Bool → List Held → Command → Left
open_left line state session quiet held (command.Quiet on) = left session (Some held) on false
open_left line state session quiet held command.End = ended state session quiet held
open_left line state session quiet held command.Cancel = left session None quiet false
open_left line state session quiet held (command.Change change) = held_left line session quiet held change (can_be_held change) (nat_lt (length held) 1024)
open_left line state session quiet held other = left session (Some held) quiet true

-- what is left by a line, of whose solving nothing is said
abbrev pub line_left : ℕ → State → Session Change → Bool → Command → Option (List Held) → Left
line_left line state session quiet asked None = free_left true state session quiet asked
line_left line state session quiet asked (Some held) = open_left line state session quiet held asked

-- ---- a line leaves that
pub record Leaves (p : Left) (r : Planned) (answer : Reply) : Type 0 where
  pub leaves : left_by r answer ≡ p
  pub unsolved : solved_in answer ≡ None

-- a reply that is no refusal and holds no answer of the solver
abbrev pub IsPlain : Reply → Type 0
IsPlain answer = (is_refusal_reply answer ≡ false) × (solved_in answer ≡ None)

plain_as : (answer told : Reply) → answer ≡ told → IsPlain told → IsPlain answer
plain_as answer told is plain = (ap is_refusal_reply is ∙ plain.0, ap solved_in is ∙ plain.1)

done_plain : (quiet : Bool) → IsPlain (done_reply quiet)
done_plain true = (refl, refl)
done_plain false = (refl, refl)

held_plain : (quiet : Bool) → IsPlain (held_reply quiet)
held_plain true = (refl, refl)
held_plain false = (refl, refl)

left_same : {s t : Session Change} {b c : Option (List Held)} {q u v w : Bool} → s ≡ t → b ≡ c → q ≡ u → v ≡ w → left s b q v ≡ left t c u w
left_same {s} {t} {b} {c} {q} {u} {v} {w} one two three four =
    ap (λ (x : Session Change). left x b q v) one ∙ (ap (λ (x : Option (List Held)). left t x q v) two ∙ (ap (λ (x : Bool). left t c x v) three ∙ ap (λ (x : Bool). left t c u x) four))

-- the planner is this one, and the reply is told
says : (p r : Planned) (answer : Reply) (refused : Bool) → r ≡ p → is_refusal_reply answer ≡ refused → solved_in answer ≡ None → Leaves (left (session_of p.kept) p.batch p.quiet refused) r answer
says p r answer refused is told none = record { leaves = ap (λ q. left_by q answer) is ∙ left_same refl refl refl told; unsolved = none }

says_plain : (p r : Planned) (answer told : Reply) → r ≡ p → answer ≡ told → IsPlain told → Leaves (left (session_of p.kept) p.batch p.quiet false) r answer
says_plain p r answer told is same plain = let kept = plain_as answer told same plain in says p r answer false is kept.0 kept.1

says_refused : (p r : Planned) (answer : Reply) (why : RefusalCode) → r ≡ p → answer ≡ refused_as why → Leaves (left (session_of p.kept) p.batch p.quiet true) r answer
says_refused p r answer why is same = says p r answer true is (ap is_refusal_reply same) (ap solved_in same)

about_node : (g : Game) (o : Result NodeId Refusal) (ask : NodeId → Reply → Type 0) (answer : Reply) → ((node : NodeId) → ask node answer → IsPlain answer) → AboutNode g o ask answer → (is_refusal_reply answer ≡ is_err o) × (solved_in answer ≡ None)
about_node g (Ok node) ask answer plain is = plain node is
about_node g (Err refusal) ask answer plain is = (ap is_refusal_reply is, ap solved_in is)

asks : (p r : Planned) (o : Result NodeId Refusal) (ask : NodeId → Reply → Type 0) (answer : Reply) → ((node : NodeId) → ask node answer → IsPlain answer) → r ≡ p → AboutNode p.state.book.game o ask answer
    → Leaves (left (session_of p.kept) p.batch p.quiet (is_err o)) r answer
asks p r o ask answer plain is about = let told = about_node p.state.book.game o ask answer plain about in says p r answer (is_err o) is told.0 told.1

why_plain : (s : State) (node : NodeId) (reached : Bool) (answer : Reply) → IsWhyReply s node reached answer → IsPlain answer
why_plain s node false answer is = plain_as answer _ is (refl, refl)
why_plain s node true answer is = plain_as answer _ is.2 (refl, refl)

missing_plain : (s : State) (node : NodeId) (reached : Bool) → IsPlain (missing_reply s node reached)
missing_plain s node true = (refl, refl)
missing_plain s node false = (refl, refl)

mask_plain : (s : State) (node : NodeId) (reached : Bool) → IsPlain (mask_reply s node reached)
mask_plain s node true = (refl, refl)
mask_plain s node false = (refl, refl)

moves : (entries : List (List Change)) (why : RefusalCode) (session : Session Change) (p r : Planned) (answer : Reply) → Moves entries why session p r answer → Leaves (moved entries (session_of p.kept) p.batch p.quiet session) r answer
moves [] why session p r answer is = says_refused p r answer why is.0 is.1
moves (entry ∷ entries) why session p r answer is =
    let plain = plain_as answer _ is.3 (done_plain p.quiet) in record { leaves = left_same is.0 is.1 is.2 plain.0; unsolved = plain.1 }

tries : (o : Result State (ℕ × Refusal)) (line_of : ℕ → Option ℕ) (p : Planned) (edits : List Change) (r : Planned) (answer : Reply) → Tries o line_of p edits r answer → Leaves (tried o (session_of p.kept) p.quiet edits) r answer
tries (Ok state) line_of p edits r answer is =
    let plain = plain_as answer _ is.2 (done_plain p.quiet) in record { leaves = left_same is.0.session is.1.batch is.1.quiet plain.0; unsolved = plain.1 }
tries (Err fault) line_of p edits r answer is = says (record p { batch = None }) r answer true is.0 (ap is_refusal_reply is.1) (ap solved_in is.1)

-- ---- what the solver is asked
rates_plain : (g : Game) (t : Table) (row : TableRow) (o : Result (Effects × Rates × Fraction) Wide) → solved_in (answered g (rates_outcome t row o)) ≡ None
rates_plain g t row (Ok rates) = refl
rates_plain g t row (Err wide) = refl

row_unsolved : (g : Game) (t : Table) (o : Result TableRow TableRefusal) → solved_in (answered g (o ▸ λ row. rates_outcome t row (figures_of g row.setup))) ≡ None
row_unsolved g t (Ok row) = rates_plain g t row (figures_of g row.setup)
row_unsolved g t (Err refusal) = refl

place_unsolved : (g : Game) (ts : List Table) (label : List ℕ) (o : Result ℕ TableRefusal) → solved_in (answered g (o ▸ λ place. row_rates_outcome g (table_at ts place) label)) ≡ None
place_unsolved g ts label (Ok place) = row_unsolved g (table_at ts place) (named label (find (is_label label) (table_at ts place).rows))
place_unsolved g ts label (Err refusal) = refl

rate_unsolved : (g : Game) (ts : List Table) (table label : List ℕ) → solved_in (rate_reply g ts table label) ≡ None
unfolding rate_outcome
rate_unsolved g ts table label = place_unsolved g ts label (table_named ts table)

-- a table that has no form is refused
no_form_at : (g : Game) (t : Table) (budget : ℕ) (o : Result Linear TableRefusal) (answer : Reply) → form_of o ≡ None → IsSolvedWhere g t budget o answer → (is_refusal_reply answer ≡ true) × (solved_in answer ≡ None)
no_form_at g t budget (Ok form) answer none is = cc
no_form_at g t budget (Err refusal) answer none is = (ap is_refusal_reply is, ap solved_in is)

no_form_named : (g : Game) (ts : List Table) (budget : ℕ) (o : Result ℕ TableRefusal) (answer : Reply) → form_of (o ▸ λ place. linear_outcome g (table_at ts place)) ≡ None → IsSolveReplyAt g ts budget o answer → (is_refusal_reply answer ≡ true) × (solved_in answer ≡ None)
no_form_named g ts budget (Ok place) answer none is = no_form_at g (table_at ts place) budget (linear_outcome g (table_at ts place)) answer none is
no_form_named g ts budget (Err refusal) answer none is = (ap is_refusal_reply is, ap solved_in is)

no_form : (g : Game) (ts : List Table) (table : List ℕ) (budget : ℕ) (answer : Reply) → form_of (linear_named g ts table) ≡ None → IsSolveReply g ts table budget answer → (is_refusal_reply answer ≡ true) × (solved_in answer ≡ None)
unfolding IsSolveReply linear_named
no_form g ts table budget answer none is = no_form_named g ts budget (table_named ts table) answer none is

-- a table that has one is settled
pub record Settles (form : Linear) (budget : ℕ) (answer : Reply) : Type 0 where
  pub settled : SolveAnswer
  pub held : solved_in answer ≡ Some settled
  pub refuses : is_refusal_reply answer ≡ gives_up settled
  pub shows : IsAnswer form budget settled

held_by : (g : Game) (t : Table) (l : Linear) (settled : SolveAnswer) (answer : Reply) → answer ≡ solved g t l settled → solved_in answer ≡ Some settled
held_by g t l settled answer is = ap solved_in is

refused_by : (g : Game) (t : Table) (l : Linear) (settled : SolveAnswer) (answer : Reply) → answer ≡ solved g t l settled → is_refusal_reply answer ≡ gives_up settled
refused_by g t l settled answer is = ap is_refusal_reply is

one_form : (l form : Linear) → ◌≡◌ {A = Option Linear} (Some l) (Some form) → l ≡ form
one_form l form same = cc

shown_of : (l form : Linear) (budget : ℕ) (settled : SolveAnswer) → l ≡ form → IsAnswer l budget settled → IsAnswer form budget settled
shown_of l form budget settled same shows = subst (λ (f : Linear). IsAnswer f budget settled) same shows

settles_by : (g : Game) (t : Table) (l form : Linear) (budget : ℕ) (answer : Reply) → ◌≡◌ {A = Option Linear} (Some l) (Some form) → IsSolved g t l budget answer → Settles form budget answer
settles_by g t l form budget answer some is = record {
  settled = is.answer;
  held = held_by g t l is.answer answer is.reply_is;
  refuses = refused_by g t l is.answer answer is.reply_is;
  shows = shown_of l form budget is.answer (one_form l form some) is.is_answer.shows;
}

none_some : (form : Linear) → ◌≡◌ {A = Option Linear} None (Some form) → ⊥
none_some form same = cc

form_at : (g : Game) (t : Table) (budget : ℕ) (o : Result Linear TableRefusal) (answer : Reply) (form : Linear) → form_of o ≡ Some form → IsSolvedWhere g t budget o answer → Settles form budget answer
form_at g t budget (Ok l) answer form some is = settles_by g t l form budget answer some is
form_at g t budget (Err refusal) answer form some is = absurd (none_some form some)

form_named : (g : Game) (ts : List Table) (budget : ℕ) (o : Result ℕ TableRefusal) (answer : Reply) (form : Linear) → form_of (o ▸ λ place. linear_outcome g (table_at ts place)) ≡ Some form → IsSolveReplyAt g ts budget o answer → Settles form budget answer
form_named g ts budget (Ok place) answer form some is = form_at g (table_at ts place) budget (linear_outcome g (table_at ts place)) answer form some is
form_named g ts budget (Err refusal) answer form some is = absurd (none_some form some)

pub form_settled : (g : Game) (ts : List Table) (table : List ℕ) (budget : ℕ) (answer : Reply) (form : Linear) → form_of (linear_named g ts table) ≡ Some form → IsSolveReply g ts table budget answer → Settles form budget answer
unfolding IsSolveReply linear_named
form_settled g ts table budget answer form some is = form_named g ts budget (table_named ts table) answer form some is

-- ---- a line where no batch is open, and one where one is
free : (state : State) (kept : Kept Change Undo) (quiet : Bool) (asked : Command) (r : Planned) (answer : Reply) → form_in None (planned state kept None quiet) asked ≡ None → IsFree (planned state kept None quiet) asked r answer
    → Leaves (free_left true state (session_of kept) quiet asked) r answer
free state kept quiet (command.Reach object) r answer none is = asks (planned state kept None quiet) r (node_named state.book.game object) _ answer (λ node told. plain_as answer _ told (refl, refl)) is.0 is.1
free state kept quiet (command.Why object) r answer none is = asks (planned state kept None quiet) r (node_named state.book.game object) _ answer (λ node told. why_plain state node _ answer told) is.0 is.1
free state kept quiet (command.Missing object) r answer none is = asks (planned state kept None quiet) r (node_named state.book.game object) _ answer (λ node told. plain_as answer _ told (missing_plain state node _)) is.0 is.1
free state kept quiet (command.Mask object) r answer none is = asks (planned state kept None quiet) r (node_named state.book.game object) _ answer (λ node told. plain_as answer _ told (mask_plain state node _)) is.0 is.1
free state kept quiet (command.List kind) r answer none is = says_plain (planned state kept None quiet) r answer _ is.0 is.1 (refl, refl)
free state kept quiet command.Milestones r answer none is = says_plain (planned state kept None quiet) r answer _ is.0 is.1 (refl, refl)
free state kept quiet command.Summary r answer none is = says_plain (planned state kept None quiet) r answer _ is.0 is.1 (refl, refl)
free state kept quiet (command.Rate table label) r answer none is = says (planned state kept None quiet) r answer _ is.0 (ap is_refusal_reply is.1) (ap solved_in is.1 ∙ rate_unsolved state.book.game state.tables table label)
free state kept quiet (command.Solve table budget) r answer none is = let told = no_form state.book.game state.tables table budget answer none is.1 in says (planned state kept None quiet) r answer true is.0 told.0 told.1
free state kept quiet (command.Quiet on) r answer none is = says_plain (planned state kept None on) r answer _ is.0 is.1 (refl, refl)
free state kept quiet command.Undo r answer none is = moves (session_of kept).done _ (undo_of (session_of kept)) (planned state kept None quiet) r answer is
free state kept quiet command.Redo r answer none is = moves (session_of kept).undone _ (redo_of (session_of kept)) (planned state kept None quiet) r answer is
free state kept quiet command.Batch r answer none is = says_plain (planned state kept (Some []) quiet) r answer _ is.0 is.1 (done_plain quiet)
free state kept quiet command.End r answer none is = says_refused (planned state kept None quiet) r answer _ is.0 is.1
free state kept quiet command.Cancel r answer none is = says_refused (planned state kept None quiet) r answer _ is.0 is.1
free state kept quiet (command.Change change) r answer none is = tries (apply_edits effect_of state (change ∷ [])) _ (planned state kept None quiet) (change ∷ []) r answer is

ends : (p : Planned) (held : List Held) (r : Planned) (answer : Reply) → Ends p held r answer → Leaves (ended p.state (session_of p.kept) p.quiet held) r answer
ends p [] r answer is = says_plain (record p { batch = None }) r answer _ is.0 is.1 (done_plain p.quiet)
ends p (first ∷ rest) r answer is = tries (apply_edits effect_of p.state (changes_of (first ∷ rest))) _ p (changes_of (first ∷ rest)) r answer is

holds : (line : ℕ) (state : State) (kept : Kept Change Undo) (quiet : Bool) (held : List Held) (change : Change) (fits room : Bool) (r : Planned) (answer : Reply) → nat_lt (length held) 1024 ≡ room
    → HoldsChange line (planned state kept (Some held) quiet) held change fits r answer → Leaves (held_left line (session_of kept) quiet held change fits room) r answer
holds line state kept quiet held change true true r answer fit is =
    let told = subst (λ (b : Bool). Holds line (planned state kept (Some held) quiet) held change b r answer) fit is in
    says_plain (planned state kept (Some (held ++ (line, change) ∷ [])) quiet) r answer _ told.0 told.1 (held_plain quiet)
holds line state kept quiet held change true false r answer fit is =
    let told = subst (λ (b : Bool). Holds line (planned state kept (Some held) quiet) held change b r answer) fit is in
    says_refused (planned state kept (Some held) quiet) r answer _ told.0 told.1
holds line state kept quiet held change false room r answer fit is = says_refused (planned state kept (Some held) quiet) r answer _ is.0 is.1

in_batch : (line : ℕ) (state : State) (kept : Kept Change Undo) (quiet : Bool) (held : List Held) (asked : Command) (r : Planned) (answer : Reply) → IsOpen line (planned state kept (Some held) quiet) held asked r answer
    → Leaves (open_left line state (session_of kept) quiet held asked) r answer
in_batch line state kept quiet held (command.Quiet on) r answer is = says_plain (planned state kept (Some held) on) r answer _ is.0 is.1 (refl, refl)
in_batch line state kept quiet held command.End r answer is = ends (planned state kept (Some held) quiet) held r answer is
in_batch line state kept quiet held command.Cancel r answer is = says_plain (planned state kept None quiet) r answer _ is.0 is.1 (done_plain quiet)
in_batch line state kept quiet held (command.Change change) r answer is = holds line state kept quiet held change (can_be_held change) (nat_lt (length held) 1024) r answer refl is
in_batch line state kept quiet held other r answer is = says_refused (planned state kept (Some held) quiet) r answer _ is.0 is.1

-- what a line leaves that has the solver settle nothing
pub line_leaves : (line : ℕ) (p : Planned) (asked : Command) (r : Planned) (answer : Reply) → form_asked p asked ≡ None → IsStep line p asked r answer → Leaves (line_left line p.state (session_of p.kept) p.quiet asked p.batch) r answer
unfolding form_asked
line_leaves line p asked r answer none is = at p.batch none is.does
  where
    at : (batch : Option (List Held)) → form_in batch (planned p.state p.kept batch p.quiet) asked ≡ None → IsStepIn line batch (planned p.state p.kept batch p.quiet) asked r answer
        → Leaves (line_left line p.state (session_of p.kept) p.quiet asked batch) r answer
    at None nothing step = free p.state p.kept p.quiet asked r answer nothing step
    at (Some held) nothing step = in_batch line p.state p.kept p.quiet held asked r answer step
