-- What is known of one line that is judged.
use Rattle.std.proofs.Common.{◌≡◌, ◌≤◌, ◌+◌, ℕ, List, [], refl, sym, true, false}
use Rattle.std.specs.Prelude.{Option, Some, None, Result, IfOk}
use Rattle.std.proofs.lemmas.Result.{IfOk-weaker}
use Rattle.linear_table.specs.declared.Linear.{Linear}
use Rattle.game_types.specs.declared.games.Game.{Game}
use Rattle.plan_lines.specs.declared.Reply.{Reply}
use Rattle.plan_report.specs.Replies.{printed_reply}
use Rattle.state_changes.specs.States.{State}
use Rattle.planner_core.specs.Lines.{IsSessionOf, Planned}
use Rattle.planner_core.specs.declared.posing.Posed.{Posed}
use Rattle.planner_core.specs.declared.posing.Posed.TheVariants as posed
use Rattle.certificate_file.specs.declared.CertEntry.{CertEntry}
use Rattle.certificate_file.specs.declared.Claim.{Claim}
use Rattle.script_reader.specs.Lines.{command_of_line}
use Rattle.script_runner.specs.Answers.{Reading, is_refusal_reply}
use Rattle.script_runner.specs.TrialLines.{IsNote, IsNoted, JudgesLine}
use Rattle.script_runner.specs.Trials.{IsJudgedBy, IsSaid, said_work, table_asked}
use Rattle.script_runner.specs.Verdicts.{IsVerdict, claim_at}
use Rattle.script_runner.specs.declared.trial.Note.{Note}
use Rattle.script_runner.specs.declared.verdict.Verdict.{Verdict}

judges_line : (entries : List CertEntry) (number : ℕ) (line : List ℕ) (reading : Reading) (said : Posed) (verdict : Option Verdict) (before after : Planned) (note : Note) (old new : ℕ)
    → command_of_line line reading → IsSaid number before reading after said → IsJudgedBy (claim_at entries number) said verdict → ((base : State) → IsSessionOf base before → IsSessionOf base after)
    → IsNote number after.state.book.game reading said verdict note → new ≤ old + said_work reading before after said → JudgesLine entries number line before after note old new
judges_line entries number line reading said verdict before after note old new read posed judged history noted steps = record {
  judged = record { number = number; line = line; reading = reading; said = said; verdict = verdict; before = before; after = after };
  is_judged = record { read = read; posed = posed; judged = judged; history = history };
  of_number = refl;
  of_line = refl;
  from = refl;
  to = refl;
  noted = noted;
  steps = steps;
}

pub judges_noted : {E : Type 0} (r : Result Note E) (entries : List CertEntry) (number : ℕ) (line : List ℕ) (reading : Reading) (said : Posed) (table : List ℕ) (before after : Planned) (old new : ℕ)
    → command_of_line line reading → IsSaid number before reading after said → ((base : State) → IsSessionOf base before → IsSessionOf base after) → table ≡ table_asked reading → new ≤ old + said_work reading before after said
    → IfOk r (IsNoted (claim_at entries number) number after.state.book.game table said) → IfOk r (λ note. JudgesLine entries number line before after note old new)
judges_noted r entries number line reading said table before after old new read posed history named steps noted =
    IfOk-weaker r _ _ (λ note is. judges_line entries number line reading said is.0 before after note old new read posed is.1 history (is.2 reading (sym named)) steps) noted

-- the note of a reply that is a refusal, and of one that isn't
pub note_refused : (number : ℕ) (g : Game) (answer : Reply) (note : Note) → is_refusal_reply answer ≡ true → note.text ≡ printed_reply g number answer → note.refused ≡ true → note.form ≡ false → note.proved ≡ false
    → (reading : Reading) → IsNote number g reading (posed.Reply answer) None note
note_refused number g answer note is text refused form proved reading =
    record { told = rw is text; refuses = rw is refused; poses = form; shows = proved }

pub note_silent : (number : ℕ) (g : Game) (answer : Reply) (note : Note) → is_refusal_reply answer ≡ false → note.text ≡ [] → note.refused ≡ false → note.form ≡ false → note.proved ≡ false
    → (reading : Reading) → IsNote number g reading (posed.Reply answer) None note
note_silent number g answer note is text refused form proved reading =
    record { told = rw is text; refuses = rw is refused; poses = form; shows = proved }

-- of a reply nothing is claimed, and of a form there is a verdict
pub noted_reply : {E : Type 0} (r : Result Note E) (claim : Option Claim) (number : ℕ) (g : Game) (table : List ℕ) (said : Posed) (answer : Reply) → said ≡ posed.Reply answer
    → IfOk r (λ note. (reading : Reading) → IsNote number g reading (posed.Reply answer) None note) → IfOk r (IsNoted claim number g table said)
noted_reply r claim number g table said answer is told = rw is (IfOk-weaker r _ (IsNoted claim number g table (posed.Reply answer)) (λ note h. (None, tt, λ reading named. h reading)) told)

pub noted_form : {E : Type 0} (r : Result Note E) (claim : Option Claim) (number : ℕ) (g : Game) (table : List ℕ) (said : Posed) (form : Linear) → said ≡ posed.Linear form
    → IfOk r (λ note. (verdict : Verdict) × IsVerdict form claim verdict × ((h : Game) (reading : Reading) → table_asked reading ≡ table → IsNote number h reading (posed.Linear form) (Some verdict) note)) → IfOk r (IsNoted claim number g table said)
noted_form r claim number g table said form is told = rw is (IfOk-weaker r _ (IsNoted claim number g table (posed.Linear form)) (λ note h. (Some h.0, h.1, λ reading named. h.2 g reading named)) told)
