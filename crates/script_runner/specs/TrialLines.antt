-- What is noted of one line that is judged.
use Rattle.std.specs.Prelude.{◌≡◌, ◌≤◌, ◌+◌, ℕ, Bool, true, false, List, [], Option, codes}
use Rattle.std.specs.Io.KnownBytes.{Appends}
use Rattle.game_types.specs.declared.games.Game.{Game}
use Rattle.planner_core.specs.Lines.{Planned}
use Rattle.planner_core.specs.declared.posing.Posed.{Posed}
use Rattle.certificate_file.specs.declared.CertEntry.{CertEntry}
use Rattle.certificate_file.specs.declared.Claim.{Claim}
use Rattle.script_runner.specs.Answers.{Reading}
use Rattle.script_runner.specs.Trials.{IsJudged, IsJudgedBy, Judged, is_form, is_said_refused, is_shown, is_passed, judged_work, said_text, table_asked, tally_line}
use Rattle.script_runner.specs.Scripts.{is_cut}
use Rattle.plan_io.specs.Writing.{Adds, AppendsFront}
use Rattle.plan_io.specs.declared.ends.ScriptEnd.{ScriptEnd}
use Rattle.plan_io.specs.declared.ends.ScriptEnd.TheVariants.{Done, SomeRefused, TooManyLines, WriteFault, NoMemory}
use Rattle.script_runner.specs.declared.trial.Note.{Note}
use Rattle.script_runner.specs.declared.verdict.Verdict.{Verdict}

-- the text of what is said, and what it counts as
pub record IsNote (number : ℕ) (g : Game) (reading : Reading) (said : Posed) (verdict : Option Verdict) (note : Note) : Type 0 where
  pub told : note.text ≡ said_text number g reading said verdict
  pub refuses : note.refused ≡ is_said_refused said
  pub poses : note.form ≡ is_form said
  pub shows : note.proved ≡ is_shown verdict

-- of what a line says that names this table: by some verdict on what is claimed of the line
abbrev pub IsNoted : Option Claim → ℕ → Game → List ℕ → Posed → Note → Type 0
IsNoted claim number g table said note = (verdict : Option Verdict) × IsJudgedBy claim said verdict × ((reading : Reading) → table_asked reading ≡ table → IsNote number g reading said verdict note)

-- A line of this number is judged by the entries and noted so, from one planner to another and within so many steps.
pub record JudgesLine (entries : List CertEntry) (number : ℕ) (line : List ℕ) (before after : Planned) (note : Note) (old new : ℕ) : Type 0 where
  pub judged : Judged
  pub is_judged : IsJudged entries judged
  pub of_number : judged.number ≡ number
  pub of_line : judged.line ≡ line
  pub from : judged.before ≡ before
  pub to : judged.after ≡ after
  pub noted : IsNote judged.number judged.after.state.book.game judged.reading judged.said judged.verdict note
  pub steps : new ≤ old + judged_work judged

-- the tally where it was told: whole, or none where memory for it could not be had
abbrev pub IsTallyTold : Bool → ℕ → ℕ → ScriptEnd → List ℕ → Type 0
IsTallyTold refused proved forms Done text = (is_passed refused proved forms ≡ true) × (text ≡ tally_line proved forms)
IsTallyTold refused proved forms SomeRefused text = (is_passed refused proved forms ≡ false) × (text ≡ tally_line proved forms)
IsTallyTold refused proved forms TooManyLines text = ⊥
IsTallyTold refused proved forms NoMemory text = text ≡ []
IsTallyTold refused proved forms WriteFault text = text ≡ tally_line proved forms

-- the line was written, or a front of it where writing was cut off
pub record TellsTally (refused : Bool) (proved forms : ℕ) (before after : Option (List ℕ)) (end : ScriptEnd) : Type 0 where
  pub text : List ℕ
  pub told : IsTallyTold refused proved forms end text
  pub adds : Adds (is_cut end) before after text

-- a script of too many lines was told, or a front of that where writing was cut off
abbrev pub TellsMany : Option (List ℕ) → Option (List ℕ) → ScriptEnd → Type 0
TellsMany before after TooManyLines = Appends before after (codes "too long script lines\n")
TellsMany before after WriteFault = AppendsFront before after (codes "too long script lines\n")
TellsMany before after other = ⊥
