-- Trials of claims: lines that are answered one after another with nothing solved, each line that would have the solver settle a table
-- by a verdict on what is claimed of it.
use Rattle.std.specs.Prelude.{◌≡◌, ◌+◌, ◌++◌, ◌==◌, ◌&&◌, ℕ, Bool, true, false, not, List, [], ◌∷◌, Option, Some, None, Ok, Err, codes, count_by, decimal, flat_map, if◌then◌else◌, sum_by, ⊤}
use Rattle.std.specs.List.{list_any}
use Rattle.game_types.specs.declared.games.Game.{Game}
use Rattle.script_reader.specs.Lines.{command_of_line}
use Rattle.plan_lines.specs.declared.command.Command.TheVariants as command
use Rattle.plan_lines.specs.declared.Reply.TheVariants as reply
use Rattle.plan_report.specs.Replies.{printed_reply}
use Rattle.state_changes.specs.States.{State}
use Rattle.planner_core.specs.Lines.{IsSessionOf, Planned}
use Rattle.planner_core.specs.Posing.{IsPosed, posed_work}
use Rattle.planner_core.specs.Replies.{refused_as}
use Rattle.planner_core.specs.declared.posing.Posed.{Posed}
use Rattle.planner_core.specs.declared.posing.Posed.TheVariants as posed
use Rattle.certificate_file.specs.declared.CertEntry.{CertEntry}
use Rattle.certificate_file.specs.declared.Claim.{Claim}
use Rattle.script_runner.specs.Answers.{Reading, fault_code, is_refusal_reply}
use Rattle.script_runner.specs.Verdicts.{IsVerdict, claim_at, is_proved, verdict_line}
use Rattle.script_runner.specs.declared.verdict.Verdict.{Verdict}

-- a line with its number, what it is read as, what is posed or replied, the verdict where a form is posed, and the planner before and
-- after it
pub record Judged : Type 0 where
  pub number : ℕ
  pub line : List ℕ
  pub reading : Reading
  pub said : Posed
  pub verdict : Option Verdict
  pub before : Planned
  pub after : Planned

abbrev pub IsSaid : ℕ → Planned → Reading → Planned → Posed → Type 0
IsSaid number before (Ok None) after said = (after ≡ before) × (said ≡ posed.Reply reply.Nothing)
IsSaid number before (Ok (Some asked)) after said = IsPosed number before asked after said
IsSaid number before (Err fault) after said = (after ≡ before) × (said ≡ posed.Reply (refused_as (fault_code fault)))

abbrev pub said_work : Reading → Planned → Planned → Posed → ℕ
said_work (Ok None) before after said = 0
said_work (Ok (Some asked)) before after said = posed_work asked before after said
said_work (Err fault) before after said = 0

-- a verdict for each form, by what is claimed of the line
abbrev pub IsJudgedBy : Option Claim → Posed → Option Verdict → Type 0
IsJudgedBy claim (posed.Reply answer) None = ⊤
IsJudgedBy claim (posed.Linear form) (Some verdict) = IsVerdict form claim verdict
IsJudgedBy claim said verdict = ⊥

-- The line says what it is read as, and the planner after it and what is said are those of the planner before; the verdict is by the
-- entries. The planner has grown from whatever the planner before has grown from.
pub record IsJudged (entries : List CertEntry) (a : Judged) : Type 0 where
  pub read : command_of_line a.line a.reading
  pub posed : IsSaid a.number a.before a.reading a.after a.said
  pub judged : IsJudgedBy (claim_at entries a.number) a.said a.verdict
  pub history : (base : State) → IsSessionOf base a.before → IsSessionOf base a.after

-- the name of the table that a `solve` line names
abbrev pub table_asked : Reading → List ℕ
table_asked (Ok (Some (command.Solve table budget))) = table
table_asked other = []

-- a refusal is printed, a verdict too, and nothing else is
abbrev pub said_text : ℕ → Game → Reading → Posed → Option Verdict → List ℕ
said_text number g reading (posed.Reply answer) verdict = if is_refusal_reply answer then printed_reply g number answer else []
said_text number g reading (posed.Linear form) (Some verdict) = verdict_line number verdict (table_asked reading)
said_text number g reading (posed.Linear form) None = []

abbrev pub judged_text : Judged → List ℕ
judged_text a = said_text a.number a.after.state.book.game a.reading a.said a.verdict

abbrev pub is_said_refused : Posed → Bool
is_said_refused (posed.Reply answer) = is_refusal_reply answer
is_said_refused (posed.Linear form) = false

abbrev pub is_form : Posed → Bool
is_form (posed.Reply answer) = false
is_form (posed.Linear form) = true

abbrev pub is_shown : Option Verdict → Bool
is_shown None = false
is_shown (Some verdict) = is_proved verdict

abbrev pub judged_work : Judged → ℕ
judged_work a = said_work a.reading a.before a.after a.said

-- From a first planner to a last, these are the lines' verdicts and replies: each line is judged, the numbers count on, and the planner
-- behind a line is the one before the next.
abbrev pub IsTrial : List CertEntry → ℕ → Planned → List (List ℕ) → List Judged → Planned → Type 0
IsTrial entries number first [] [] last = first ≡ last
IsTrial entries number first [] (a ∷ judged) last = ⊥
IsTrial entries number first (line ∷ lines) [] last = ⊥
IsTrial entries number first (line ∷ lines) (a ∷ judged) last =
    IsJudged entries a × (a.number ≡ number) × (a.line ≡ line) × (a.before ≡ first) × IsTrial entries (number + 1) a.after lines judged last

-- the lines of the report
abbrev pub trial_text : List Judged → List ℕ
trial_text judged = flat_map judged_text judged

abbrev pub trial_work : List Judged → ℕ
trial_work judged = sum_by judged_work judged

abbrev pub some_said_refused : List Judged → Bool
some_said_refused judged = list_any (λ a. is_said_refused a.said) judged

-- how many lines pose a form, and how many of these are proved
abbrev pub form_count : List Judged → ℕ
form_count judged = count_by (λ a. is_form a.said) judged

abbrev pub proved_count : List Judged → ℕ
proved_count judged = count_by (λ a. is_shown a.verdict) judged

-- the last line
abbrev pub tally_line : ℕ → ℕ → List ℕ
tally_line proved forms = codes "proved " ++ (decimal proved ++ (codes " of " ++ (decimal forms ++ codes "\n")))

-- each form is proved and nothing is refused
abbrev pub is_passed : Bool → ℕ → ℕ → Bool
is_passed refused proved forms = not refused && (proved == forms)
