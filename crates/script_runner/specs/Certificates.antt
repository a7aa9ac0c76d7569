-- The certificate of a session: what the solver answered, line by line.
use Rattle.std.specs.Prelude.{◌≡◌, ◌≤◌, ◌+◌, ◌⊎◌, ℕ, Bool, true, false, List, [], ◌++◌, Option, codes, filter_map, option_map}
use Rattle.linear_table.specs.declared.SolveAnswer.{SolveAnswer}
use Rattle.linear_table.specs.declared.SolveAnswer.TheVariants.{Planned as Plan, Infeasible}
use Rattle.serde_json.specs.Written.{compact_text}
use Rattle.planner_core.specs.Lines.{Planned}
use Rattle.certificate_file.specs.Said.{IsCertificate}
use Rattle.certificate_file.specs.Tree.{certificate_tree}
use Rattle.certificate_file.specs.declared.CertEntry.{CertEntry}
use Rattle.certificate_file.specs.declared.Claim.{Claim}
use Rattle.certificate_file.specs.declared.Claim.TheVariants as claims
use Rattle.script_runner.specs.Answers.{Answered, solved_in}
use Rattle.script_runner.specs.Scripts.{IsTooLong, TellsAll, TellsSome}
use Rattle.plan_io.specs.declared.ends.ScriptEnd.{ScriptEnd}
use Rattle.plan_io.specs.declared.ends.ScriptEnd.TheVariants.{Done, SomeRefused, TooManyLines, WriteFault, NoMemory}

-- what an answer claims: the plan or the prices; nothing, where the solver came to no answer
abbrev pub claim_of : SolveAnswer → Claim
claim_of (Plan p) = claims.Planned p
claim_of (Infeasible prices) = claims.Infeasible prices
claim_of other = claims.Unsettled

abbrev pub entry_for : ℕ → SolveAnswer → CertEntry
entry_for number answer = record { line = number; claim = claim_of answer }

abbrev pub entry_of : Answered → Option CertEntry
entry_of a = option_map (entry_for a.number) (solved_in a.reply)

-- an entry for each line that the solver answered, in order
abbrev pub entries_of : List Answered → List CertEntry
entries_of answers = filter_map entry_of answers

abbrev pub certificate_line : List CertEntry → List ℕ
certificate_line entries = compact_text (certificate_tree entries) ++ codes "\n"

-- all lines are answered, and the text is their certificate and a newline, which says their entries
pub record CertifiesAll (refused : Bool) (first : Planned) (script : List ℕ) (solved : List SolveAnswer) (text : List ℕ) (steps : ℕ) : Type 0 where
  pub replies : List ℕ
  pub tells : TellsAll refused first script solved replies steps
  pub told : text ≡ certificate_line (entries_of tells.tells.answers)
  pub says : IsCertificate text (entries_of tells.tells.answers)

-- so many of the first lines are answered, and nothing is told
pub record CertifiesNone (first : Planned) (script : List ℕ) (solved : List SolveAnswer) (text : List ℕ) : Type 0 where
  pub replies : List ℕ
  pub steps : ℕ
  pub tells : TellsSome first script solved replies steps
  pub told : text ≡ []

-- From this planner the script ends so, the solver having answered this, with this text and within so many steps. Nothing is told
-- before the last line is answered. How many steps are taken where memory is wanted is not said. Where writing was cut off, the text is
-- the one of which a front is written.
unfoldable pub EndsProof : Planned → List ℕ → List SolveAnswer → ScriptEnd → List ℕ → ℕ → Type 0
EndsProof first script solved Done text steps = CertifiesAll false first script solved text steps
EndsProof first script solved SomeRefused text steps = CertifiesAll true first script solved text steps
EndsProof first script solved TooManyLines text steps = IsTooLong script solved text steps
EndsProof first script solved NoMemory text steps = CertifiesNone first script solved text
EndsProof first script solved WriteFault text steps = ((refused : Bool) × CertifiesAll refused first script solved text steps) ⊎ IsTooLong script solved text steps

abbrev pub end_of : Bool → ScriptEnd
end_of true = SomeRefused
end_of false = Done

-- all lines are answered, and these are their entries; or so many of the first
pub record IsEntered (refused : Bool) (first : Planned) (script : List ℕ) (solved : List SolveAnswer) (entries : List CertEntry) (old new : ℕ) : Type 0 where
  pub replies : List ℕ
  pub steps : ℕ
  pub tells : TellsAll refused first script solved replies steps
  pub entered : entries ≡ entries_of tells.tells.answers
  pub taken : new ≤ old + steps

abbrev pub IsEnteredInPart : Planned → List ℕ → List SolveAnswer → Type 0
IsEnteredInPart first script solved = (replies : List ℕ) × (steps : ℕ) × TellsSome first script solved replies steps
