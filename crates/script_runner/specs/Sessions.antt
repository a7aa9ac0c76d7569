-- Sessions: lines that are answered one after another.
use Rattle.std.specs.Prelude.{◌≡◌, ℕ, Bool, List, [], ◌∷◌, ◌++◌, All, filter_map, flat_map, length, map, sum_by}
use Rattle.std.specs.List.{list_any, range_with_len}
use Rattle.linear_table.specs.declared.SolveAnswer.{SolveAnswer}
use Rattle.planner_core.specs.Lines.{Planned}
use Rattle.script_runner.specs.Answers.{Answered, IsAnswered, is_refusal, solved_in, text_of, work_of}

-- From a first planner to a last, these answers are those of these lines: each line is answered, their numbers count from 1,
-- and the planner behind a line is the one before the next.
pub record IsSession (first : Planned) (lines : List (List ℕ)) (answers : List Answered) (last : Planned) : Type 0 where
  pub each : All IsAnswered answers
  pub of_lines : map (λ a. a.line) answers ≡ lines
  pub numbers : map (λ a. a.number) answers ≡ range_with_len 1 (length answers)
  pub planners : first ∷ map (λ a. a.after) answers ≡ map (λ a. a.before) answers ++ last ∷ []

-- the replies in order
abbrev pub report : List Answered → List ℕ
report answers = flat_map text_of answers

-- whether some reply is a refusal
abbrev pub some_refused : List Answered → Bool
some_refused answers = list_any is_refusal answers

-- what the solver answered, in the order of the lines
abbrev pub solutions : List Answered → List SolveAnswer
solutions answers = filter_map (λ a. solved_in a.reply) answers

-- the steps that all lines take
abbrev pub work : List Answered → ℕ
work answers = sum_by work_of answers
