-- Sessions, line by line.
use Rattle.std.proofs.Common.{◌≡◌, ◌+◌, ◌∷◌, ◌++◌, [], ℕ, suc, List, length, map, arith, sym, subst, ◌∙◌}
use Rattle.std.specs.Prelude.{All, Some, None, Ok, Err}
use Rattle.std.specs.List.{range_with_len}
use Rattle.script_reader.specs.Lines.{command_of_line}
use Rattle.script_reader.proofs.One.{one_line}
use Rattle.plan_lines.specs.declared.reply.Reply.{Reply}
use Rattle.state_changes.specs.States.{State}
use Rattle.planner_core.specs.Lines.{IsSessionOf, Planned}
use Rattle.script_runner.specs.Alike.{AreAlike}
use Rattle.script_runner.specs.Answers.{Answered, IsAnswered, IsReply, Reading}
use Rattle.script_runner.specs.Sessions.{IsSession}
use Rattle.script_runner.proofs.AlikeLemmas.{alike_as, alike_next}

-- a session, line by line
abbrev pub Follows : ℕ → Planned → List (List ℕ) → List Answered → Planned → Type 0
Follows number first [] [] last = first ≡ last
Follows number first [] (a ∷ answers) last = ⊥
Follows number first (line ∷ lines) [] last = ⊥
Follows number first (line ∷ lines) (a ∷ answers) last = IsAnswered a × (a.number ≡ number) × (a.line ≡ line) × (a.before ≡ first) × Follows (number + 1) a.after lines answers last

follows_from : (number : ℕ) (first : Planned) (lines : List (List ℕ)) (answers : List Answered) (last : Planned) → All IsAnswered answers → map (λ a. a.line) answers ≡ lines → map (λ a. a.number) answers ≡ range_with_len number (length answers)
    → first ∷ map (λ a. a.after) answers ≡ map (λ a. a.before) answers ++ last ∷ [] → Follows number first lines answers last
follows_from number first [] [] last each lines_are numbers planners = cc
follows_from number first (line ∷ lines) [] last each lines_are numbers planners = cc
follows_from number first [] (a ∷ answers) last each lines_are numbers planners = cc
follows_from number first (line ∷ lines) (a ∷ answers) last each lines_are numbers planners =
    let same_line : a.line ≡ line = cc in
    let more_lines : map (λ b. b.line) answers ≡ lines = cc in
    let same_number : a.number ≡ number = cc in
    let more_numbers : map (λ b. b.number) answers ≡ range_with_len (number + 1) (length answers) = cc in
    let same_planner : a.before ≡ first = cc in
    let more_planners : a.after ∷ map (λ b. b.after) answers ≡ map (λ b. b.before) answers ++ last ∷ [] = cc in
    (each 0 a (omega arith), same_number, same_line, same_planner, follows_from (number + 1) a.after lines answers last (λ k d within. each (suc k) d (omega (arith, within))) more_lines more_numbers more_planners)

pub follows : (first : Planned) (lines : List (List ℕ)) (answers : List Answered) (last : Planned) → IsSession first lines answers last → Follows 1 first lines answers last
follows first lines answers last s = follows_from 1 first lines answers last s.each s.of_lines s.numbers s.planners

-- two sessions of the same lines, from planners that are alike, lead to planners that are alike
replied_alike : (base : State) (number : ℕ) (reading : Reading) (p q r s : Planned) (answer other : Reply) → AreAlike p q → IsSessionOf base r → IsSessionOf base s → IsReply number p reading r answer → IsReply number q reading s other → AreAlike r s
replied_alike base number (Ok None) p q r s answer other alike from too one two = alike_as p q r s one.0 two.0 alike
replied_alike base number (Ok (Some asked)) p q r s answer other alike from too one two = alike_next base number p q asked r s answer other alike from too one two
replied_alike base number (Err fault) p q r s answer other alike from too one two = alike_as p q r s one.0 two.0 alike

last_alike : (base : State) (number : ℕ) (p q : Planned) (lines : List (List ℕ)) (answers others : List Answered) (last end : Planned) → AreAlike p q → IsSessionOf base p → IsSessionOf base q
    → Follows number p lines answers last → Follows number q lines others end → AreAlike last end
last_alike base number p q [] [] [] last end alike from too one two = alike_as p q last end (sym one) (sym two) alike
last_alike base number p q [] (a ∷ answers) others last end alike from too one two = absurd one
last_alike base number p q [] [] (b ∷ others) last end alike from too one two = absurd two
last_alike base number p q (line ∷ lines) [] others last end alike from too one two = absurd one
last_alike base number p q (line ∷ lines) (a ∷ answers) [] last end alike from too one two = absurd two
last_alike base number p q (line ∷ lines) (a ∷ answers) (b ∷ others) last end alike from too one two =
    let mine = one.0 in
    let theirs = two.0 in
    let after_a = mine.history base (subst (λ (t : Planned). IsSessionOf base t) (sym one.3) from) in
    let after_b = theirs.history base (subst (λ (t : Planned). IsSessionOf base t) (sym two.3) too) in
    let reading = one_line a.line b.reading a.reading (subst (λ (l : List ℕ). command_of_line l b.reading) (two.2 ∙ sym one.2) theirs.read) mine.read in
    let replied = subst (λ (n : ℕ). IsReply n b.before a.reading b.after b.reply) (two.1 ∙ sym one.1) (subst (λ (r : Reading). IsReply b.number b.before r b.after b.reply) reading theirs.replied) in
    let next = replied_alike base a.number a.reading a.before b.before a.after b.after a.reply b.reply (alike_as p q a.before b.before one.3 two.3 alike) after_a after_b mine.replied replied in
    last_alike base (number + 1) a.after b.after lines answers others last end next after_a after_b one.4 two.4

pub sessions_alike : (base : State) (p q : Planned) (lines : List (List ℕ)) (answers others : List Answered) (last end : Planned) → AreAlike p q → IsSessionOf base p → IsSessionOf base q
    → IsSession p lines answers last → IsSession q lines others end → AreAlike last end
sessions_alike base p q lines answers others last end alike from too one two = last_alike base 1 p q lines answers others last end alike from too (follows p lines answers last one) (follows q lines others end two)
