-- What is so while the lines of a script are answered.
use Rattle.std.proofs.Common.{◌≡◌, ◌<◌, ◌≤◌, ◌+◌, ◌++◌, ◌∷◌, [], ℕ, zero, suc, List, length, take, drop, arith, ap, sym, subst, refl, inl, Bool, true, false, ◌∙◌, append-nil, add-one}
use Rattle.std.specs.Prelude.{Option, ◌||◌, option_to_list}
use Rattle.std.specs.Io.KnownBytes.{Appends}
use Rattle.std.proofs.lemmas.List.{take-append-drop, length-append}
use Rattle.linear_table.specs.declared.SolveAnswer.{SolveAnswer}
use Rattle.planner_core.specs.Lines.{Planned}
use Rattle.plan_io.specs.declared.ends.ScriptEnd.TheVariants.{Done, SomeRefused, NoMemory, WriteFault}
use Rattle.script_runner.specs.Answers.{Answered, AnswersLine, IsAnswered, solved_in}
use Rattle.script_runner.specs.Leaves.{Leaves}
use Rattle.plan_io.specs.Lines.{lines_of}
use Rattle.script_runner.specs.Scripts.{EndsScript, TellsAll, TellsSome, is_cut}
use Rattle.script_runner.specs.Sessions.{IsSession, report, solutions, some_refused, work}
use Rattle.plan_io.specs.Writing.{AppendsFront}
use Rattle.script_runner.proofs.SessionLemmas.{refused_more, report_more, session_first, session_more, solved_more, work_more}
use Rattle.plan_io.proofs.WritingLemmas.{appends_both, appends_none, front_after}

-- so many of the first lines are answered, from the first planner on to this one
pub record SoFar (first now : Planned) (script rest : List ℕ) (count : ℕ) (refused : Bool) (found : List SolveAnswer) (before after : Option (List ℕ)) (old new : ℕ) : Type 0 where
  pub answers : List Answered
  pub session : IsSession first (take count (lines_of script)) answers now
  pub long : length answers ≡ count
  pub behind : drop count (lines_of script) ≡ lines_of rest
  pub written : Appends before after (report answers)
  pub refuses : refused ≡ some_refused answers
  pub solves : found ≡ solutions answers
  pub steps : new ≤ old + work answers
  pub later : old ≤ new

unfoldable pub so_far_first : (first : Planned) (script : List ℕ) (found : List SolveAnswer) (known : Option (List ℕ)) (steps : ℕ) → found ≡ [] → SoFar first first script script 0 false found known known steps steps
so_far_first first script found known steps none = record {
  answers = [];
  session = session_first first;
  long = refl;
  behind = refl;
  written = appends_none known;
  refuses = refl;
  solves = none;
  steps = omega arith;
  later = omega arith;
}

pub drop_next : (lines : List (List ℕ)) (count : ℕ) (line : List ℕ) (more : List (List ℕ)) → drop count lines ≡ line ∷ more
    → (count < length lines) × (drop (suc count) lines ≡ more) × (take (suc count) lines ≡ take count lines ++ line ∷ [])
drop_next [] zero line more is = cc
drop_next [] (suc count) line more is = cc
drop_next (x ∷ xs) zero line more is =
    let head : x ≡ line = cc in
    let tail : xs ≡ more = cc in
    (omega arith, tail, ap (λ l. l ∷ []) head)
drop_next (x ∷ xs) (suc count) line more is =
    let next = drop_next xs count line more is in
    (omega (arith, next.0), next.1, ap (λ t. x ∷ t) next.2)

-- fewer lines than all are answered where one is left
pub line_left : {first now : Planned} {script rest : List ℕ} {count : ℕ} {refused : Bool} {found : List SolveAnswer} {before after : Option (List ℕ)} {old new : ℕ} → SoFar first now script rest count refused found before after old new
    → (line more : List ℕ) → lines_of rest ≡ line ∷ lines_of more → count < length (lines_of script)
line_left {script = script} {count = count} so line more is = (drop_next (lines_of script) count line (lines_of more) (so.behind ∙ is)).0

-- the session with one more line
record Next (first next : Planned) (script more : List ℕ) (count : ℕ) (answers : List Answered) (a : Answered) : Type 0 where
  pub session : IsSession first (take (count + 1) (lines_of script)) (answers ++ a ∷ []) next
  pub behind : drop (count + 1) (lines_of script) ≡ lines_of more

next_line : (first next : Planned) (script more : List ℕ) (count : ℕ) (answers : List Answered) (a : Answered) → IsSession first (take count (lines_of script)) answers a.before → length answers ≡ count
    → drop count (lines_of script) ≡ a.line ∷ lines_of more → IsAnswered a → a.number ≡ count + 1 → a.after ≡ next → Next first next script more count answers a
next_line first next script more count answers a session long at is number to =
    let following = drop_next (lines_of script) count a.line (lines_of more) at in
    let taken : take count (lines_of script) ++ a.line ∷ [] ≡ take (count + 1) (lines_of script) = rw add-one (sym following.2) in
    record {
      session = subst (λ p. IsSession first (take (count + 1) (lines_of script)) (answers ++ a ∷ []) p) to
          (subst (λ l. IsSession first l (answers ++ a ∷ []) a.after) taken (session_more first (take count (lines_of script)) answers a session is (omega (arith, number, long))));
      behind = rw add-one following.1;
    }

following : {first now : Planned} {script rest : List ℕ} {count : ℕ} {refused : Bool} {found : List SolveAnswer} {before mid : Option (List ℕ)} {old new : ℕ} → (so : SoFar first now script rest count refused found before mid old new)
    → (line more : List ℕ) (next : Planned) (text : List ℕ) (refuses : Bool) (solved : Option SolveAnswer) (newer : ℕ) → lines_of rest ≡ line ∷ lines_of more → (told : AnswersLine (count + 1) line now next text refuses solved new newer)
    → Next first next script more count so.answers told.answer
following {first} {now} {script} {count = count} so line more next text refuses solved newer is told =
    next_line first next script more count so.answers told.answer (subst (λ p. IsSession first (take count (lines_of script)) so.answers p) (sym told.from) so.session) so.long
    (so.behind ∙ (is ∙ ap (λ l. l ∷ lines_of more) (sym told.of_line))) told.is_answered told.of_number told.to

grown_solutions : (answers : List Answered) (a : Answered) (found later_found : List SolveAnswer) (solved : Option SolveAnswer) → found ≡ solutions answers → solved ≡ solved_in a.reply
    → later_found ≡ found ++ option_to_list solved → later_found ≡ solutions (answers ++ a ∷ [])
grown_solutions answers a found later_found solved before here grows =
    grows ∙ (ap (λ l. l ++ option_to_list solved) before ∙ (ap (λ (o : Option SolveAnswer). solutions answers ++ option_to_list o) here ∙ sym (solved_more answers a)))

pub so_far_next : {first now : Planned} {script rest : List ℕ} {count : ℕ} {refused : Bool} {found : List SolveAnswer} {before mid : Option (List ℕ)} {old new : ℕ} → SoFar first now script rest count refused found before mid old new
    → (line more : List ℕ) (next : Planned) (text : List ℕ) (refuses : Bool) (solved : Option SolveAnswer) (after : Option (List ℕ)) (newer : ℕ) → lines_of rest ≡ line ∷ lines_of more → AnswersLine (count + 1) line now next text refuses solved new newer
    → new ≤ newer → Appends mid after text → (later_found : List SolveAnswer) → later_found ≡ found ++ option_to_list solved → SoFar first next script more (count + 1) (refused || refuses) later_found before after old newer
so_far_next {first} {now} {script} {rest} {count} {refused} {found} {before} {mid} {old} {new} so line more next text refuses solved after newer is told later appends later_found grows =
    let one = following so line more next text refuses solved newer is told in
    record {
      answers = so.answers ++ told.answer ∷ [];
      session = one.session;
      long = omega (arith, length-append so.answers (told.answer ∷ []), so.long);
      behind = one.behind;
      written = subst (λ t. Appends before after t) (ap (λ t. report so.answers ++ t) told.told ∙ sym (report_more so.answers told.answer)) (appends_both before mid after (report so.answers) text so.written appends);
      refuses = ap (λ b. b || refuses) so.refuses ∙ (ap (λ b. some_refused so.answers || b) told.refuses ∙ sym (refused_more so.answers told.answer));
      solves = grown_solutions so.answers told.answer found later_found solved so.solves told.solves grows;
      steps = omega (arith, so.steps, told.steps, work_more so.answers told.answer);
      later = omega (arith, so.later, later);
    }

pub next_answers : {first now : Planned} {script rest : List ℕ} {count : ℕ} {refused : Bool} {found : List SolveAnswer} {before mid : Option (List ℕ)} {old new : ℕ} → (so : SoFar first now script rest count refused found before mid old new)
    → (line more : List ℕ) (next : Planned) (text : List ℕ) (refuses : Bool) (solved : Option SolveAnswer) (after : Option (List ℕ)) (newer : ℕ) → (is : lines_of rest ≡ line ∷ lines_of more) → (told : AnswersLine (count + 1) line now next text refuses solved new newer)
    → (later : new ≤ newer) → (appends : Appends mid after text) → (later_found : List SolveAnswer) → (grows : later_found ≡ found ++ option_to_list solved)
    → (so_far_next so line more next text refuses solved after newer is told later appends later_found grows).answers ≡ so.answers ++ told.answer ∷ []
unfolding so_far_next
next_answers so line more next text refuses solved after newer is told later appends later_found grows = refl

-- ---- the endings
pub all_taken : (lines : List (List ℕ)) (count : ℕ) → drop count lines ≡ [] → take count lines ≡ lines
all_taken lines count none = sym (append-nil (take count lines)) ∙ (ap (λ t. take count lines ++ t) (sym none) ∙ take-append-drop count lines)

tells_all : {first now : Planned} {script rest : List ℕ} {count : ℕ} {refused : Bool} {found : List SolveAnswer} {before after : Option (List ℕ)} {old new : ℕ} → (so : SoFar first now script rest count refused found before after old new)
    → length (lines_of script) ≤ 100_000 → lines_of rest ≡ [] → TellsAll refused first script found (report so.answers) (work so.answers)
tells_all {first} {now} {script} {count = count} so few none = record {
  few = few;
  tells = record {
    answers = so.answers;
    last = now;
    session = subst (λ l. IsSession first l so.answers now) (all_taken (lines_of script) count (so.behind ∙ none)) so.session;
    told = refl;
    solves = so.solves;
    takes = refl;
  };
  refuses = sym so.refuses;
}

pub ends_refused : {first now : Planned} {script rest : List ℕ} {count : ℕ} {refused : Bool} {found : List SolveAnswer} {before after : Option (List ℕ)} {old new : ℕ} → SoFar first now script rest count refused found before after old new
    → length (lines_of script) ≤ 100_000 → lines_of rest ≡ [] → refused ≡ true → Leaves (EndsScript first script found) is_cut before after old new SomeRefused
unfolding EndsScript
ends_refused {first} {script = script} {found = found} so few none is = record {
  text = report so.answers;
  work = work so.answers;
  ends = subst (λ b. TellsAll b first script found (report so.answers) (work so.answers)) is (tells_all so few none);
  adds = so.written;
  steps = so.steps;
  later = so.later;
}

pub ends_done : {first now : Planned} {script rest : List ℕ} {count : ℕ} {refused : Bool} {found : List SolveAnswer} {before after : Option (List ℕ)} {old new : ℕ} → SoFar first now script rest count refused found before after old new
    → length (lines_of script) ≤ 100_000 → lines_of rest ≡ [] → refused ≡ false → Leaves (EndsScript first script found) is_cut before after old new Done
unfolding EndsScript
ends_done {first} {script = script} {found = found} so few none is = record {
  text = report so.answers;
  work = work so.answers;
  ends = subst (λ b. TellsAll b first script found (report so.answers) (work so.answers)) is (tells_all so few none);
  adds = so.written;
  steps = so.steps;
  later = so.later;
}

tells_some : {first now : Planned} {script rest : List ℕ} {count : ℕ} {refused : Bool} {found : List SolveAnswer} {before after : Option (List ℕ)} {old new : ℕ} → (so : SoFar first now script rest count refused found before after old new)
    → length (lines_of script) ≤ 100_000 → TellsSome first script found (report so.answers) (work so.answers)
tells_some {first} {now} {script} {count = count} so few =
    record { few = few; count = count; tells = record { answers = so.answers; last = now; session = so.session; told = refl; solves = so.solves; takes = refl } }

-- a line wants memory
pub ends_wanting : {first now : Planned} {script rest : List ℕ} {count : ℕ} {refused : Bool} {found : List SolveAnswer} {before after : Option (List ℕ)} {old new : ℕ} → SoFar first now script rest count refused found before after old new
    → length (lines_of script) ≤ 100_000 → (newer : ℕ) → new ≤ newer → (kept : List SolveAnswer) → kept ≡ found → Leaves (EndsScript first script kept) is_cut before after old newer NoMemory
unfolding EndsScript
ends_wanting {first} {script = script} {old = old} so few newer later kept same = record {
  text = report so.answers;
  work = newer;
  ends = (work so.answers, subst (λ (l : List SolveAnswer). TellsSome first script l (report so.answers) (work so.answers)) (sym same) (tells_some so few));
  adds = so.written;
  steps = omega arith;
  later = omega (arith, so.later, later);
}

-- the reply to a line is cut off
pub ends_cut : {first now : Planned} {script rest : List ℕ} {count : ℕ} {refused : Bool} {found : List SolveAnswer} {before mid : Option (List ℕ)} {old new : ℕ} → SoFar first now script rest count refused found before mid old new
    → length (lines_of script) ≤ 100_000 → (line more : List ℕ) (next : Planned) (text : List ℕ) (refuses : Bool) (solved : Option SolveAnswer) (after : Option (List ℕ)) (newer : ℕ) → lines_of rest ≡ line ∷ lines_of more → AnswersLine (count + 1) line now next text refuses solved new newer
    → new ≤ newer → AppendsFront mid after text → (later_found : List SolveAnswer) → later_found ≡ found ++ option_to_list solved → Leaves (EndsScript first script later_found) is_cut before after old newer WriteFault
unfolding EndsScript
ends_cut {first} {now} {script} {rest} {count} {refused} {found} {before} {mid} {old} {new} so few line more next text refuses solved after newer is told later front later_found grows =
    let one = following so line more next text refuses solved newer is told in
    record {
      text = report (so.answers ++ told.answer ∷ []);
      work = work (so.answers ++ told.answer ∷ []);
      ends = inl (record { few = few; count = count + 1; tells = record { answers = so.answers ++ told.answer ∷ []; last = next; session = one.session; told = refl; solves = grown_solutions so.answers told.answer found later_found solved so.solves told.solves grows; takes = refl } });
      adds = front_after before mid after (report so.answers) text (report (so.answers ++ told.answer ∷ [])) (ap (λ t. report so.answers ++ t) told.told ∙ sym (report_more so.answers told.answer)) so.written front;
      steps = omega (arith, so.steps, told.steps, work_more so.answers told.answer);
      later = omega (arith, so.later, later);
    }
