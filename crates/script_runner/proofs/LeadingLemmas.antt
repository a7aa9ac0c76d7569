-- Lines that are answered one after another.
use Rattle.std.proofs.Common.{◌≡◌, ◌≤◌, ◌+◌, ◌++◌, ◌∷◌, [], ℕ, Bool, true, false, List, length, arith, ap, sym, subst, refl, ◌∙◌, append-nil}
use Rattle.std.specs.Prelude.{◌||◌}
use Rattle.std.proofs.lemmas.List.{append_assoc, length-append}
use Rattle.planner_core.specs.Lines.{IsSessionOf, Planned}
use Rattle.plan_lines.specs.declared.reply.Reply.{Reply}
use Rattle.plan_io.specs.Lines.{lines_of}
use Rattle.script_reader.specs.Lines.{command_of_line}
use Rattle.script_runner.specs.Answers.{Answered, IsReply, Reading, is_refusal, is_refusal_reply, solved_in}
use Rattle.script_runner.specs.Sessions.{IsSession}
use Rattle.script_runner.proofs.SessionLemmas.{refused_more, session_first, session_more}
use Rattle.state_changes.specs.States.{State}
use Rattle.script_runner.specs.Leading.{Accepted, AnswersSo, Continues, TellsReply, ends_planned, is_plan}
use Rattle.script_runner.specs.declared.stepping.Progress.{Progress}

pub tells_reply : (number : ℕ) (line : List ℕ) (reading : Reading) (before after : Planned) (reply : Reply) → command_of_line line reading → IsReply number before reading after reply
    → ((base : State) → IsSessionOf base before → IsSessionOf base after) → TellsReply number line before after reply
tells_reply number line reading before after reply read replied history = record {
  answer = record { number = number; line = line; reading = reading; reply = reply; before = before; after = after };
  is_answered = record { read = read; replied = replied; history = history };
  of_number = refl;
  of_line = refl;
  from = refl;
  to = refl;
  tells = refl;
}

pub answers_so : (number : ℕ) (line : List ℕ) (before after : Planned) (reply : Reply) (refused planned : Bool) → TellsReply number line before after reply → refused ≡ is_refusal_reply reply
    → planned ≡ is_plan (solved_in reply) → AnswersSo number line before after refused planned
answers_so number line before after reply refused planned told refuses plans = record {
  reply = reply;
  told = told;
  refuses = refuses ∙ ap is_refusal_reply (sym told.tells);
  plans = plans ∙ ap (λ r. is_plan (solved_in r)) (sym told.tells);
}

ends_more : (answers : List Answered) (a : Answered) → ends_planned (answers ++ a ∷ []) ≡ is_plan (solved_in a.reply)
ends_more [] a = refl
ends_more (b ∷ []) a = refl
ends_more (b ∷ c ∷ rest) a = ends_more (c ∷ rest) a

-- no line yet
pub accepted_start : (p : Planned) (done : Progress) → done.count ≡ 0 → done.planned ≡ false → Accepted p [] done p
accepted_start p done count planned = record { answers = []; session = session_first p; accepted = refl; counted = count; ends = planned }

-- one more line
accepted_more : (first : Planned) (lines : List (List ℕ)) (done later : Progress) (line : List ℕ) (now next : Planned) → Accepted first lines done now
    → AnswersSo (done.count + 1) line now next false later.planned → later.count ≡ done.count + 1 → Accepted first (lines ++ line ∷ []) later next
accepted_more first lines done later line now next before seen count =
    let a = seen.told.answer in
    let from = subst (λ p. IsSession first lines before.answers p) (sym seen.told.from) before.session in
    let grown = session_more first lines before.answers a from seen.told.is_answered (omega (arith, seen.told.of_number, before.counted)) in
    record {
      answers = before.answers ++ a ∷ [];
      session = subst (λ p. IsSession first (lines ++ line ∷ []) (before.answers ++ a ∷ []) p) seen.told.to
          (subst (λ (l : List ℕ). IsSession first (lines ++ l ∷ []) (before.answers ++ a ∷ []) a.after) seen.told.of_line grown);
      accepted = refused_more before.answers a ∙ (ap (λ b. b || is_refusal a) before.accepted ∙ sym seen.refuses);
      counted = omega (arith, count, before.counted, length-append before.answers (a ∷ []));
      ends = seen.plans ∙ sym (ends_more before.answers a);
    }

-- some of the lines of the script are answered, behind whatever lines were before
pub record SoFar (old : Planned) (script rest : List ℕ) (before : Progress) (now : Planned) (done : Progress) : Type 0 where
  pub answered : List (List ℕ)
  pub left : answered ++ lines_of rest ≡ lines_of script
  pub counted : done.count ≡ before.count + length answered
  pub goes : (first : Planned) (lines : List (List ℕ)) → Accepted first lines before old → Accepted first (lines ++ answered) done now

pub so_far_first : (p : Planned) (script : List ℕ) (before : Progress) → SoFar p script script before p before
so_far_first p script before = record {
  answered = [];
  left = refl;
  counted = omega arith;
  goes = λ first lines accepted. subst (λ l. Accepted first l before p) (sym (append-nil lines)) accepted;
}

pub so_far_next : {old now : Planned} {script rest : List ℕ} {before done : Progress} → SoFar old script rest before now done → (line more : List ℕ) (next : Planned) (later : Progress)
    → lines_of rest ≡ line ∷ lines_of more → AnswersSo (done.count + 1) line now next false later.planned → later.count ≡ done.count + 1 → SoFar old script more before next later
so_far_next {old} {now} {script} {rest} {before} {done} so line more next later is seen count = record {
  answered = so.answered ++ line ∷ [];
  left = append_assoc so.answered (line ∷ []) (lines_of more) ∙ (ap (λ l. so.answered ++ l) (sym is) ∙ so.left);
  counted = omega (arith, count, so.counted, length-append so.answered (line ∷ []));
  goes = λ first lines accepted. subst (λ l. Accepted first l later next) (append_assoc lines so.answered (line ∷ []))
      (accepted_more first (lines ++ so.answered) done later line now next (so.goes first lines accepted) seen count);
}

answers_all : {old now : Planned} {script rest : List ℕ} {before done : Progress} → (so : SoFar old script rest before now done) → lines_of rest ≡ [] → so.answered ≡ lines_of script
answers_all so none = sym (append-nil so.answered) ∙ (ap (λ l. so.answered ++ l) (sym none) ∙ so.left)

pub so_far_continues : {old now : Planned} {script rest : List ℕ} {before done : Progress} → SoFar old script rest before now done → lines_of rest ≡ [] → Continues old script before now done
so_far_continues {now = now} {done = done} so none =
    λ first lines accepted. subst (λ l. Accepted first (lines ++ l) done now) (answers_all so none) (so.goes first lines accepted)

pub so_far_counted : {old now : Planned} {script rest : List ℕ} {before done : Progress} → SoFar old script rest before now done → lines_of rest ≡ [] → done.count ≡ before.count + length (lines_of script)
so_far_counted {script = script} {before = before} so none =
    let long : length so.answered ≡ length (lines_of script) = ap length (answers_all so none) in
    omega (arith, long, so.counted)
