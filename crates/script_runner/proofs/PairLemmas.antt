-- A script that is answered, and is then checked by the entries of its answers.
use Rattle.std.proofs.Common.{◌≡◌, ◌≤◌, ◌+◌, ◌∷◌, ◌++◌, [], ℕ, List, Bool, true, false, ap, sym, subst, refl, ◌∙◌, arith, append_assoc, append-nil, inl, inr}
use Rattle.std.specs.Prelude.{◌==◌, ◌||◌, cond, Option, Some, None, Ok, Err, find, option_map, option_to_list}
use Rattle.std.specs.Option.{option_or}
use Rattle.std.specs.List.{cons_option}
use Rattle.std.proofs.lemmas.List.Sums.{sum_by-cons}
use Rattle.std.proofs.lemmas.List.Folds.{find-append}
use Rattle.std.proofs.lemmas.Bool.{or_parts}
use Rattle.std.proofs.lemmas.Bool.Decides.{nat_tests}
use Rattle.linear_table.specs.declared.Linear.{Linear}
use Rattle.linear_table.specs.declared.Plan.{Plan}
use Rattle.linear_table.specs.declared.SolveAnswer.{SolveAnswer}
use Rattle.linear_table.specs.declared.SolveAnswer.TheVariants as solver
use Rattle.linear_table.specs.Answer.{IsAnswer, IsPlanned}
use Rattle.plan_certificate.specs.declared.CheckFault.{CheckFault}
use Rattle.plan_certificate.specs.declared.CheckFault.TheVariants.{WideSum}
use Rattle.script_reader.specs.Lines.{command_of_line}
use Rattle.plan_lines.specs.declared.command.Command.{Command}
use Rattle.script_reader.proofs.One.{one_line}
use Rattle.plan_lines.specs.declared.reply.Reply.{Reply}
use Rattle.plan_lines.specs.declared.reply.Reply.TheVariants as reply
use Rattle.state_changes.specs.States.{State}
use Rattle.planner_core.specs.Lines.{IsSessionOf, IsStep, Planned}
use Rattle.planner_core.specs.Posing.{IsPosed, IsPosedWhere, form_asked}
use Rattle.planner_core.specs.declared.posing.Posed.{Posed}
use Rattle.planner_core.specs.declared.posing.Posed.TheVariants as posed
use Rattle.certificate_file.specs.declared.CertEntry.{CertEntry}
use Rattle.certificate_file.specs.declared.Claim.{Claim}
use Rattle.script_runner.specs.Alike.{AreAlike}
use Rattle.script_runner.specs.Answers.{Answered, IsReply, Reading, gives_up, is_refusal, is_refusal_reply, solved_in}
use Rattle.script_runner.specs.Certificates.{claim_of, entries_of, entry_for, entry_of}
use Rattle.script_runner.specs.Rechecks.{AreProvedButWide, is_wide}
use Rattle.script_runner.specs.Sessions.{IsSession, some_refused}
use Rattle.script_runner.specs.Trials.{IsJudgedBy, IsSaid, IsTrial, Judged, is_form, is_said_refused, is_shown, some_said_refused}
use Rattle.script_runner.specs.Verdicts.{IsPlanVerdict, IsVerdict, claim_at, is_of_line, is_proved}
use Rattle.script_runner.specs.declared.verdict.Verdict.{Verdict}
use Rattle.script_runner.specs.declared.verdict.Verdict.TheVariants as verdicts
use Rattle.script_runner.proofs.AlikeLemmas.{alike_as, alike_left, alike_self, form_same, left_same, solves}
use Rattle.script_runner.proofs.FollowLemmas.{Follows, follows}
use Rattle.script_runner.proofs.FaultLemmas.{least_fault, none_fault, plan_fault}
use Rattle.script_runner.proofs.LeftLemmas.{Left}

-- ---- one form
wide_counted : (fault : CheckFault) → fault ≡ WideSum → cond false 1 0 + cond (is_wide (Some (verdicts.Rejected fault))) 1 0 ≡ 1
wide_counted fault is = ap (λ (f : CheckFault). cond false 1 0 + cond (is_wide (Some (verdicts.Rejected f))) 1 0) is

plan_counted : (form : Linear) (p : Plan) (verdict : Verdict) → IsPlanned form p → IsPlanVerdict form p verdict → cond (is_proved verdict) 1 0 + cond (is_wide (Some verdict)) 1 0 ≡ 1
plan_counted form p verdicts.ProvedPlan is says = refl
plan_counted form p (verdicts.Rejected fault) is (inl found) = wide_counted fault (plan_fault form p fault is found)
plan_counted form p (verdicts.Rejected fault) is (inr found) = wide_counted fault (least_fault form p.prices p.cost fault is.2 found.1)
plan_counted form p verdicts.ProvedInfeasible is says = absurd says
plan_counted form p verdicts.Open is says = absurd says

claim_counted : (form : Linear) (budget : ℕ) (settled : SolveAnswer) (verdict : Verdict) → IsAnswer form budget settled → gives_up settled ≡ false → IsVerdict form (Some (claim_of settled)) verdict → cond (is_proved verdict) 1 0 + cond (is_wide (Some verdict)) 1 0 ≡ 1
claim_counted form budget (solver.Planned p) verdict is kept says = plan_counted form p verdict is says
claim_counted form budget (solver.Infeasible prices) verdicts.ProvedInfeasible is kept says = refl
claim_counted form budget (solver.Infeasible prices) (verdicts.Rejected fault) is kept says = wide_counted fault (none_fault form prices fault is says)
claim_counted form budget (solver.Infeasible prices) verdicts.ProvedPlan is kept says = absurd says
claim_counted form budget (solver.Infeasible prices) verdicts.Open is kept says = absurd says
claim_counted form budget (solver.TooWide trail next place) verdict is kept says = cc
claim_counted form budget (solver.OutOfBudget trail) verdict is kept says = cc

-- ---- one line
-- it is not refused, and a form is proved or met by a wide sum
pub record IsFine (said : Posed) (verdict : Option Verdict) : Type 0 where
  pub accepted : is_said_refused said ≡ false
  pub counted : cond (is_shown verdict) 1 0 + cond (is_wide verdict) 1 0 ≡ cond (is_form said) 1 0

-- the claim about a line that the solver answered
abbrev pub Claims : Option Claim → Option SolveAnswer → Type 0
Claims claim solved = (answer : SolveAnswer) → solved ≡ Some answer → claim ≡ Some (claim_of answer)

replied_fine : (claim : Option Claim) (answer : Reply) (verdict : Option Verdict) → is_refusal_reply answer ≡ false → IsJudgedBy claim (posed.Reply answer) verdict → IsFine (posed.Reply answer) verdict
replied_fine claim answer None kept by = record { accepted = kept; counted = refl }
replied_fine claim answer (Some verdict) kept by = absurd by

form_fine : (claim : Option Claim) (form : Linear) (budget : ℕ) (settled : SolveAnswer) (verdict : Option Verdict) → IsAnswer form budget settled → gives_up settled ≡ false → claim ≡ Some (claim_of settled) → IsJudgedBy claim (posed.Linear form) verdict → IsFine (posed.Linear form) verdict
form_fine claim form budget settled None is kept claimed by = absurd by
form_fine claim form budget settled (Some verdict) is kept claimed by = record {
  accepted = refl;
  counted = claim_counted form budget settled verdict is kept (subst (λ (c : Option Claim). IsVerdict form c verdict) claimed by);
}

fine_as : (claim : Option Claim) (said other : Posed) (verdict : Option Verdict) → said ≡ other → (IsJudgedBy claim other verdict → IsFine other verdict) → IsJudgedBy claim said verdict → IsFine said verdict
fine_as claim said other verdict same fine by =
    subst (λ (s : Posed). IsFine s verdict) (sym same) (fine (subst (λ (s : Posed). IsJudgedBy claim s verdict) same by))

-- the planners behind a line are alike, and the line is fine
pub record IsPair (said : Posed) (verdict : Option Verdict) (r s : Planned) : Type 0 where
  pub alike : AreAlike r s
  pub fine : IsFine said verdict

posed_pair : (base : State) (line : ℕ) (p q : Planned) (asked : Command) (r s : Planned) (said : Posed) (answer : Reply) (claim : Option Claim) (verdict : Option Verdict) (o : Option Linear) → form_asked p asked ≡ o
    → AreAlike p q → IsSessionOf base r → IsSessionOf base s → IsPosedWhere o line p asked r said → IsStep line q asked s answer → is_refusal_reply answer ≡ false → Claims claim (solved_in answer) → IsJudgedBy claim said verdict
    → IsPair said verdict r s
posed_pair base line p q asked r s said answer claim verdict (Some form) is alike from too poses step kept claims by =
    let done = solves line q asked s answer form (sym (form_same p q asked alike) ∙ is) step in
    record {
      alike = alike_as p q r s poses.0 done.stays alike;
      fine = fine_as claim said (posed.Linear form) verdict poses.1 (form_fine claim form done.budget done.settles.settled verdict done.settles.shows (sym done.settles.refuses ∙ kept) (claims done.settles.settled done.settles.held)) by;
    }
posed_pair base line p q asked r s said answer claim verdict None is alike from too poses step kept claims by =
    let same : _ = left_same line p q asked r s poses.0 answer alike is poses.2 step in
    record {
      alike = alike_left base r s poses.0 answer from too same;
      fine = fine_as claim said (posed.Reply poses.0) verdict poses.1 (replied_fine claim poses.0 verdict (ap (λ (l : Left). l.refused) same ∙ kept)) by;
    }

step_pair : (base : State) (line : ℕ) (p q : Planned) (asked : Command) (r s : Planned) (said : Posed) (answer : Reply) (claim : Option Claim) (verdict : Option Verdict) → AreAlike p q → IsSessionOf base r → IsSessionOf base s
    → IsPosed line p asked r said → IsStep line q asked s answer → is_refusal_reply answer ≡ false → Claims claim (solved_in answer) → IsJudgedBy claim said verdict → IsPair said verdict r s
unfolding IsPosed
step_pair base line p q asked r s said answer claim verdict alike from too poses step kept claims by =
    posed_pair base line p q asked r s said answer claim verdict (form_asked p asked) refl alike from too poses step kept claims by

line_pair : (base : State) (line : ℕ) (reading : Reading) (p q r s : Planned) (said : Posed) (answer : Reply) (claim : Option Claim) (verdict : Option Verdict) → AreAlike p q → IsSessionOf base r → IsSessionOf base s
    → IsSaid line p reading r said → IsReply line q reading s answer → is_refusal_reply answer ≡ false → Claims claim (solved_in answer) → IsJudgedBy claim said verdict → IsPair said verdict r s
line_pair base line (Ok None) p q r s said answer claim verdict alike from too says replies kept claims by =
    record { alike = alike_as p q r s says.0 replies.0 alike; fine = fine_as claim said (posed.Reply reply.Nothing) verdict says.1 (replied_fine claim reply.Nothing verdict refl) by }
line_pair base line (Ok (Some asked)) p q r s said answer claim verdict alike from too says replies kept claims by =
    step_pair base line p q asked r s said answer claim verdict alike from too says replies kept claims by
line_pair base line (Err fault) p q r s said answer claim verdict alike from too says replies kept claims by =
    let refused : true ≡ false = sym (ap is_refusal_reply replies.1) ∙ kept in cc

-- ---- all lines
-- entries of lines before this one
abbrev pub AreBefore : ℕ → List CertEntry → Type 0
AreBefore number entries = (line : ℕ) → number ≤ line → find (is_of_line line) entries ≡ None

no_entry_before : AreBefore 1 []
no_entry_before line from = refl

same_line : (number : ℕ) → (number == number) ≡ true
same_line number = grind (arith, nat_tests)

other_line : (number line : ℕ) → number + 1 ≤ line → (number == line) ≡ false
other_line number line later = grind (arith, nat_tests)

behind_none : (test : CertEntry → Bool) (front rest : List CertEntry) → find test front ≡ None → find test (front ++ rest) ≡ find test rest
behind_none test front rest none = find-append test front rest ∙ ap (λ (o : Option CertEntry). option_or o (find test rest)) none

found_first : (test : CertEntry → Bool) (entry : CertEntry) (rest : List CertEntry) → test entry ≡ true → find test (entry ∷ rest) ≡ Some entry
found_first test entry rest passes = ap (λ (b : Bool). cond b (Some entry) (find test rest)) passes

not_first : (test : CertEntry → Bool) (entry : CertEntry) → test entry ≡ false → find test (entry ∷ []) ≡ None
not_first test entry fails = ap (λ (b : Bool). cond b (Some entry) None) fails

entry_found : (number : ℕ) (front rest : List CertEntry) (claim : Claim) → AreBefore number front → claim_at (front ++ record { line = number; claim = claim } ∷ rest) number ≡ Some claim
entry_found number front rest claim before =
    let entry : CertEntry = record { line = number; claim = claim } in
    let none : find (is_of_line number) front ≡ None = before number (omega arith) in
    let found : find (is_of_line number) (front ++ entry ∷ rest) ≡ Some entry = behind_none (is_of_line number) front (entry ∷ rest) none ∙ found_first (is_of_line number) entry rest (same_line number) in
    ap (λ (o : Option CertEntry). option_map (λ e. e.claim) o) found

entry_behind : (number : ℕ) (front : List CertEntry) (o : Option SolveAnswer) → AreBefore number front → AreBefore (number + 1) (front ++ option_to_list (option_map (entry_for number) o))
entry_behind number front None before = λ line later. behind_none (is_of_line line) front [] (before line (omega (arith, later)))
entry_behind number front (Some answer) before = λ line later.
    behind_none (is_of_line line) front (entry_for number answer ∷ []) (before line (omega (arith, later))) ∙ not_first (is_of_line line) (entry_for number answer) (other_line number line later)

entries_next : (a : Answered) (answers : List Answered) (front : List CertEntry) → front ++ entries_of (a ∷ answers) ≡ (front ++ option_to_list (entry_of a)) ++ entries_of answers
entries_next a answers front = more (entry_of a)
  where
    more : (o : Option CertEntry) → front ++ cons_option o (entries_of answers) ≡ (front ++ option_to_list o) ++ entries_of answers
    more None = sym (ap (λ (l : List CertEntry). l ++ entries_of answers) (append-nil front))
    more (Some entry) = sym (append_assoc front (entry ∷ []) (entries_of answers))

claims_found : (number : ℕ) (front rest : List CertEntry) (o : Option SolveAnswer) → AreBefore number front → Claims (claim_at ((front ++ option_to_list (option_map (entry_for number) o)) ++ rest) number) o
claims_found number front rest None before = λ answer is. cc
claims_found number front rest (Some settled) before = λ answer is.
    let same : settled ≡ answer = cc in
    ap (λ (l : List CertEntry). claim_at l number) (append_assoc front (entry_for number settled ∷ []) rest)
    ∙ (entry_found number front rest (claim_of settled) before ∙ ap (λ (s : SolveAnswer). Some (claim_of s)) same)

fine_more : (a : Judged) (judged : List Judged) → IsFine a.said a.verdict → AreProvedButWide judged → AreProvedButWide (a ∷ judged)
fine_more a judged here rest = record {
  accepted = ap (λ (b : Bool). b || some_said_refused judged) here.accepted ∙ rest.accepted;
  counted = omega (arith, here.counted, rest.counted, sum_by-cons (λ b. cond (is_shown b.verdict) 1 0) a judged, sum_by-cons (λ b. cond (is_wide b.verdict) 1 0) a judged, sum_by-cons (λ b. cond (is_form b.said) 1 0) a judged);
}

all_fine : (base : State) (entries : List CertEntry) (number : ℕ) (p q : Planned) (lines : List (List ℕ)) (judged : List Judged) (answers : List Answered) (front : List CertEntry) (one other : Planned) → AreAlike p q → IsSessionOf base p → IsSessionOf base q
    → IsTrial entries number p lines judged one → Follows number q lines answers other → some_refused answers ≡ false → entries ≡ front ++ entries_of answers → AreBefore number front → AreProvedButWide judged
all_fine base entries number p q [] [] answers front one other alike from too trial session kept are before = record { accepted = refl; counted = refl }
all_fine base entries number p q [] (a ∷ judged) answers front one other alike from too trial session kept are before = absurd trial
all_fine base entries number p q (line ∷ lines) [] answers front one other alike from too trial session kept are before = absurd trial
all_fine base entries number p q (line ∷ lines) (a ∷ judged) [] front one other alike from too trial session kept are before = absurd session
all_fine base entries number p q (line ∷ lines) (a ∷ judged) (b ∷ answers) front one other alike from too trial session kept are before =
    let mine = trial.0 in
    let theirs = session.0 in
    let kept_here = or_parts (is_refusal b) (some_refused answers) kept in
    let before_a = subst (λ (t : Planned). IsSessionOf base t) (sym trial.3) from in
    let before_b = subst (λ (t : Planned). IsSessionOf base t) (sym session.3) too in
    let after_a = mine.history base before_a in
    let after_b = theirs.history base before_b in
    let reading = one_line a.line b.reading a.reading (subst (λ (l : List ℕ). command_of_line l b.reading) (session.2 ∙ sym trial.2) theirs.read) mine.read in
    let numbers = session.1 ∙ sym trial.1 in
    let replied = subst (λ (n : ℕ). IsReply n b.before a.reading b.after b.reply) numbers (subst (λ (r : Reading). IsReply b.number b.before r b.after b.reply) reading theirs.replied) in
    let entry : entry_of b ≡ option_map (entry_for number) (solved_in b.reply) = ap (λ (n : ℕ). option_map (entry_for n) (solved_in b.reply)) session.1 in
    let split : entries ≡ (front ++ option_to_list (option_map (entry_for number) (solved_in b.reply))) ++ entries_of answers =
    are ∙ (entries_next b answers front ∙ ap (λ (o : Option CertEntry). (front ++ option_to_list o) ++ entries_of answers) entry) in
    let claims : Claims (claim_at entries a.number) (solved_in b.reply) =
    subst (λ (c : Option Claim). Claims c (solved_in b.reply)) (ap (λ (es : List CertEntry). claim_at es number) (sym split) ∙ ap (λ (n : ℕ). claim_at entries n) (sym trial.1)) (claims_found number front (entries_of answers) (solved_in b.reply) before) in
    let pair = line_pair base a.number a.reading a.before b.before a.after b.after a.said b.reply (claim_at entries a.number) a.verdict (alike_as p q a.before b.before trial.3 session.3 alike) after_a after_b mine.posed replied kept_here.0 claims mine.judged in
    let rest = all_fine base entries (number + 1) a.after b.after lines judged answers (front ++ option_to_list (option_map (entry_for number) (solved_in b.reply))) one other pair.alike after_a after_b trial.4 session.4 kept_here.1 split (entry_behind number front (solved_in b.reply) before) in
    fine_more a judged pair.fine rest

-- ---- from the first line to the last
pub recheck_fine : (base : State) (entries : List CertEntry) (first : Planned) (lines : List (List ℕ)) (judged : List Judged) (answers : List Answered) (one other : Planned) → IsSessionOf base first → IsTrial entries 1 first lines judged one
    → IsSession first lines answers other → some_refused answers ≡ false → entries ≡ entries_of answers → AreProvedButWide judged
recheck_fine base entries first lines judged answers one other from trial session kept are =
    all_fine base entries 1 first first lines judged answers [] one other (alike_self first) from from trial (follows first lines answers other session) kept are no_entry_before
