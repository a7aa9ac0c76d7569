-- What is so while the lines of a script are judged.
use Rattle.std.proofs.Common.{◌≡◌, ◌<◌, ◌≤◌, ◌+◌, ◌++◌, ◌∷◌, [], ℕ, List, length, take, drop, arith, ap, sym, subst, refl, inl, inr, Bool, true, false, ◌∙◌, append-nil, add-one, cond}
use Rattle.std.specs.Prelude.{Option, ◌||◌, count_by}
use Rattle.std.specs.Io.KnownBytes.{Appends}
use Rattle.std.proofs.lemmas.List.{length-append}
use Rattle.std.proofs.lemmas.List.Concat.{flat_map-append}
use Rattle.std.proofs.lemmas.List.Folds.{list_any-append}
use Rattle.std.proofs.lemmas.List.Sums.{sum_by-append}
use Rattle.plan_base.proofs.Bools.{or_false}
use Rattle.planner_core.specs.Lines.{Planned}
use Rattle.certificate_file.specs.declared.CertEntry.{CertEntry}
use Rattle.script_runner.specs.Checks.{EndsCheck, JudgesAll, JudgesSome}
use Rattle.script_runner.specs.Leaves.{Leaves}
use Rattle.plan_io.specs.Lines.{lines_of}
use Rattle.script_runner.specs.Scripts.{is_cut}
use Rattle.script_runner.specs.TrialLines.{IsTallyTold, JudgesLine, TellsTally}
use Rattle.script_runner.specs.Trials.{IsJudged, IsTrial, Judged, form_count, is_form, is_passed, is_said_refused, is_shown, judged_text, judged_work, proved_count, some_said_refused, tally_line, trial_text, trial_work}
use Rattle.plan_io.specs.Writing.{Adds, AppendsFront}
use Rattle.plan_io.specs.declared.ends.ScriptEnd.{ScriptEnd}
use Rattle.plan_io.specs.declared.ends.ScriptEnd.TheVariants.{Done, SomeRefused, TooManyLines, WriteFault, NoMemory}
use Rattle.script_runner.specs.declared.trial.Note.{Note}
use Rattle.script_runner.proofs.SoFarLemmas.{all_taken, drop_next}
use Rattle.plan_io.proofs.WritingLemmas.{appends_both, appends_none, front_after}

-- ---- one more line
pub trial_more : (entries : List CertEntry) (number : ℕ) (first now : Planned) (lines : List (List ℕ)) (judged : List Judged) (a : Judged) (line : List ℕ) (next : Planned) → IsTrial entries number first lines judged now → IsJudged entries a
    → a.number ≡ number + length judged → a.line ≡ line → a.before ≡ now → a.after ≡ next → IsTrial entries number first (lines ++ line ∷ []) (judged ++ a ∷ []) next
trial_more entries number first now [] [] a line next trial is at of_line from to =
    let here : a.number ≡ number = omega (arith, at) in
    (is, here, of_line, from ∙ sym trial, to)
trial_more entries number first now [] (b ∷ judged) a line next trial is at of_line from to = absurd trial
trial_more entries number first now (l ∷ lines) [] a line next trial is at of_line from to = absurd trial
trial_more entries number first now (l ∷ lines) (b ∷ judged) a line next trial is at of_line from to =
    let later : a.number ≡ (number + 1) + length judged = omega (arith, at) in
    (trial.0, trial.1, trial.2, trial.3, trial_more entries (number + 1) b.after now lines judged a line next trial.4 is later of_line from to)

text_more : (judged : List Judged) (a : Judged) → trial_text (judged ++ a ∷ []) ≡ trial_text judged ++ judged_text a
text_more judged a = flat_map-append judged_text judged (a ∷ []) ∙ ap (λ t. trial_text judged ++ t) (append-nil (judged_text a))

refused_more : (judged : List Judged) (a : Judged) → some_said_refused (judged ++ a ∷ []) ≡ (some_said_refused judged || is_said_refused a.said)
refused_more judged a = list_any-append (λ b. is_said_refused b.said) judged (a ∷ []) ∙ ap (λ b. some_said_refused judged || b) (or_false (is_said_refused a.said))

work_more : (judged : List Judged) (a : Judged) → trial_work (judged ++ a ∷ []) ≡ trial_work judged + judged_work a
work_more judged a = let same : trial_work judged + (0 + judged_work a) ≡ trial_work judged + judged_work a = omega arith in sum_by-append judged_work judged (a ∷ []) ∙ same

count_more : (test : Judged → Bool) (judged : List Judged) (a : Judged) → count_by test (judged ++ a ∷ []) ≡ count_by test judged + cond (test a) 1 0
count_more test judged a = let same : count_by test judged + (0 + cond (test a) 1 0) ≡ count_by test judged + cond (test a) 1 0 = omega arith in sum_by-append (λ x. cond (test x) 1 0) judged (a ∷ []) ∙ same

-- ---- so many of the first lines are judged, from the first planner on to this one
pub record Judging (entries : List CertEntry) (first now : Planned) (script rest : List ℕ) (count : ℕ) (refused : Bool) (proved forms : ℕ) (before after : Option (List ℕ)) (old new : ℕ) : Type 0 where
  pub judged : List Judged
  pub trial : IsTrial entries 1 first (take count (lines_of script)) judged now
  pub long : length judged ≡ count
  pub behind : drop count (lines_of script) ≡ lines_of rest
  pub written : Appends before after (trial_text judged)
  pub refuses : refused ≡ some_said_refused judged
  pub shows : proved ≡ proved_count judged
  pub poses : forms ≡ form_count judged
  pub few_shown : proved ≤ count
  pub few_posed : forms ≤ count
  pub steps : new ≤ old + trial_work judged
  pub later : old ≤ new

pub judging_first : (entries : List CertEntry) (first : Planned) (script : List ℕ) (known : Option (List ℕ)) (steps : ℕ) → Judging entries first first script script 0 false 0 0 known known steps steps
judging_first entries first script known steps = record {
  judged = [];
  trial = refl;
  long = refl;
  behind = refl;
  written = appends_none known;
  refuses = refl;
  shows = refl;
  poses = refl;
  few_shown = omega arith;
  few_posed = omega arith;
  steps = omega arith;
  later = omega arith;
}

pub line_left : {entries : List CertEntry} {first now : Planned} {script rest : List ℕ} {count : ℕ} {refused : Bool} {proved forms : ℕ} {before after : Option (List ℕ)} {old new : ℕ} → Judging entries first now script rest count refused proved forms before after old new
    → (line more : List ℕ) → lines_of rest ≡ line ∷ lines_of more → count < length (lines_of script)
line_left {script = script} {count = count} so line more is = (drop_next (lines_of script) count line (lines_of more) (so.behind ∙ is)).0

one_or_none : (b : Bool) → cond b 1 0 ≤ 1
one_or_none true = omega arith
one_or_none false = omega arith

pub judging_next : {entries : List CertEntry} {first now : Planned} {script rest : List ℕ} {count : ℕ} {refused : Bool} {proved forms : ℕ} {before mid : Option (List ℕ)} {old new : ℕ} → Judging entries first now script rest count refused proved forms before mid old new
    → (line more : List ℕ) (next : Planned) (note : Note) (after : Option (List ℕ)) (newer : ℕ) → lines_of rest ≡ line ∷ lines_of more → JudgesLine entries (count + 1) line now next note new newer → new ≤ newer → Appends mid after note.text
    → Judging entries first next script more (count + 1) (refused || note.refused) (proved + cond note.proved 1 0) (forms + cond note.form 1 0) before after old newer
judging_next {entries} {first} {now} {script} {rest} {count} {refused} {proved} {forms} {before} {mid} {old} {new} so line more next note after newer is told later appends =
    let a = told.judged in
    let following = drop_next (lines_of script) count line (lines_of more) (so.behind ∙ is) in
    let taken : take count (lines_of script) ++ line ∷ [] ≡ take (count + 1) (lines_of script) = rw add-one (sym following.2) in
    let at : a.number ≡ 1 + length so.judged = omega (arith, told.of_number, so.long) in
    let text : note.text ≡ judged_text a = told.noted.told in
    record {
      judged = so.judged ++ a ∷ [];
      trial = subst (λ l. IsTrial entries 1 first l (so.judged ++ a ∷ []) next) taken (trial_more entries 1 first now (take count (lines_of script)) so.judged a line next so.trial told.is_judged at told.of_line told.from told.to);
      long = omega (arith, length-append so.judged (a ∷ []), so.long);
      behind = rw add-one following.1;
      written = subst (λ t. Appends before after t) (ap (λ t. trial_text so.judged ++ t) text ∙ sym (text_more so.judged a)) (appends_both before mid after (trial_text so.judged) note.text so.written appends);
      refuses = ap (λ b. b || note.refused) so.refuses ∙ (ap (λ b. some_said_refused so.judged || b) told.noted.refuses ∙ sym (refused_more so.judged a));
      shows = ap (λ (n : ℕ). n + cond note.proved 1 0) so.shows ∙ (ap (λ b. proved_count so.judged + cond b 1 0) told.noted.shows ∙ sym (count_more (λ b. is_shown b.verdict) so.judged a));
      poses = ap (λ (n : ℕ). n + cond note.form 1 0) so.poses ∙ (ap (λ b. form_count so.judged + cond b 1 0) told.noted.poses ∙ sym (count_more (λ b. is_form b.said) so.judged a));
      few_shown = omega (arith, so.few_shown, one_or_none note.proved);
      few_posed = omega (arith, so.few_posed, one_or_none note.form);
      steps = omega (arith, so.steps, told.steps, work_more so.judged a);
      later = omega (arith, so.later, later);
    }

-- ---- the endings
some_judged : {entries : List CertEntry} {first now : Planned} {script rest : List ℕ} {count : ℕ} {refused : Bool} {proved forms : ℕ} {before after : Option (List ℕ)} {old new : ℕ} → (so : Judging entries first now script rest count refused proved forms before after old new)
    → JudgesSome entries first script (trial_text so.judged) (trial_work so.judged)
some_judged {now = now} {count = count} so = record { count = count; judges = record { judged = so.judged; last = now; trial = so.trial; told = refl; takes = refl } }

-- a line wants memory
pub judging_wants : {entries : List CertEntry} {first now : Planned} {script rest : List ℕ} {count : ℕ} {refused : Bool} {proved forms : ℕ} {before after : Option (List ℕ)} {old new : ℕ} → Judging entries first now script rest count refused proved forms before after old new
    → (newer : ℕ) → new ≤ newer → Leaves (EndsCheck entries first script) is_cut before after old newer NoMemory
unfolding EndsCheck
judging_wants so newer later = record {
  text = trial_text so.judged;
  work = newer;
  ends = (trial_work so.judged, some_judged so);
  adds = so.written;
  steps = omega arith;
  later = omega (arith, so.later, later);
}

-- the text of a line is cut off
pub judging_cut : {entries : List CertEntry} {first now : Planned} {script rest : List ℕ} {count : ℕ} {refused : Bool} {proved forms : ℕ} {before mid : Option (List ℕ)} {old new : ℕ} → Judging entries first now script rest count refused proved forms before mid old new
    → (line more : List ℕ) (next : Planned) (note : Note) (after : Option (List ℕ)) (newer : ℕ) → lines_of rest ≡ line ∷ lines_of more → JudgesLine entries (count + 1) line now next note new newer → new ≤ newer → AppendsFront mid after note.text
    → Leaves (EndsCheck entries first script) is_cut before after old newer WriteFault
unfolding EndsCheck
judging_cut {entries} {first} {now} {script} {rest} {count} {refused} {proved} {forms} {before} {mid} {old} {new} so line more next note after newer is told later front =
    let a = told.judged in
    let following = drop_next (lines_of script) count line (lines_of more) (so.behind ∙ is) in
    let taken : take count (lines_of script) ++ line ∷ [] ≡ take (count + 1) (lines_of script) = rw add-one (sym following.2) in
    let at : a.number ≡ 1 + length so.judged = omega (arith, told.of_number, so.long) in
    let text : note.text ≡ judged_text a = told.noted.told in
    record {
      text = trial_text (so.judged ++ a ∷ []);
      work = trial_work (so.judged ++ a ∷ []);
      ends = inl (record { count = count + 1; judges = record { judged = so.judged ++ a ∷ []; last = next; trial = subst (λ l. IsTrial entries 1 first l (so.judged ++ a ∷ []) next) taken (trial_more entries 1 first now (take count (lines_of script)) so.judged a line next so.trial told.is_judged at told.of_line told.from told.to); told = refl; takes = refl } });
      adds = front_after before mid after (trial_text so.judged) note.text (trial_text (so.judged ++ a ∷ [])) (ap (λ t. trial_text so.judged ++ t) text ∙ sym (text_more so.judged a)) so.written front;
      steps = omega (arith, so.steps, told.steps, work_more so.judged a);
      later = omega (arith, so.later, later);
    }

all_judged : {entries : List CertEntry} {first now : Planned} {script rest : List ℕ} {count : ℕ} {refused : Bool} {proved forms : ℕ} {before after : Option (List ℕ)} {old new : ℕ} → (so : Judging entries first now script rest count refused proved forms before after old new)
    → lines_of rest ≡ [] → (passed : Bool) → is_passed refused proved forms ≡ passed → JudgesAll passed entries first script (trial_text so.judged ++ tally_line proved forms) (trial_work so.judged)
all_judged {entries} {first} {now} {script} {count = count} {refused} {proved} {forms} so none passed is = record {
  lines_text = trial_text so.judged;
  judges = record {
    judged = so.judged;
    last = now;
    trial = subst (λ l. IsTrial entries 1 first l so.judged now) (all_taken (lines_of script) count (so.behind ∙ none)) so.trial;
    told = refl;
    takes = refl;
  };
  told = ap (λ t. trial_text so.judged ++ t) (ap (λ (n : ℕ). tally_line n forms) so.shows ∙ ap (λ (n : ℕ). tally_line (proved_count so.judged) n) so.poses);
  passes = sym (ap (λ b. is_passed b proved forms) so.refuses ∙ (ap (λ (n : ℕ). is_passed (some_said_refused so.judged) n forms) so.shows ∙ ap (λ (n : ℕ). is_passed (some_said_refused so.judged) (proved_count so.judged) n) so.poses)) ∙ is;
}

-- the tally is told behind the last line
ends_tallied : {entries : List CertEntry} {first now : Planned} {script rest : List ℕ} {count : ℕ} {refused : Bool} {proved forms : ℕ} {before after : Option (List ℕ)} {old new : ℕ} → (so : Judging entries first now script rest count refused proved forms before after old new)
    → lines_of rest ≡ [] → (end : ScriptEnd) (line : List ℕ) → IsTallyTold refused proved forms end line → EndsCheck entries first script end (trial_text so.judged ++ line) (trial_work so.judged)
unfolding EndsCheck
ends_tallied {entries} {first} {script = script} so none Done line told = subst (λ (l : List ℕ). JudgesAll true entries first script (trial_text so.judged ++ l) (trial_work so.judged)) (sym told.1) (all_judged so none true told.0)
ends_tallied {entries} {first} {script = script} so none SomeRefused line told = subst (λ (l : List ℕ). JudgesAll false entries first script (trial_text so.judged ++ l) (trial_work so.judged)) (sym told.1) (all_judged so none false told.0)
ends_tallied so none TooManyLines line told = absurd told
ends_tallied {entries} {first} {script = script} so none NoMemory line told =
    (trial_work so.judged, subst (λ (t : List ℕ). JudgesSome entries first script t (trial_work so.judged)) (sym (ap (λ l. trial_text so.judged ++ l) told ∙ append-nil (trial_text so.judged))) (some_judged so))
ends_tallied {entries} {first} {script = script} {refused = refused} {proved} {forms} so none WriteFault line told =
    inr (is_passed refused proved forms, subst (λ (l : List ℕ). JudgesAll (is_passed refused proved forms) entries first script (trial_text so.judged ++ l) (trial_work so.judged)) (sym told) (all_judged so none (is_passed refused proved forms) refl))

adds_both : (cut : Bool) (before mid after : Option (List ℕ)) (told line : List ℕ) → Appends before mid told → Adds cut mid after line → Adds cut before after (told ++ line)
adds_both false before mid after told line first second = appends_both before mid after told line first second
adds_both true before mid after told line first second = front_after before mid after told line (told ++ line) refl first second

pub judging_ends : {entries : List CertEntry} {first now : Planned} {script rest : List ℕ} {count : ℕ} {refused : Bool} {proved forms : ℕ} {before mid : Option (List ℕ)} {old new : ℕ} → Judging entries first now script rest count refused proved forms before mid old new
    → lines_of rest ≡ [] → (after : Option (List ℕ)) (end : ScriptEnd) → TellsTally refused proved forms mid after end → Leaves (EndsCheck entries first script) is_cut before after old new end
judging_ends {before = before} {mid = mid} so none after end tells = record {
  text = trial_text so.judged ++ tells.text;
  work = trial_work so.judged;
  ends = ends_tallied so none end tells.text tells.told;
  adds = adds_both (is_cut end) before mid after (trial_text so.judged) tells.text so.written tells.adds;
  steps = so.steps;
  later = so.later;
}
