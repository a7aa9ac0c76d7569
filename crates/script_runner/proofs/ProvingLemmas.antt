-- What is so while the lines of a script are answered for their certificate.
use Rattle.std.proofs.Common.{◌≡◌, ◌<◌, ◌≤◌, ◌+◌, ◌++◌, ◌∷◌, [], ℕ, List, length, arith, ap, sym, subst, refl, inl, inr, Bool, true, false, ◌∙◌, append_assoc}
use Rattle.std.specs.Prelude.{Option, Some, None, Result, Ok, Err, OnErr, ◌||◌, codes, option_map, option_to_list}
use Rattle.std.specs.List.{cons_option}
use Rattle.std.specs.Io.KnownBytes.{Appends}
use Rattle.std.proofs.lemmas.List.Elements.{filter_map-append}
use Rattle.std.proofs.Math.Seq.{take-length}
use Rattle.linear_table.specs.declared.SolveAnswer.{SolveAnswer}
use Rattle.serde_json.specs.Written.{compact_text}
use Rattle.planner_core.specs.Lines.{Planned}
use Rattle.certificate_file.specs.Said.{HaveLines, IsCertificate}
use Rattle.certificate_file.specs.Tree.{certificate_tree}
use Rattle.certificate_file.specs.declared.CertEntry.{CertEntry}
use Rattle.script_runner.specs.Answers.{Answered, AnswersLine, solved_in}
use Rattle.script_runner.specs.Certificates.{CertifiesAll, EndsProof, IsEntered, IsEnteredInPart, end_of, entries_of, entry_for, entry_of}
use Rattle.script_runner.specs.Leaves.{Leaves}
use Rattle.plan_io.specs.Lines.{lines_of}
use Rattle.script_runner.specs.Scripts.{is_cut}
use Rattle.script_runner.specs.Sessions.{IsSession, report, work}
use Rattle.script_runner.specs.TrialLines.{TellsMany}
use Rattle.plan_io.specs.Writing.{Adds, AppendsFront}
use Rattle.plan_io.specs.declared.ends.ScriptEnd.{ScriptEnd}
use Rattle.plan_io.specs.declared.ends.ScriptEnd.TheVariants.{Done, SomeRefused, TooManyLines, WriteFault, NoMemory}
use Rattle.script_runner.proofs.CertificateLemmas.{have_lines, newline_says}
use Rattle.script_runner.proofs.SoFarLemmas.{SoFar, all_taken, line_left, next_answers, so_far_first, so_far_next}
use Rattle.plan_io.proofs.WritingLemmas.{appends_none, front_after}

one_kept : {X : Type 0} (o : Option X) → cons_option o [] ≡ option_to_list o
one_kept None = refl
one_kept (Some x) = refl

entries_more : (answers : List Answered) (a : Answered) → entries_of (answers ++ a ∷ []) ≡ entries_of answers ++ option_to_list (entry_of a)
entries_more answers a = filter_map-append entry_of answers (a ∷ []) ∙ ap (λ l. entries_of answers ++ l) (one_kept (entry_of a))

-- so many of the first lines are answered and entered; what would be written of them isn't
pub record Proving (first now : Planned) (script rest : List ℕ) (count : ℕ) (refused : Bool) (found : List SolveAnswer) (entries : List CertEntry) (old new : ℕ) : Type 0 where
  pub so_far : SoFar first now script rest count refused found None None old new
  pub entered : entries ≡ entries_of so_far.answers

pub proving_first : (first : Planned) (script : List ℕ) (found : List SolveAnswer) (entries : List CertEntry) (steps : ℕ) → found ≡ [] → entries ≡ [] → Proving first first script script 0 false found entries steps steps
unfolding so_far_first
proving_first first script found entries steps none empty = record { so_far = so_far_first first script found None steps none; entered = empty }

pub proving_next : {first now : Planned} {script rest : List ℕ} {count : ℕ} {refused : Bool} {found : List SolveAnswer} {entries : List CertEntry} {old new : ℕ} → Proving first now script rest count refused found entries old new
    → (line more : List ℕ) (next : Planned) (text : List ℕ) (refuses : Bool) (solved : Option SolveAnswer) (newer : ℕ) → lines_of rest ≡ line ∷ lines_of more → AnswersLine (count + 1) line now next text refuses solved new newer → new ≤ newer
    → (later_found : List SolveAnswer) → later_found ≡ found ++ option_to_list solved → (later_entries : List CertEntry) → later_entries ≡ entries ++ option_to_list (option_map (entry_for (count + 1)) solved)
    → Proving first next script more (count + 1) (refused || refuses) later_found later_entries old newer
proving_next {count = count} {entries = entries} so line more next text refuses solved newer is told later later_found grows later_entries enters =
    let a = told.answer in
    let entry : option_map (entry_for (count + 1)) solved ≡ entry_of a =
    ap (λ (o : Option SolveAnswer). option_map (entry_for (count + 1)) o) told.solves ∙ ap (λ (n : ℕ). option_map (entry_for n) (solved_in a.reply)) (sym told.of_number) in
    record {
      so_far = so_far_next so.so_far line more next text refuses solved None newer is told later tt later_found grows;
      entered = enters ∙ (ap (λ l. l ++ option_to_list (option_map (entry_for (count + 1)) solved)) so.entered
          ∙ (ap (λ (o : Option CertEntry). entries_of so.so_far.answers ++ option_to_list o) entry
          ∙ (sym (entries_more so.so_far.answers a) ∙ ap entries_of (sym (next_answers so.so_far line more next text refuses solved None newer is told later tt later_found grows)))));
    }

-- fewer lines than all are answered where one is left
pub proving_left : {first now : Planned} {script rest : List ℕ} {count : ℕ} {refused : Bool} {found : List SolveAnswer} {entries : List CertEntry} {old new : ℕ} → Proving first now script rest count refused found entries old new
    → (line more : List ℕ) → lines_of rest ≡ line ∷ lines_of more → count < length (lines_of script)
proving_left so line more is = line_left so.so_far line more is

pub proving_part : {first now : Planned} {script rest : List ℕ} {count : ℕ} {refused : Bool} {found : List SolveAnswer} {entries : List CertEntry} {old new : ℕ} → Proving first now script rest count refused found entries old new
    → length (lines_of script) ≤ 100_000 → (kept : List SolveAnswer) → kept ≡ found → IsEnteredInPart first script kept
proving_part {now = now} {count = count} so few kept same = (
  report so.so_far.answers,
  work so.so_far.answers,
  record { few = few; count = count; tells = record { answers = so.so_far.answers; last = now; session = so.so_far.session; told = refl; solves = same ∙ so.so_far.solves; takes = refl } },
)

pub proving_all : {first now : Planned} {script rest : List ℕ} {count : ℕ} {refused : Bool} {found : List SolveAnswer} {entries : List CertEntry} {old new : ℕ} → Proving first now script rest count refused found entries old new
    → length (lines_of script) ≤ 100_000 → lines_of rest ≡ [] → IsEntered refused first script found entries old new
proving_all {first} {now} {script} {count = count} so few none = record {
  replies = report so.so_far.answers;
  steps = work so.so_far.answers;
  tells = record {
    few = few;
    tells = record {
      answers = so.so_far.answers;
      last = now;
      session = subst (λ l. IsSession first l so.so_far.answers now) (all_taken (lines_of script) count (so.so_far.behind ∙ none)) so.so_far.session;
      told = refl;
      solves = so.so_far.solves;
      takes = refl;
    };
    refuses = sym so.so_far.refuses;
  };
  entered = so.entered;
  taken = so.so_far.steps;
}

-- ---- the endings
ends_certified : (first : Planned) (script : List ℕ) (solved : List SolveAnswer) (refused : Bool) (text : List ℕ) (steps : ℕ) → CertifiesAll refused first script solved text steps → EndsProof first script solved (end_of refused) text steps
unfolding EndsProof
ends_certified first script solved true text steps certifies = certifies
ends_certified first script solved false text steps certifies = certifies

not_cut : (refused : Bool) → is_cut (end_of refused) ≡ false
not_cut true = refl
not_cut false = refl

certified : (first : Planned) (script : List ℕ) (solved : List SolveAnswer) (refused : Bool) (entries : List CertEntry) (text : List ℕ) (old new : ℕ) → (entered : IsEntered refused first script solved entries old new) → text ≡ compact_text (certificate_tree entries)
    → (HaveLines entries → IsCertificate text entries) → CertifiesAll refused first script solved (text ++ codes "\n") entered.steps
certified first script solved refused entries text old new entered is said = record {
  replies = entered.replies;
  tells = entered.tells;
  told = ap (λ t. t ++ codes "\n") (is ∙ ap (λ (es : List CertEntry). compact_text (certificate_tree es)) entered.entered);
  says =
      let answered = entered.tells.tells in
      let lines = have_lines first (lines_of script) answered.answers answered.last entered.tells.few answered.session in
      newline_says text (entries_of answered.answers) (subst (λ (es : List CertEntry). IsCertificate text es) entered.entered (said (subst (λ (es : List CertEntry). HaveLines es) (sym entered.entered) lines)));
}

pub proof_told : (first : Planned) (script : List ℕ) (solved : List SolveAnswer) (refused : Bool) (entries : List CertEntry) (text : List ℕ) (before after : Option (List ℕ)) (old new : ℕ) → IsEntered refused first script solved entries old new
    → text ≡ compact_text (certificate_tree entries) → (HaveLines entries → IsCertificate text entries) → old ≤ new → Appends before after (text ++ codes "\n") → Leaves (EndsProof first script solved) is_cut before after old new (end_of refused)
proof_told first script solved refused entries text before after old new entered is said later adds = record {
  text = text ++ codes "\n";
  work = entered.steps;
  ends = ends_certified first script solved refused (text ++ codes "\n") entered.steps (certified first script solved refused entries text old new entered is said);
  adds = subst (λ (b : Bool). Adds b before after (text ++ codes "\n")) (sym (not_cut refused)) adds;
  steps = entered.taken;
  later = later;
}

pub proof_cut : (first : Planned) (script : List ℕ) (solved : List SolveAnswer) (refused : Bool) (entries : List CertEntry) (text : List ℕ) (before after : Option (List ℕ)) (old new : ℕ) → IsEntered refused first script solved entries old new
    → text ≡ compact_text (certificate_tree entries) → (HaveLines entries → IsCertificate text entries) → old ≤ new → AppendsFront before after (text ++ codes "\n") → Leaves (EndsProof first script solved) is_cut before after old new WriteFault
unfolding EndsProof
proof_cut first script solved refused entries text before after old new entered is said later front = record {
  text = text ++ codes "\n";
  work = entered.steps;
  ends = inl (refused, certified first script solved refused entries text old new entered is said);
  adds = front;
  steps = entered.taken;
  later = later;
}

pub proof_wants : (first : Planned) (script : List ℕ) (solved : List SolveAnswer) (known : Option (List ℕ)) (old new : ℕ) → IsEnteredInPart first script solved → old ≤ new → Leaves (EndsProof first script solved) is_cut known known old new NoMemory
unfolding EndsProof
proof_wants first script solved known old new part later = record {
  text = [];
  work = new;
  ends = record { replies = part.0; steps = part.1; tells = part.2; told = refl };
  adds = appends_none known;
  steps = omega arith;
  later = later;
}

-- want of memory behind the last line
pub entered_part : (first : Planned) (script : List ℕ) (solved : List SolveAnswer) (refused : Bool) (entries : List CertEntry) (old new : ℕ) → IsEntered refused first script solved entries old new → IsEnteredInPart first script solved
entered_part first script solved refused entries old new entered =
    let all = entered.tells.tells in (
      entered.replies,
      entered.steps,
      record {
        few = entered.tells.few;
        count = length (lines_of script);
        tells = record { answers = all.answers; last = all.last; session = subst (λ l. IsSession first l all.answers all.last) (sym (take-length (lines_of script))) all.session; told = all.told; solves = all.solves; takes = all.takes };
      },
    )

-- a script of too many lines
pub proof_many : (first : Planned) (script : List ℕ) (solved : List SolveAnswer) (before after : Option (List ℕ)) (steps : ℕ) (end : ScriptEnd) → solved ≡ [] → 100_000 < length (lines_of script) → TellsMany before after end
    → Leaves (EndsProof first script solved) is_cut before after steps steps end
unfolding EndsProof
proof_many first script solved before after steps TooManyLines none many told =
    record { text = codes "too long script lines\n"; work = 0; ends = record { many = many; none = none; told = refl; takes = refl }; adds = told; steps = omega arith; later = omega arith }
proof_many first script solved before after steps WriteFault none many told =
    record { text = codes "too long script lines\n"; work = 0; ends = inr (record { many = many; none = none; told = refl; takes = refl }); adds = told; steps = omega arith; later = omega arith }
proof_many first script solved before after steps Done none many told = absurd told
proof_many first script solved before after steps SomeRefused none many told = absurd told
proof_many first script solved before after steps NoMemory none many told = absurd told

-- ---- a text and a newline
pub front_more : (a b : Option (List ℕ)) (xs ys : List ℕ) → AppendsFront a b xs → AppendsFront a b (xs ++ ys)
front_more a b xs ys (front, rest, is, adds) = (front, rest ++ ys, sym (append_assoc front rest ys) ∙ ap (λ t. t ++ ys) is, adds)

pub front_behind : {T E : Type 0} (r : Result T E) (a b c : Option (List ℕ)) (xs ys : List ℕ) → Appends a b xs → OnErr r (AppendsFront b c ys) → OnErr r (AppendsFront a c (xs ++ ys))
front_behind (Ok x) a b c xs ys first second = tt
front_behind (Err e) a b c xs ys first second = front_after a b c xs ys (xs ++ ys) refl first second
