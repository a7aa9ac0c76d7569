-- The headline, from how a run ends.
use Rattle.std.proofs.Common.{◌≡◌, ◌++◌, ◌∙◌, ℕ, Bool, true, false, List, IsTrue, ap, inl, inr, length, refl, sym, take}
use Rattle.std.specs.Prelude.{Option, Some, None, ◌⊎◌}
use Rattle.std.proofs.Math.Seq.{take-length}
use Rattle.plan_io.specs.Store.{Shelf}
use Rattle.game_types.specs.declared.games.Game.{Game}
use Rattle.linear_table.specs.declared.SolveAnswer.{SolveAnswer}
use Rattle.certificate_file.specs.declared.CertEntry.{CertEntry}
use Rattle.state_changes.specs.States.{first_state}
use Rattle.planner_core.specs.Lines.{first_planned}
use Rattle.plan_io.specs.Lines.{lines_of}
use Rattle.script_runner.specs.Certificates.{CertifiesAll, EndsProof}
use Rattle.script_runner.specs.Checks.{EndsCheck, JudgesAll, JudgesSome}
use Rattle.script_runner.specs.Leaves.{Leaves}
use Rattle.script_runner.specs.Scripts.{EndsScript, IsMeant, IsTooLong, Tells}
use Rattle.plan_io.specs.declared.ends.ScriptEnd.{ScriptEnd}
use Rattle.plan_io.specs.declared.ends.ScriptEnd.TheVariants as script
use Rattle.script_runner.specs.Trials.{form_count, proved_count, tally_line}
use Rattle.run_inputs.specs.declared.status.Status.{Status}
use Rattle.run_inputs.specs.declared.status.Status.TheVariants.{Done, SomeRefused, BadWords, BadDump, ReadFault, WriteFault, NoMemory, TooLong, BadCert}
use Rattle.run_inputs.specs.declared.status.Long.TheVariants.{DumpBytes, ScriptBytes, ScriptLines, CertBytes}
use Rattle.run_inputs.specs.Early.{is_cut}
use Rattle.run_inputs.specs.Inputs.{IsBase, IsCert, IsScript}
use Rattle.run_inputs.specs.Told.{is_answered, steps_line}
use Rattle.run_inputs.specs.Words.{Asked, Check, FileNames, Files, Prove, Run, Sample}
use Rattle.planner_cli.specs.Ending.{Answers, EndsChecked, EndsRun, in_answers, in_line, in_sample_answers, in_sample_line, in_steps, lines_told, no_sample_told, no_steps, nothing_told, sample_lines_told}
use Rattle.planner_cli.specs.Headline.{AreToldLines, ChecksOfGame, IsHeadline, IsTold, TellsNothing, TellsOfGame, TellsOfRun}
use Rattle.planner_cli.proofs.FactLemmas.{check_headline, headline}
use Rattle.planner_cli.proofs.RecheckLemmas.{first_grown}

-- all lines are so many of the first
all_first : (lines : List (List ℕ)) → (count : ℕ) × (lines ≡ take count lines)
all_first lines = (length lines, sym (take-length lines))

reported : (text told report : List ℕ) (taken : ℕ) → told ≡ report → (text ≡ told) ⊎ (text ≡ told ++ steps_line taken) → (text ≡ report) ⊎ (text ≡ report ++ steps_line taken)
reported text told report taken is (inl same) = inl (same ∙ is)
reported text told report taken is (inr more) = inr (more ∙ ap (λ (t : List ℕ). t ++ steps_line taken) is)

-- what a session tells
tells_game : (shelf : Shelf) (asked : Option Asked) (taken : ℕ) (solved : List SolveAnswer) (status : Status) (text : List ℕ) (game : Game) (bytes : List ℕ) (lines : List (List ℕ)) (replies : List ℕ) (steps : ℕ)
    → IsBase shelf asked game → IsScript shelf asked bytes → AreToldLines status bytes lines → (tells : Tells (first_planned game) lines solved replies steps) → IsTold asked taken tells.answers text → TellsOfGame shelf asked taken solved status text
tells_game shelf asked taken solved status text game bytes lines replies steps base given of_script tells told = record {
  game = game;
  base = base;
  script = bytes;
  script_is = given;
  lines = lines;
  of_script = of_script;
  answers = tells.answers;
  last = tells.last;
  session = tells.session;
  told = told;
  solves = tells.solves;
  headline = headline (first_state game) (first_planned game) tells.last lines tells.answers tells.session (first_grown game);
}

-- and what a trial does
checks_game : (shelf : Shelf) (cert : List ℕ) (names : FileNames) (status : Status) (text : List ℕ) (game : Game) (bytes : List ℕ) (entries : List CertEntry) (steps : ℕ) → IsBase shelf (Some (Files (Check cert) names)) game → IsScript shelf (Some (Files (Check cert) names)) bytes
    → IsCert shelf cert entries → AreToldLines status bytes (lines_of bytes) → (passed : Bool) → JudgesAll passed entries (first_planned game) bytes text steps → ChecksOfGame shelf (Some (Files (Check cert) names)) cert status text
checks_game shelf cert names status text game bytes entries steps base given read of_script passed all = record {
  game = game;
  base = base;
  script = bytes;
  script_is = given;
  entries = entries;
  given = read;
  lines = lines_of bytes;
  of_script = of_script;
  judged = all.judges.judged;
  last = all.judges.last;
  trial = all.judges.trial;
  told = inr (all.told ∙ ap (λ (t : List ℕ). t ++ tally_line (proved_count all.judges.judged) (form_count all.judges.judged)) all.judges.told);
  headline = check_headline (first_state game) entries (first_planned game) (lines_of bytes) all.judges.judged all.judges.last all.judges.trial (first_grown game);
}

checks_some : (shelf : Shelf) (cert : List ℕ) (names : FileNames) (status : Status) (text : List ℕ) (game : Game) (bytes : List ℕ) (entries : List CertEntry) (steps : ℕ) → IsBase shelf (Some (Files (Check cert) names)) game → IsScript shelf (Some (Files (Check cert) names)) bytes
    → IsCert shelf cert entries → (some : JudgesSome entries (first_planned game) bytes text steps) → AreToldLines status bytes (take some.count (lines_of bytes)) → ChecksOfGame shelf (Some (Files (Check cert) names)) cert status text
checks_some shelf cert names status text game bytes entries steps base given read some of_script = record {
  game = game;
  base = base;
  script = bytes;
  script_is = given;
  entries = entries;
  given = read;
  lines = take some.count (lines_of bytes);
  of_script = of_script;
  judged = some.judges.judged;
  last = some.judges.last;
  trial = some.judges.trial;
  told = inl some.judges.told;
  headline = check_headline (first_state game) entries (first_planned game) (take some.count (lines_of bytes)) some.judges.judged some.judges.last some.judges.trial (first_grown game);
}

-- ---- `run`
cut_run : (shelf : Shelf) (names : FileNames) (taken : ℕ) (solved : List SolveAnswer) (text : List ℕ) (game : Game) (bytes : List ℕ) (steps : ℕ) → IsBase shelf (Some (Files Run names)) game → IsScript shelf (Some (Files Run names)) bytes
    → IsMeant (first_planned game) bytes solved text steps → TellsNothing text ⊎ TellsOfGame shelf (Some (Files Run names)) taken solved WriteFault text
cut_run shelf names taken solved text game bytes steps base given (inl some) =
    inr (tells_game shelf (Some (Files Run names)) taken solved WriteFault text game bytes (take some.count (lines_of bytes)) text steps base given (some.count, refl) some.tells some.tells.told)
cut_run shelf names taken solved text game bytes steps base given (inr long) = inl (TooLong ScriptLines, long.told)

of_run : (shelf : Shelf) (names : FileNames) (taken : ℕ) (solved : List SolveAnswer) (status : Status) (text : List ℕ) (work : ℕ) → EndsRun shelf (Some (Files Run names)) taken solved status text work → IsHeadline shelf (Some (Files Run names)) taken solved status text
unfolding EndsRun EndsScript
of_run shelf names taken solved Done text work ends =
    let a = ends in
    tells_game shelf (Some (Files Run names)) taken solved Done text a.game a.script (lines_of a.script) text a.line_work a.base a.script_is refl a.ends.tells a.ends.tells.told
of_run shelf names taken solved SomeRefused text work ends =
    let a = ends in
    tells_game shelf (Some (Files Run names)) taken solved SomeRefused text a.game a.script (lines_of a.script) text a.line_work a.base a.script_is refl a.ends.tells a.ends.tells.told
of_run shelf names taken solved NoMemory text work (nothing_told none) = inl (NoMemory, none.told)
of_run shelf names taken solved NoMemory text work (lines_told a) =
    let some = a.ends.1 in
    inr (tells_game shelf (Some (Files Run names)) taken solved NoMemory text a.game a.script (take some.count (lines_of a.script)) text a.ends.0 a.base a.script_is (some.count, refl) some.tells some.tells.told)
of_run shelf names taken solved WriteFault text work (in_line cut) = inl (cut.early, cut.stopped.told)
of_run shelf names taken solved WriteFault text work (in_answers a) = cut_run shelf names taken solved text a.game a.script a.line_work a.base a.script_is a.ends
of_run shelf names taken solved (TooLong ScriptLines) text work ends = inl (TooLong ScriptLines, ends.ends.told)
of_run shelf names taken solved ReadFault text work ends = inl (ReadFault, ends.told)
of_run shelf names taken solved BadWords text work ends = inl (BadWords, ends.told)
of_run shelf names taken solved (BadDump fault) text work ends = inl (BadDump fault, ends.told)
of_run shelf names taken solved (BadCert fault) text work ends = inl (BadCert fault, ends.told)
of_run shelf names taken solved (TooLong DumpBytes) text work ends = inl (TooLong DumpBytes, ends.told)
of_run shelf names taken solved (TooLong ScriptBytes) text work ends = inl (TooLong ScriptBytes, ends.told)
of_run shelf names taken solved (TooLong CertBytes) text work ends = inl (TooLong CertBytes, ends.told)

-- ---- `sample`
sample_all : (shelf : Shelf) (number size taken : ℕ) (solved : List SolveAnswer) (status : Status) (text : List ℕ) (end : ScriptEnd) (told : List ℕ) (work : ℕ) → ((bytes : List ℕ) → AreToldLines status bytes (lines_of bytes)) → IsTrue (is_answered end)
    → Answers shelf (Some (Sample number size)) solved end told work → (text ≡ told) ⊎ (text ≡ told ++ steps_line taken) → TellsOfGame shelf (Some (Sample number size)) taken solved status text
unfolding EndsScript
sample_all shelf number size taken solved status text script.Done told work of_script answered a whole =
    tells_game shelf (Some (Sample number size)) taken solved status text a.game a.script (lines_of a.script) told a.line_work a.base a.script_is (of_script a.script) a.ends.tells (reported text told _ taken a.ends.tells.told whole)
sample_all shelf number size taken solved status text script.SomeRefused told work of_script answered a whole =
    tells_game shelf (Some (Sample number size)) taken solved status text a.game a.script (lines_of a.script) told a.line_work a.base a.script_is (of_script a.script) a.ends.tells (reported text told _ taken a.ends.tells.told whole)
sample_all shelf number size taken solved status text script.TooManyLines told work of_script answered a whole = let never : ⊥ = cc (answered) in absurd never
sample_all shelf number size taken solved status text script.WriteFault told work of_script answered a whole = let never : ⊥ = cc (answered) in absurd never
sample_all shelf number size taken solved status text script.NoMemory told work of_script answered a whole = let never : ⊥ = cc (answered) in absurd never

cut_sample : (shelf : Shelf) (number size taken : ℕ) (solved : List SolveAnswer) (text : List ℕ) (game : Game) (bytes : List ℕ) (steps : ℕ) → IsBase shelf (Some (Sample number size)) game → IsScript shelf (Some (Sample number size)) bytes
    → IsMeant (first_planned game) bytes solved text steps → TellsNothing text ⊎ TellsOfGame shelf (Some (Sample number size)) taken solved WriteFault text
cut_sample shelf number size taken solved text game bytes steps base given (inl some) =
    inr (tells_game shelf (Some (Sample number size)) taken solved WriteFault text game bytes (take some.count (lines_of bytes)) text steps base given (some.count, refl) some.tells (inl some.tells.told))
cut_sample shelf number size taken solved text game bytes steps base given (inr long) = inl (TooLong ScriptLines, long.told)

of_sample : (shelf : Shelf) (number size taken : ℕ) (solved : List SolveAnswer) (status : Status) (text : List ℕ) (work : ℕ) → EndsRun shelf (Some (Sample number size)) taken solved status text work → IsHeadline shelf (Some (Sample number size)) taken solved status text
unfolding EndsRun EndsScript
of_sample shelf number size taken solved Done text work ends = sample_all shelf number size taken solved Done text script.Done ends.told work (λ bytes. refl) refl ends.answers (inr ends.whole)
of_sample shelf number size taken solved SomeRefused text work ends = sample_all shelf number size taken solved SomeRefused text script.SomeRefused ends.told work (λ bytes. refl) refl ends.answers (inr ends.whole)
of_sample shelf number size taken solved NoMemory text work (no_sample_told none) = inl (NoMemory, none.told)
of_sample shelf number size taken solved NoMemory text work (sample_lines_told a) =
    let some = a.ends.1 in
    inr (tells_game shelf (Some (Sample number size)) taken solved NoMemory text a.game a.script (take some.count (lines_of a.script)) text a.ends.0 a.base a.script_is (some.count, refl) some.tells (inl some.tells.told))
of_sample shelf number size taken solved NoMemory text work (no_steps end answered a) = inr (sample_all shelf number size taken solved NoMemory text end text work (λ bytes. all_first (lines_of bytes)) answered a (inl refl))
of_sample shelf number size taken solved WriteFault text work (in_sample_line cut) = inl (cut.early, cut.stopped.told)
of_sample shelf number size taken solved WriteFault text work (in_sample_answers a) = cut_sample shelf number size taken solved text a.game a.script a.line_work a.base a.script_is a.ends
of_sample shelf number size taken solved WriteFault text work (in_steps end answered all) =
    inr (sample_all shelf number size taken solved WriteFault text end all.told work (λ bytes. all_first (lines_of bytes)) answered all.answers (inr all.whole))
of_sample shelf number size taken solved (TooLong ScriptLines) text work ends = inl (TooLong ScriptLines, ends.ends.told)
of_sample shelf number size taken solved ReadFault text work ends = inl (ReadFault, ends.told)
of_sample shelf number size taken solved BadWords text work ends = inl (BadWords, ends.told)
of_sample shelf number size taken solved (BadDump fault) text work ends = inl (BadDump fault, ends.told)
of_sample shelf number size taken solved (BadCert fault) text work ends = inl (BadCert fault, ends.told)
of_sample shelf number size taken solved (TooLong DumpBytes) text work ends = inl (TooLong DumpBytes, ends.told)
of_sample shelf number size taken solved (TooLong ScriptBytes) text work ends = inl (TooLong ScriptBytes, ends.told)
of_sample shelf number size taken solved (TooLong CertBytes) text work ends = inl (TooLong CertBytes, ends.told)

-- ---- `prove`
cut_proof : (shelf : Shelf) (names : FileNames) (taken : ℕ) (solved : List SolveAnswer) (text : List ℕ) (game : Game) (bytes : List ℕ) (steps : ℕ) → IsBase shelf (Some (Files Prove names)) game → IsScript shelf (Some (Files Prove names)) bytes
    → ((refused : Bool) × CertifiesAll refused (first_planned game) bytes solved text steps) ⊎ IsTooLong bytes solved text steps → TellsNothing text ⊎ TellsOfGame shelf (Some (Files Prove names)) taken solved WriteFault text
cut_proof shelf names taken solved text game bytes steps base given (inl (refused, all)) =
    inr (tells_game shelf (Some (Files Prove names)) taken solved WriteFault text game bytes (lines_of bytes) all.replies steps base given (all_first (lines_of bytes)) all.tells.tells all.told)
cut_proof shelf names taken solved text game bytes steps base given (inr long) = inl (TooLong ScriptLines, long.told)

of_proof : (shelf : Shelf) (names : FileNames) (taken : ℕ) (solved : List SolveAnswer) (status : Status) (text : List ℕ) (work : ℕ) → EndsRun shelf (Some (Files Prove names)) taken solved status text work → IsHeadline shelf (Some (Files Prove names)) taken solved status text
unfolding EndsRun EndsProof
of_proof shelf names taken solved Done text work ends =
    let a = ends in
    tells_game shelf (Some (Files Prove names)) taken solved Done text a.game a.script (lines_of a.script) a.ends.replies a.line_work a.base a.script_is refl a.ends.tells.tells a.ends.told
of_proof shelf names taken solved SomeRefused text work ends =
    let a = ends in
    tells_game shelf (Some (Files Prove names)) taken solved SomeRefused text a.game a.script (lines_of a.script) a.ends.replies a.line_work a.base a.script_is refl a.ends.tells.tells a.ends.told
of_proof shelf names taken solved NoMemory text work (nothing_told none) = inl (NoMemory, none.told)
of_proof shelf names taken solved NoMemory text work (lines_told a) = inl (NoMemory, a.ends.told)
of_proof shelf names taken solved WriteFault text work (in_line cut) = inl (cut.early, cut.stopped.told)
of_proof shelf names taken solved WriteFault text work (in_answers a) = cut_proof shelf names taken solved text a.game a.script a.line_work a.base a.script_is a.ends
of_proof shelf names taken solved (TooLong ScriptLines) text work ends = inl (TooLong ScriptLines, ends.ends.told)
of_proof shelf names taken solved ReadFault text work ends = inl (ReadFault, ends.told)
of_proof shelf names taken solved BadWords text work ends = inl (BadWords, ends.told)
of_proof shelf names taken solved (BadDump fault) text work ends = inl (BadDump fault, ends.told)
of_proof shelf names taken solved (BadCert fault) text work ends = inl (BadCert fault, ends.told)
of_proof shelf names taken solved (TooLong DumpBytes) text work ends = inl (TooLong DumpBytes, ends.told)
of_proof shelf names taken solved (TooLong ScriptBytes) text work ends = inl (TooLong ScriptBytes, ends.told)
of_proof shelf names taken solved (TooLong CertBytes) text work ends = inl (TooLong CertBytes, ends.told)

-- ---- `check`
cut_lines : (shelf : Shelf) (cert : List ℕ) (names : FileNames) (text : List ℕ) (game : Game) (bytes : List ℕ) (steps : ℕ) (entries : List CertEntry) → IsBase shelf (Some (Files (Check cert) names)) game → IsScript shelf (Some (Files (Check cert) names)) bytes
    → IsCert shelf cert entries → JudgesSome entries (first_planned game) bytes text steps ⊎ ((passed : Bool) × JudgesAll passed entries (first_planned game) bytes text steps) → ChecksOfGame shelf (Some (Files (Check cert) names)) cert WriteFault text
cut_lines shelf cert names text game bytes steps entries base given read (inl some) = checks_some shelf cert names WriteFault text game bytes entries steps base given read some (some.count, refl)
cut_lines shelf cert names text game bytes steps entries base given read (inr (passed, all)) = checks_game shelf cert names WriteFault text game bytes entries steps base given read (all_first (lines_of bytes)) passed all

cut_check : (shelf : Shelf) (cert : List ℕ) (names : FileNames) (taken : ℕ) (solved : List SolveAnswer) (text : List ℕ) (game : Game) (bytes : List ℕ) (steps : ℕ) → IsBase shelf (Some (Files (Check cert) names)) game
    → IsScript shelf (Some (Files (Check cert) names)) bytes → EndsChecked shelf cert (first_planned game) bytes solved script.WriteFault text steps → TellsNothing text ⊎ ChecksOfGame shelf (Some (Files (Check cert) names)) cert WriteFault text
unfolding EndsCheck
cut_check shelf cert names taken solved text game bytes steps base given (inl checks) = inr (cut_lines shelf cert names text game bytes steps checks.entries base given checks.given checks.ends)
cut_check shelf cert names taken solved text game bytes steps base given (inr long) = inl (TooLong ScriptLines, long.told)

of_check : (shelf : Shelf) (cert : List ℕ) (names : FileNames) (taken : ℕ) (solved : List SolveAnswer) (status : Status) (text : List ℕ) (work : ℕ) → EndsRun shelf (Some (Files (Check cert) names)) taken solved status text work
    → IsHeadline shelf (Some (Files (Check cert) names)) taken solved status text
unfolding EndsRun EndsCheck
of_check shelf cert names taken solved Done text work ends =
    let a = ends in
    checks_game shelf cert names Done text a.game a.script a.ends.entries a.line_work a.base a.script_is a.ends.given refl true a.ends.ends
of_check shelf cert names taken solved SomeRefused text work ends =
    let a = ends in
    checks_game shelf cert names SomeRefused text a.game a.script a.ends.entries a.line_work a.base a.script_is a.ends.given refl false a.ends.ends
of_check shelf cert names taken solved NoMemory text work (nothing_told none) = inl (NoMemory, none.told)
of_check shelf cert names taken solved NoMemory text work (lines_told a) =
    let some = a.ends.ends.1 in
    inr (checks_some shelf cert names NoMemory text a.game a.script a.ends.entries a.ends.ends.0 a.base a.script_is a.ends.given some (some.count, refl))
of_check shelf cert names taken solved WriteFault text work (in_line cut) = inl (cut.early, cut.stopped.told)
of_check shelf cert names taken solved WriteFault text work (in_answers a) = cut_check shelf cert names taken solved text a.game a.script a.line_work a.base a.script_is a.ends
of_check shelf cert names taken solved (TooLong ScriptLines) text work ends = inl (TooLong ScriptLines, ends.ends.told)
of_check shelf cert names taken solved ReadFault text work ends = inl (ReadFault, ends.told)
of_check shelf cert names taken solved BadWords text work ends = inl (BadWords, ends.told)
of_check shelf cert names taken solved (BadDump fault) text work ends = inl (BadDump fault, ends.told)
of_check shelf cert names taken solved (BadCert fault) text work ends = inl (BadCert fault, ends.told)
of_check shelf cert names taken solved (TooLong DumpBytes) text work ends = inl (TooLong DumpBytes, ends.told)
of_check shelf cert names taken solved (TooLong ScriptBytes) text work ends = inl (TooLong ScriptBytes, ends.told)
of_check shelf cert names taken solved (TooLong CertBytes) text work ends = inl (TooLong CertBytes, ends.told)

-- ---- words that ask for nothing
of_none : (shelf : Shelf) (taken : ℕ) (solved : List SolveAnswer) (status : Status) (text : List ℕ) (work : ℕ) → EndsRun shelf None taken solved status text work → IsHeadline shelf None taken solved status text
unfolding EndsRun
of_none shelf taken solved Done text work ends = absurd ends.script_is
of_none shelf taken solved SomeRefused text work ends = absurd ends.script_is
of_none shelf taken solved NoMemory text work (nothing_told none) = inl (NoMemory, none.told)
of_none shelf taken solved NoMemory text work (lines_told a) = absurd a.script_is
of_none shelf taken solved WriteFault text work (in_line cut) = inl (cut.early, cut.stopped.told)
of_none shelf taken solved WriteFault text work (in_answers a) = absurd a.script_is
of_none shelf taken solved (TooLong ScriptLines) text work ends = absurd ends.script_is
of_none shelf taken solved ReadFault text work ends = inl (ReadFault, ends.told)
of_none shelf taken solved BadWords text work ends = inl (BadWords, ends.told)
of_none shelf taken solved (BadDump fault) text work ends = inl (BadDump fault, ends.told)
of_none shelf taken solved (BadCert fault) text work ends = inl (BadCert fault, ends.told)
of_none shelf taken solved (TooLong DumpBytes) text work ends = inl (TooLong DumpBytes, ends.told)
of_none shelf taken solved (TooLong ScriptBytes) text work ends = inl (TooLong ScriptBytes, ends.told)
of_none shelf taken solved (TooLong CertBytes) text work ends = inl (TooLong CertBytes, ends.told)

headline_of : (shelf : Shelf) (asked : Option Asked) (taken : ℕ) (solved : List SolveAnswer) (status : Status) (text : List ℕ) (work : ℕ) → EndsRun shelf asked taken solved status text work → IsHeadline shelf asked taken solved status text
headline_of shelf None taken solved status text work ends = of_none shelf taken solved status text work ends
headline_of shelf (Some (Sample number size)) taken solved status text work ends = of_sample shelf number size taken solved status text work ends
headline_of shelf (Some (Files Run names)) taken solved status text work ends = of_run shelf names taken solved status text work ends
headline_of shelf (Some (Files Prove names)) taken solved status text work ends = of_proof shelf names taken solved status text work ends
headline_of shelf (Some (Files (Check cert) names)) taken solved status text work ends = of_check shelf cert names taken solved status text work ends

-- what a run leaves, with the headline
pub with_headline : (shelf : Shelf) (asked : Option Asked) (taken : ℕ) (solved : List SolveAnswer) (before after : Option (List ℕ)) (old new : ℕ) (status : Status) → Leaves (EndsRun shelf asked taken solved) is_cut before after old new status
    → Leaves (TellsOfRun shelf asked taken solved) is_cut before after old new status
with_headline shelf asked taken solved before after old new status leaves = record {
  text = leaves.text;
  work = leaves.work;
  ends = record { headline = headline_of shelf asked taken solved status leaves.text leaves.work leaves.ends; ends = leaves.ends };
  adds = leaves.adds;
  steps = leaves.steps;
  later = leaves.later;
}
