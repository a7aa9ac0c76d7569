-- What a player is told, from how a run ends.
use Rattle.std.proofs.Common.{◌≡◌, ◌≢◌, ℕ, List, inl, inr, refl, subst}
use Rattle.std.specs.Prelude.{Option, Some, None, ◌⊎◌}
use Rattle.std.specs.Io.KnownBytes.{Appends}
use Rattle.plan_io.specs.Store.{Shelf}
use Rattle.linear_table.specs.declared.SolveAnswer.{SolveAnswer}
use Rattle.planner_core.specs.Lines.{first_planned}
use Rattle.script_runner.specs.Leaves.{Leaves}
use Rattle.plan_io.specs.Lines.{lines_of}
use Rattle.script_runner.specs.Sessions.{IsSession}
use Rattle.plan_io.specs.Writing.{Adds}
use Rattle.run_inputs.specs.Words.{Asked, Check, FileNames, Files, Prove, Run, Sample}
use Rattle.run_inputs.specs.Early.{is_cut}
use Rattle.run_inputs.specs.declared.status.Status.{Status}
use Rattle.run_inputs.specs.declared.status.Status.TheVariants.{Done, SomeRefused}
use Rattle.planner_cli.specs.Headline.{IsHeadline, TellsOfGame, TellsOfRun}
use Rattle.planner_cli.specs.Player.{IsAnsweredRun, TellsPlayer}

of_game : (shelf : Shelf) (asked : Option Asked) (taken : ℕ) (solved : List SolveAnswer) (status : Status) (before after : Option (List ℕ)) (text : List ℕ) → (g : TellsOfGame shelf asked taken solved status text) → g.lines ≡ lines_of g.script
    → Appends before after text → TellsPlayer shelf asked before after
of_game shelf asked taken solved status before after text g all written = record {
  game = g.game;
  base = g.base;
  script = g.script;
  script_is = g.script_is;
  answers = g.answers;
  last = g.last;
  session = subst (λ (lines : List (List ℕ)). IsSession (first_planned g.game) lines g.answers g.last) all g.session;
  taken = taken;
  text = text;
  told = g.told;
  written = written;
  afresh = g.headline.afresh;
  by_rounds = g.headline.by_rounds;
  plans = g.headline.plans;
  undo = g.headline.undo;
  gives_back = g.headline.gives_back;
  refusals = g.headline.refusals;
}

done : (shelf : Shelf) (asked : Option Asked) (taken : ℕ) (solved : List SolveAnswer) (before after : Option (List ℕ)) (text : List ℕ) → ((cert : List ℕ) (names : FileNames) → asked ≢ Some (Files (Check cert) names))
    → IsHeadline shelf asked taken solved Done text → Appends before after text → TellsPlayer shelf asked before after
done shelf None taken solved before after text no_check told written = of_game shelf None taken solved Done before after text told told.of_script written
done shelf (Some (Sample number size)) taken solved before after text no_check told written = of_game shelf (Some (Sample number size)) taken solved Done before after text told told.of_script written
done shelf (Some (Files Run names)) taken solved before after text no_check told written = of_game shelf (Some (Files Run names)) taken solved Done before after text told told.of_script written
done shelf (Some (Files Prove names)) taken solved before after text no_check told written = of_game shelf (Some (Files Prove names)) taken solved Done before after text told told.of_script written
done shelf (Some (Files (Check cert) names)) taken solved before after text no_check told written = absurd (no_check cert names refl)

some_refused : (shelf : Shelf) (asked : Option Asked) (taken : ℕ) (solved : List SolveAnswer) (before after : Option (List ℕ)) (text : List ℕ) → ((cert : List ℕ) (names : FileNames) → asked ≢ Some (Files (Check cert) names))
    → IsHeadline shelf asked taken solved SomeRefused text → Appends before after text → TellsPlayer shelf asked before after
some_refused shelf None taken solved before after text no_check told written = of_game shelf None taken solved SomeRefused before after text told told.of_script written
some_refused shelf (Some (Sample number size)) taken solved before after text no_check told written = of_game shelf (Some (Sample number size)) taken solved SomeRefused before after text told told.of_script written
some_refused shelf (Some (Files Run names)) taken solved before after text no_check told written = of_game shelf (Some (Files Run names)) taken solved SomeRefused before after text told told.of_script written
some_refused shelf (Some (Files Prove names)) taken solved before after text no_check told written = of_game shelf (Some (Files Prove names)) taken solved SomeRefused before after text told told.of_script written
some_refused shelf (Some (Files (Check cert) names)) taken solved before after text no_check told written = absurd (no_check cert names refl)

by_status : (shelf : Shelf) (asked : Option Asked) (taken : ℕ) (solved : List SolveAnswer) (before after : Option (List ℕ)) (text : List ℕ) (status : Status) → ((cert : List ℕ) (names : FileNames) → asked ≢ Some (Files (Check cert) names))
    → (status ≡ Done) ⊎ (status ≡ SomeRefused) → IsHeadline shelf asked taken solved status text → Adds (is_cut status) before after text → TellsPlayer shelf asked before after
by_status shelf asked taken solved before after text status no_check (inl is) told adds =
    done shelf asked taken solved before after text no_check (subst (λ (s : Status). IsHeadline shelf asked taken solved s text) is told) (subst (λ (s : Status). Adds (is_cut s) before after text) is adds)
by_status shelf asked taken solved before after text status no_check (inr is) told adds =
    some_refused shelf asked taken solved before after text no_check (subst (λ (s : Status). IsHeadline shelf asked taken solved s text) is told) (subst (λ (s : Status). Adds (is_cut s) before after text) is adds)

-- what a run leaves tells a player what it should
pub tells_player : (shelf : Shelf) (asked : Option Asked) (taken : ℕ) (solved : List SolveAnswer) (before after : Option (List ℕ)) (old new : ℕ) (status : Status) → Leaves (TellsOfRun shelf asked taken solved) is_cut before after old new status
    → IsAnsweredRun asked status → TellsPlayer shelf asked before after
tells_player shelf asked taken solved before after old new status leaves answered =
    by_status shelf asked taken solved before after leaves.text status answered.no_check answered.all leaves.ends.headline leaves.adds
