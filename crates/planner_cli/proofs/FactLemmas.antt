-- The headline of a session and of a trial.
use Rattle.std.proofs.Common.{◌≡◌, ◌+◌, ◌∷◌, [], ℕ, false, List, ap, sym, subst, refl, ◌∙◌, inl, inr, slice_index_or, Result}
use Rattle.std.specs.Prelude.{All, Option, Some, None, Ok, Err, ◌⊎◌}
use Rattle.std.proofs.lemmas.List.Elements.{All-cons, All-nil}
use Rattle.edit_undo.specs.Edits.{apply_edits}
use Rattle.edit_undo.specs.Session.{Session, edits_of, undo_of}
use Rattle.edit_undo.specs.Kept.{session_of}
use Rattle.game_types.specs.declared.games.Game.{Game}
use Rattle.linear_table.specs.declared.Linear.{Linear}
use Rattle.linear_table.specs.declared.Plan.{Plan}
use Rattle.linear_table.proofs.Duality.{no_plan, no_plan_costs_less}
use Rattle.certificate_file.specs.declared.CertEntry.{CertEntry}
use Rattle.certificate_file.specs.declared.Claim.{Claim}
use Rattle.certificate_file.specs.declared.Claim.TheVariants as claims
use Rattle.plan_lines.specs.declared.change.Change.{Change}
use Rattle.plan_lines.specs.declared.command.Command.{Command}
use Rattle.plan_lines.specs.declared.command.Command.TheVariants as command
use Rattle.plan_lines.specs.declared.reply.RefusalCode.{RefusalCode}
use Rattle.plan_lines.specs.declared.reply.RefusalCode.TheVariants as code
use Rattle.plan_lines.specs.declared.reply.Reply.{Reply}
use Rattle.table_rows.specs.Refusals.{refused}
use Rattle.table_rows.specs.declared.refusals.TableRefusal.{TableRefusal}
use Rattle.production_table.specs.declared.tables.Table.{Table}
use Rattle.game_types.specs.Steps.{◌▸◌}
use Rattle.planner_tables.specs.Effects.{table_at, table_named}
use Rattle.planner_tables.specs.Questions.{linear_named, linear_outcome, IsSolveReply, IsSolveReplyAt, IsSolvedWhere}
use Rattle.state_changes.specs.Effects.{effect_of}
use Rattle.state_changes.specs.States.{State}
use Rattle.planner_core.specs.Replies.{refused_as}
use Rattle.planner_core.specs.Lines.{Held, IsFree, IsSessionOf, IsStep, IsStepIn, Moves, Planned, is_refused}
use Rattle.planner_core.specs.Posing.{IsPosed, IsPosedWhere, form_asked}
use Rattle.planner_core.specs.declared.posing.Posed.{Posed}
use Rattle.planner_core.specs.declared.posing.Posed.TheVariants as posed
use Rattle.script_runner.specs.Verdicts.{IsPlanVerdict, IsVerdict, claim_at}
use Rattle.script_runner.specs.declared.verdict.Verdict.{Verdict}
use Rattle.script_runner.specs.declared.verdict.Verdict.TheVariants.{ProvedPlan, ProvedInfeasible, Open, Rejected}
use Rattle.script_runner.specs.Answers.{Answered, IsAnswered, IsReply, Reading}
use Rattle.planner_cli.specs.Facts.{Asks, CheckHeadline, Headline, IsAfresh, IsShown, ProvesTruly, SolvesOrTellsWhy, TakesBack, TellsByRounds, TellsWhyNot}
use Rattle.planner_cli.proofs.RefusedLemmas.{leaves_all}
use Rattle.script_runner.specs.Plans.{TellsOfTable}
use Rattle.script_runner.specs.Sessions.{IsSession}
use Rattle.script_runner.specs.Trials.{IsJudged, IsJudgedBy, IsSaid, IsTrial, Judged}
use Rattle.script_runner.proofs.PlanLemmas.{solves_rightly}
use Rattle.script_runner.proofs.SessionLemmas.{afresh, grown}

-- ---- one line
-- what the line does where no batch is open
free : (a : Answered) (asked : Command) → IsAnswered a → Asks a asked → IsFree a.before asked a.after a.reply
free a asked is asks =
    let step : IsStep a.number a.before asked a.after a.reply = subst (λ (reading : Reading). IsReply a.number a.before reading a.after a.reply) asks.reads is.replied in
    subst (λ (batch : Option (List Held)). IsStepIn a.number batch a.before asked a.after a.reply) asks.free step.does

by_rounds : (a : Answered) → IsAnswered a → TellsByRounds a
by_rounds a is = record {
  reach = λ object asks. (free a (command.Reach object) is asks).1;
  why = λ object asks. (free a (command.Why object) is asks).1;
  missing = λ object asks. (free a (command.Missing object) is asks).1;
  mask = λ object asks. (free a (command.Mask object) is asks).1;
  list = λ kind asks. (free a (command.List kind) is asks).1;
  summary = λ asks. (free a command.Summary is asks).1;
}

-- a table with no linear form
refusal_at : (g : Game) (ts : List Table) (budget : ℕ) (r : Reply) (o : Result ℕ TableRefusal) (refusal : TableRefusal) → (o ▸ λ place. linear_outcome g (table_at ts place)) ≡ Err refusal → IsSolveReplyAt g ts budget o r → r ≡ refused g refusal None
refusal_at g ts budget r (Ok place) refusal none is = subst (λ (o : Result Linear TableRefusal). IsSolvedWhere g (table_at ts place) budget o r) none is
refusal_at g ts budget r (Err first) refusal none is = let same : first ≡ refusal = cc in is ∙ ap (λ (x : TableRefusal). refused g x None) same

solved_at : (g : Game) (ts : List Table) (budget : ℕ) (r : Reply) (o : Result ℕ TableRefusal) (l : Linear) → (o ▸ λ place. linear_outcome g (table_at ts place)) ≡ Ok l → IsSolveReplyAt g ts budget o r → is_refused r ≡ false
solved_at g ts budget r (Ok place) l some is = ap is_refused (subst (λ (o : Result Linear TableRefusal). IsSolvedWhere g (table_at ts place) budget o r) some is).reply_is
solved_at g ts budget r (Err first) l some is = cc

solves_by : (a : Answered) (table : List ℕ) (budget : ℕ) (o : Result Linear TableRefusal) → linear_named a.before.state.book.game a.before.state.tables table ≡ o → IsAnswered a → Asks a (command.Solve table budget)
    → IsSolveReply a.before.state.book.game a.before.state.tables table budget a.reply → TellsOfTable a.before.state table budget a.reply ⊎ TellsWhyNot a.before.state table a.reply
unfolding linear_named IsSolveReply
solves_by a table budget (Ok form) is answered asks solves =
    inl (solves_rightly a answered table budget asks.reads asks.free (solved_at a.before.state.book.game a.before.state.tables budget a.reply (table_named a.before.state.tables table) form is solves))
solves_by a table budget (Err refusal) is answered asks solves =
    inr (record { refusal = refusal; cause = is; told = refusal_at a.before.state.book.game a.before.state.tables budget a.reply (table_named a.before.state.tables table) refusal is solves })

solves : (a : Answered) → IsAnswered a → SolvesOrTellsWhy a
solves a is = λ table budget asks.
    solves_by a table budget (linear_named a.before.state.book.game a.before.state.tables table) refl is asks (free a (command.Solve table budget) is asks).1

moved : (entries : List (List Change)) (done : List (List Change)) (why : RefusalCode) (session : Session Change) (p r : Planned) (answer : Reply) → done ≡ entries → Moves entries why session p r answer
    → (session_of r.kept ≡ session) ⊎ ((done ≡ []) × (answer ≡ refused_as why))
moved [] done why session p r answer none is = inr (none, is.1)
moved (entry ∷ entries) done why session p r answer some is = inl is.0

takes_back : (a : Answered) → IsAnswered a → TakesBack a
takes_back a is = λ asks.
    moved (session_of a.before.kept).done (session_of a.before.kept).done code.H1 (undo_of (session_of a.before.kept)) a.before a.after a.reply refl (free a command.Undo is asks)

-- ---- all lines

same_state : (base : State) (p q : Planned) → IsAfresh base p → IsAfresh base q → (session_of p.kept).done ≡ (session_of q.kept).done → p.state ≡ q.state
same_state base p q first second done =
    let both : Ok p.state ≡ Ok q.state = sym first ∙ (ap (λ (d : List (List Change)). apply_edits effect_of base (edits_of d)) done ∙ second) in
    cc

pub headline : (base : State) (first last : Planned) (lines : List (List ℕ)) (answers : List Answered) → IsSession first lines answers last → IsSessionOf base first → Headline base answers
headline base first last lines answers session from =
    let grows = (grown base first last lines answers session from).0 in
    record {
      afresh = λ k d within. let both = grows k d within in (afresh base (slice_index_or answers k d).before both.0, afresh base (slice_index_or answers k d).after both.1);
      by_rounds = λ k d within. by_rounds (slice_index_or answers k d) (session.each k d within);
      plans = λ k d within. solves (slice_index_or answers k d) (session.each k d within);
      undo = λ k d within. takes_back (slice_index_or answers k d) (session.each k d within);
      gives_back = λ k d within i e inside.
          same_state base (slice_index_or answers k d).after (slice_index_or answers i e).before (afresh base (slice_index_or answers k d).after (grows k d within).1) (afresh base (slice_index_or answers i e).before (grows i e inside).0);
      refusals = λ k d within. leaves_all (slice_index_or answers k d) (session.each k d within);
    }

-- ---- lines that are checked
abbrev pub IsGrown : State → Judged → Type 0
IsGrown base a = IsAfresh base a.before × IsAfresh base a.after

judged_afresh : (base : State) (entries : List CertEntry) (number : ℕ) (first : Planned) (lines : List (List ℕ)) (judged : List Judged) (last : Planned) → IsTrial entries number first lines judged last → IsSessionOf base first → All (IsGrown base) judged
judged_afresh base entries number first [] [] last trial from = All-nil (IsGrown base)
judged_afresh base entries number first [] (a ∷ judged) last trial from = absurd trial
judged_afresh base entries number first (line ∷ lines) [] last trial from = absurd trial
judged_afresh base entries number first (line ∷ lines) (a ∷ judged) last trial from =
    let before = subst (IsSessionOf base) (sym trial.3) from in
    let after = trial.0.history base before in
    All-cons (IsGrown base) a judged (afresh base a.before before, afresh base a.after after) (judged_afresh base entries (number + 1) a.after lines judged last trial.4 after)

shown_plan : (form : Linear) (plan : Plan) (verdict : Verdict) → IsPlanVerdict form plan verdict → IsShown form verdict
shown_plan form plan ProvedPlan is =
    (plan, record { balances = is.0.is_plan; cost_is = sym is.0.cost_is; prices_show = is.1.0; least = λ rates other. no_plan_costs_less form plan.prices rates plan.cost is.1.0 other })
shown_plan form plan ProvedInfeasible is = absurd is
shown_plan form plan Open is = tt
shown_plan form plan (Rejected fault) is = tt

shown : (form : Linear) (claim : Option Claim) (verdict : Verdict) → IsVerdict form claim verdict → IsShown form verdict
shown form (Some (claims.Planned plan)) verdict is = shown_plan form plan verdict is
shown form (Some (claims.Infeasible prices)) ProvedInfeasible is = (prices, record { prices_show = is.0; none = λ rates. no_plan form prices rates is.0 })
shown form (Some (claims.Infeasible prices)) ProvedPlan is = absurd is
shown form (Some (claims.Infeasible prices)) Open is = tt
shown form (Some (claims.Infeasible prices)) (Rejected fault) is = tt
shown form (Some claims.Unsettled) ProvedPlan is = absurd is
shown form (Some claims.Unsettled) ProvedInfeasible is = absurd is
shown form (Some claims.Unsettled) Open is = tt
shown form (Some claims.Unsettled) (Rejected fault) is = tt
shown form None ProvedPlan is = absurd is
shown form None ProvedInfeasible is = absurd is
shown form None Open is = tt
shown form None (Rejected fault) is = tt

-- the form that is posed is the one that the line asks for
form_posed : (o : Option Linear) (line : ℕ) (p : Planned) (asked : Command) (r : Planned) (said : Posed) (form : Linear) → form_asked p asked ≡ o → IsPosedWhere o line p asked r said → said ≡ posed.Linear form → form_asked p asked ≡ Some form
form_posed (Some other) line p asked r said form is posed_is said_is = let same : other ≡ form = cc (posed_is.1, said_is) in is ∙ ap Some same
form_posed None line p asked r said form is posed_is said_is = let never : ⊥ = cc (posed_is.1, said_is) in absurd never

asked_posed : (line : ℕ) (p : Planned) (asked : Command) (r : Planned) (said : Posed) (form : Linear) → IsPosed line p asked r said → said ≡ posed.Linear form → form_asked p asked ≡ Some form
unfolding IsPosed
asked_posed line p asked r said form is said_is = form_posed (form_asked p asked) line p asked r said form refl is said_is

form_said : (number : ℕ) (before : Planned) (reading : Reading) (after : Planned) (said : Posed) (form : Linear) → IsSaid number before reading after said → said ≡ posed.Linear form
    → (asked : Command) × (reading ≡ Ok (Some asked)) × (form_asked before asked ≡ Some form)
form_said number before (Ok None) after said form is said_is = let never : ⊥ = cc (is.1, said_is) in absurd never
form_said number before (Ok (Some asked)) after said form is said_is = (asked, refl, asked_posed number before asked after said form is said_is)
form_said number before (Err fault) after said form is said_is = let never : ⊥ = cc (is.1, said_is) in absurd never

proves_form : (entries : List CertEntry) (a : Judged) → IsJudged entries a → ProvesTruly a
proves_form entries a is = λ form verdict said_is verdict_is.
    let found = form_said a.number a.before a.reading a.after a.said form is.posed said_is in
    let by : IsVerdict form (claim_at entries a.number) verdict = subst (λ (v : Option Verdict). IsJudgedBy (claim_at entries a.number) (posed.Linear form) v) verdict_is (subst (λ (s : Posed). IsJudgedBy (claim_at entries a.number) s a.verdict) said_is is.judged) in
    record { asked = found.0; reads = found.1; form_is = found.2; shown = shown form (claim_at entries a.number) verdict by }

judged_truly : (entries : List CertEntry) (number : ℕ) (first : Planned) (lines : List (List ℕ)) (judged : List Judged) (last : Planned) → IsTrial entries number first lines judged last → All ProvesTruly judged
judged_truly entries number first [] [] last trial = All-nil ProvesTruly
judged_truly entries number first [] (a ∷ judged) last trial = absurd trial
judged_truly entries number first (line ∷ lines) [] last trial = absurd trial
judged_truly entries number first (line ∷ lines) (a ∷ judged) last trial = All-cons ProvesTruly a judged (proves_form entries a trial.0) (judged_truly entries (number + 1) a.after lines judged last trial.4)

pub check_headline : (base : State) (entries : List CertEntry) (first : Planned) (lines : List (List ℕ)) (judged : List Judged) (last : Planned) → IsTrial entries 1 first lines judged last → IsSessionOf base first → CheckHeadline base judged
check_headline base entries first lines judged last trial from =
    record { afresh = judged_afresh base entries 1 first lines judged last trial from; proves = judged_truly entries 1 first lines judged last trial }
