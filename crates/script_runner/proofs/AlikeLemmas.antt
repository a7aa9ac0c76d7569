-- A line leads to one planner, but for what takes its entries back.
use Rattle.std.proofs.Common.{◌≡◌, ℕ, List, Bool, false, ap, sym, subst, refl, ◌∙◌}
use Rattle.std.specs.Prelude.{Option, Some, None, Ok}
use Rattle.edit_undo.specs.Edits.{apply_edits}
use Rattle.edit_undo.specs.Session.{Session, active_edits}
use Rattle.edit_undo.specs.Kept.{session_of, nothing}
use Rattle.linear_table.specs.declared.Linear.{Linear}
use Rattle.plan_lines.specs.declared.change.Change.{Change}
use Rattle.plan_lines.specs.declared.command.Command.{Command}
use Rattle.plan_lines.specs.declared.command.Command.TheVariants as command
use Rattle.plan_lines.specs.declared.reply.Reply.{Reply}
use Rattle.state_changes.specs.Effects.{effect_of}
use Rattle.state_changes.specs.States.{State}
use Rattle.planner_core.specs.Lines.{Held, IsSessionOf, IsStep, IsStepIn, Planned, planned}
use Rattle.planner_core.specs.Posing.{form_asked, form_in}
use Rattle.script_runner.specs.Alike.{AreAlike}
use Rattle.script_runner.proofs.LeftLemmas.{Left, Settles, form_settled, left_by, line_leaves, line_left}
use Rattle.script_runner.proofs.SessionLemmas.{afresh}

-- the state is that of the active edits
state_same : (base : State) (r s : Planned) → IsSessionOf base r → IsSessionOf base s → session_of r.kept ≡ session_of s.kept → r.state ≡ s.state
state_same base r s one other same =
    let first = afresh base r one in
    let second = afresh base s other in
    let joined : Ok r.state ≡ Ok s.state = sym first ∙ (ap (λ (x : Session Change). apply_edits effect_of base (active_edits x)) same ∙ second) in
    cc

pub alike_self : (p : Planned) → AreAlike p p
alike_self p = record { state = refl; session = refl; batch = refl; quiet = refl }

-- equals of planners that are alike
pub alike_as : (p q r s : Planned) → r ≡ p → s ≡ q → AreAlike p q → AreAlike r s
alike_as p q r s one other alike = subst (λ (t : Planned). AreAlike t s) (sym one) (subst (λ (t : Planned). AreAlike p t) (sym other) alike)

form_of_state : (batch : Option (List Held)) (p : Planned) (asked : Command) → form_in batch p asked ≡ form_in batch (planned p.state nothing None false) asked
form_of_state None p (command.Solve table budget) = refl
form_of_state None p other = refl
form_of_state (Some held) p asked = refl

pub form_same : (p q : Planned) (asked : Command) → AreAlike p q → form_asked p asked ≡ form_asked q asked
unfolding form_asked
form_same p q asked alike =
    form_of_state p.batch p asked ∙ (ap (λ (b : Option (List Held)). form_in b (planned p.state nothing None false) asked) alike.batch
    ∙ (ap (λ (s : State). form_in q.batch (planned s nothing None false) asked) alike.state ∙ sym (form_of_state q.batch q asked)))

-- a line that has the solver settle a form leaves the planner
pub record Solves (form : Linear) (q s : Planned) (answer : Reply) : Type 0 where
  pub stays : s ≡ q
  pub budget : ℕ
  pub settles : Settles form budget answer

solves_in : (line : ℕ) (batch : Option (List Held)) (p : Planned) (asked : Command) (r : Planned) (answer : Reply) (form : Linear) → form_in batch p asked ≡ Some form → IsStepIn line batch p asked r answer → Solves form p r answer
solves_in line None p (command.Solve table budget) r answer form some step =
    record { stays = step.0; budget = budget; settles = form_settled p.state.book.game p.state.tables table budget answer form some step.1 }
solves_in line None p other r answer form some step = cc
solves_in line (Some held) p asked r answer form some step = cc

pub solves : (line : ℕ) (p : Planned) (asked : Command) (r : Planned) (answer : Reply) (form : Linear) → form_asked p asked ≡ Some form → IsStep line p asked r answer → Solves form p r answer
unfolding form_asked
solves line p asked r answer form some step = solves_in line p.batch p asked r answer form some step.does

-- what planners leave that were alike
left_alike : (line : ℕ) (p q : Planned) (asked : Command) → AreAlike p q → line_left line p.state (session_of p.kept) p.quiet asked p.batch ≡ line_left line q.state (session_of q.kept) q.quiet asked q.batch
left_alike line p q asked alike =
    ap (λ (s : State). line_left line s (session_of p.kept) p.quiet asked p.batch) alike.state
    ∙ (ap (λ (x : Session Change). line_left line q.state x p.quiet asked p.batch) alike.session
    ∙ (ap (λ (b : Bool). line_left line q.state (session_of q.kept) b asked p.batch) alike.quiet
    ∙ ap (λ (b : Option (List Held)). line_left line q.state (session_of q.kept) q.quiet asked b) alike.batch))

pub left_same : (line : ℕ) (p q : Planned) (asked : Command) (r s : Planned) (answer other : Reply) → AreAlike p q → form_asked p asked ≡ None → IsStep line p asked r answer → IsStep line q asked s other → left_by r answer ≡ left_by s other
left_same line p q asked r s answer other alike none one two =
    (line_leaves line p asked r answer none one).leaves
    ∙ (left_alike line p q asked alike ∙ sym (line_leaves line q asked s other (sym (form_same p q asked alike) ∙ none) two).leaves)

pub alike_left : (base : State) (r s : Planned) (answer other : Reply) → IsSessionOf base r → IsSessionOf base s → left_by r answer ≡ left_by s other → AreAlike r s
alike_left base r s answer other one two same = record {
  state = state_same base r s one two (ap (λ (l : Left). l.session) same);
  session = ap (λ (l : Left). l.session) same;
  batch = ap (λ (l : Left). l.batch) same;
  quiet = ap (λ (l : Left). l.quiet) same;
}

alike_at : (base : State) (line : ℕ) (p q : Planned) (asked : Command) (r s : Planned) (answer other : Reply) (o : Option Linear) → form_asked p asked ≡ o → AreAlike p q → IsSessionOf base r → IsSessionOf base s
    → IsStep line p asked r answer → IsStep line q asked s other → AreAlike r s
alike_at base line p q asked r s answer other None is alike from too one two = alike_left base r s answer other from too (left_same line p q asked r s answer other alike is one two)
alike_at base line p q asked r s answer other (Some form) is alike from too one two =
    alike_as p q r s (solves line p asked r answer form is one).stays (solves line q asked s other form (sym (form_same p q asked alike) ∙ is) two).stays alike

-- a line leads planners that are alike to planners that are, whatever is answered
pub alike_next : (base : State) (line : ℕ) (p q : Planned) (asked : Command) (r s : Planned) (answer other : Reply) → AreAlike p q → IsSessionOf base r → IsSessionOf base s
    → IsStep line p asked r answer → IsStep line q asked s other → AreAlike r s
alike_next base line p q asked r s answer other alike from too one two = alike_at base line p q asked r s answer other (form_asked p asked) refl alike from too one two
