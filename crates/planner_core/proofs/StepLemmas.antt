-- Steps of a planner, with a batch and without.
use Rattle.std.proofs.Common.{◌≡◌, ℕ, false, true, List, [], ◌∷◌, Option, None, Some, Result, IfOk, refl, sym, subst}
use Rattle.std.specs.List.{list_all}
use Rattle.plan_lines.specs.declared.change.Change.{Change}
use Rattle.plan_lines.specs.declared.command.Command.{Command}
use Rattle.plan_lines.specs.declared.reply.Reply.{Reply}
use Rattle.state_changes.specs.Actions.{can_be_held}
use Rattle.state_changes.specs.Effects.{is_entry}
use Rattle.state_changes.specs.States.{State}
use Rattle.planner_core.specs.Lines.{Held, IsFree, IsOpen, IsSessionOf, IsStep, IsStepIn, Planned, is_free}
use Rattle.planning_state.proofs.WhyLemma.{whys}

pub free-steps : {E : Type 0} (result : Result Reply E) (line : ℕ) (p : Planned) (asked : Command) (r : Planned) → p.batch ≡ None → ((base : State) → IsSessionOf base p → IsSessionOf base r) → IfOk result (λ answer. IsFree p asked r answer)
    → IfOk result (λ answer. IsStep line p asked r answer)
free-steps result line p asked r none grows h =
    whys result (λ answer. IsFree p asked r answer) (λ answer. IsStep line p asked r answer) (λ answer f. record { does = subst (λ (b : Option (List Held)). IsStepIn line b p asked r answer) (sym none) f; grows = grows }) h

opened : (batch : Option (List Held)) → is_free batch ≡ false → (held : List Held) × (batch ≡ Some held)
opened None h = absurd cc
opened (Some held) h = (held, refl)

pub open-steps : {E : Type 0} (result : Result Reply E) (line : ℕ) (p : Planned) (asked : Command) (r : Planned) → is_free p.batch ≡ false → ((base : State) → IsSessionOf base p → IsSessionOf base r)
    → IfOk result (λ answer. (held : List Held) → p.batch ≡ Some held → IsOpen line p held asked r answer) → IfOk result (λ answer. IsStep line p asked r answer)
open-steps result line p asked r is grows h =
    let found : (held : List Held) × (p.batch ≡ Some held) = opened p.batch is in
    whys result (λ answer. (held : List Held) → p.batch ≡ Some held → IsOpen line p held asked r answer) (λ answer. IsStep line p asked r answer)
    (λ answer f. record { does = subst (λ (b : Option (List Held)). IsStepIn line b p asked r answer) (sym found.1) (f found.0 found.1); grows = grows }) h

-- what a batch holds is an entry
pub held-entry : (edits : List Change) → list_all can_be_held edits ≡ true → is_entry edits ≡ true
held-entry [] held = refl
held-entry (change ∷ []) held = refl
held-entry (change ∷ next ∷ edits) held = held
