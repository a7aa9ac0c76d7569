-- Questions leave the planner, whether a batch is open or not.
use Rattle.std.proofs.Common.{◌≡◌, ℕ, List}
use Rattle.std.specs.Prelude.{Option, None, Some}
use Rattle.plan_lines.specs.declared.change.Object.{Object}
use Rattle.plan_lines.specs.declared.command.Command.TheVariants as command
use Rattle.plan_lines.specs.declared.reply.Reply.{Reply}
use Rattle.planner_core.specs.Lines.{Held, IsStep, IsStepIn, Planned}

rank_in : (line : ℕ) (batch : Option (List Held)) (p r : Planned) (object : Object) (answer : Reply) → IsStepIn line batch p (command.Reach object) r answer → r ≡ p
rank_in line None p r object answer step = step.0
rank_in line (Some held) p r object answer step = step.0

pub rank_stays : (line : ℕ) (p r : Planned) (object : Object) (answer : Reply) → IsStep line p (command.Reach object) r answer → r ≡ p
rank_stays line p r object answer step = rank_in line p.batch p r object answer step.does

mask_in : (line : ℕ) (batch : Option (List Held)) (p r : Planned) (object : Object) (answer : Reply) → IsStepIn line batch p (command.Mask object) r answer → r ≡ p
mask_in line None p r object answer step = step.0
mask_in line (Some held) p r object answer step = step.0

pub mask_stays : (line : ℕ) (p r : Planned) (object : Object) (answer : Reply) → IsStep line p (command.Mask object) r answer → r ≡ p
mask_stays line p r object answer step = mask_in line p.batch p r object answer step.does

milestones_in : (line : ℕ) (batch : Option (List Held)) (p r : Planned) (answer : Reply) → IsStepIn line batch p command.Milestones r answer → r ≡ p
milestones_in line None p r answer step = step.0
milestones_in line (Some held) p r answer step = step.0

pub milestones_stay : (line : ℕ) (p r : Planned) (answer : Reply) → IsStep line p command.Milestones r answer → r ≡ p
milestones_stay line p r answer step = milestones_in line p.batch p r answer step.does

solve_in : (line : ℕ) (batch : Option (List Held)) (p r : Planned) (table : List ℕ) (budget : ℕ) (answer : Reply) → IsStepIn line batch p (command.Solve table budget) r answer → r ≡ p
solve_in line None p r table budget answer step = step.0
solve_in line (Some held) p r table budget answer step = step.0

pub solve_stays : (line : ℕ) (p r : Planned) (table : List ℕ) (budget : ℕ) (answer : Reply) → IsStep line p (command.Solve table budget) r answer → r ≡ p
solve_stays line p r table budget answer step = solve_in line p.batch p r table budget answer step.does

rate_in : (line : ℕ) (batch : Option (List Held)) (p r : Planned) (table label : List ℕ) (answer : Reply) → IsStepIn line batch p (command.Rate table label) r answer → r ≡ p
rate_in line None p r table label answer step = step.0
rate_in line (Some held) p r table label answer step = step.0

pub rate_stays : (line : ℕ) (p r : Planned) (table label : List ℕ) (answer : Reply) → IsStep line p (command.Rate table label) r answer → r ≡ p
rate_stays line p r table label answer step = rate_in line p.batch p r table label answer step.does
