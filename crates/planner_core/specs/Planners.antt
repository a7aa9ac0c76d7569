-- What is true of every planner.
use Rattle.std.specs.Prelude.{◌≡◌, ◌≤◌, List, Option, true, length}
use Rattle.std.specs.List.{list_all}
use Rattle.state_changes.specs.Actions.{can_be_held}
use Rattle.state_changes.specs.States.{State}
use Rattle.planner_core.specs.Lines.{Held, IsSessionOf, Planned, batch_changes}

-- changes that can be held, at most 1,024
pub record IsBatch (batch : Option (List Held)) : Type 0 where
  pub held : list_all can_be_held (batch_changes batch) ≡ true
  pub few : length (batch_changes batch) ≤ 1_024

-- An open batch holds what it may. And the planner grew from a base: what is done leads from it to the state, and back, and what is
-- undone can be done again.
pub record IsPlanner (p : Planned) : Type 0 where
  pub batch : IsBatch p.batch
  pub grown : (base : State) × IsSessionOf base p
