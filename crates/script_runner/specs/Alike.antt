-- Planners that answer every line alike.
use Rattle.std.specs.Prelude.{◌≡◌}
use Rattle.edit_undo.specs.Kept.{session_of}
use Rattle.planner_core.specs.Lines.{Planned}

-- nothing but what takes their entries back tells them apart
pub record AreAlike (p q : Planned) : Type 0 where
  pub state : p.state ≡ q.state
  pub session : session_of p.kept ≡ session_of q.kept
  pub batch : p.batch ≡ q.batch
  pub quiet : p.quiet ≡ q.quiet
