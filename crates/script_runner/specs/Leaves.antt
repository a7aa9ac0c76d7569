-- What is left behind in a sink and in a counter of steps.
use Rattle.std.specs.Prelude.{ℕ, ◌+◌, ◌≤◌, Bool, List, Option}
use Rattle.plan_io.specs.Writing.{Adds}

-- One of the endings that are meant was come to: its text was written, or a front of it where the ending is that writing
-- was cut off, and no more steps were taken than it takes.
pub record Leaves {E : Type 0} (Ends : E → List ℕ → ℕ → Type 0) (is_cut : E → Bool) (before after : Option (List ℕ)) (old new : ℕ) (end : E) : Type 0 where
  pub text : List ℕ
  pub work : ℕ
  pub ends : Ends end text work
  pub adds : Adds (is_cut end) before after text
  pub steps : new ≤ old + work
  pub later : old ≤ new
