-- What a call leaves of a store and of a sink.
use Rattle.std.specs.Prelude.{◌≡◌, ◌<◌, ◌≤◌, ℕ, List, Option}
use Rattle.plan_io.specs.Causes.{Rose}
use Rattle.plan_io.specs.Store.{Shelf}

-- the files are as before, the count of faults has not fallen, and it rose where a fault of reading is told
pub record KeepsStore (old new : Shelf) (before after : ℕ) (FaultIsTold : Type 0) : Type 0 where
  pub shelf : new ≡ old
  pub later : before ≤ after
  pub failed : FaultIsTold → Rose before after

-- in the slots that were there before, so many, what is left is as before
abbrev pub KeepsSlots : (ℕ → Option (List ℕ)) → (ℕ → Option (List ℕ)) → ℕ → Type 0
KeepsSlots old new slots = (k : ℕ) → k < slots → new k ≡ old k

-- the limit is as before, the count of faults has not fallen, and it rose where a fault of writing is told
pub record KeepsSink (old new : Option ℕ) (before after : ℕ) (FaultIsTold : Type 0) : Type 0 where
  pub limit : new ≡ old
  pub later : before ≤ after
  pub failed : FaultIsTold → Rose before after
