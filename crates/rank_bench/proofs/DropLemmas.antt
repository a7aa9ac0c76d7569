-- A milestone fewer.
use Rattle.std.proofs.Common.{◌≡◌, ℕ, List, None, Some, Result, Ok, Err, suc, drop, take, sym, subst, All, OnErr, IfOk}
use Rattle.std.specs.Prelude.{remove}
use Rattle.std.proofs.lemmas.List.Elements.{All-append, All-drop, All-take}
use Rattle.reach_ranks.specs.Rounds.{world}
use Rattle.reach_ranks.specs.Ranks.{AreRanks}
use Rattle.milestone_masks.specs.declared.worlds.Milestone.{Milestone}
use Rattle.milestone_masks.specs.declared.worlds.MilestoneFault.{MilestoneFault}
use Rattle.milestone_masks.specs.Worlds.{Kept, AreWorlds}
use Rattle.rank_bench.specs.Dropped.{StaysWorlds}

All-remove : {X : Type 0} (P : X → Type 0) (xs : List X) (i : ℕ) → All P xs → All P (remove xs i)
All-remove P xs i all = All-append P (take i xs) (drop (suc i) xs) (All-take P i xs all) (All-drop P (suc i) xs all)

pub stays-dropped : (old new : Kept) (result : Result ℕ MilestoneFault) → new.base ≡ old.base → IfOk result (λ place. new.milestones ≡ remove old.milestones place) → OnErr result (new ≡ old) → StaysWorlds old new
stays-dropped old new (Ok place) base dropped same rows barred granted are = record {
  base = subst (AreRanks (world rows barred granted None)) (sym base) are.base;
  each = subst (All (λ (m : Milestone). AreRanks (world rows barred granted (Some m.node)) m.ranks)) (sym dropped)
      (All-remove (λ (m : Milestone). AreRanks (world rows barred granted (Some m.node)) m.ranks) old.milestones place are.each);
}
stays-dropped old new (Err fault) base dropped same rows barred granted are = subst (AreWorlds rows barred granted) (sym same) are
