-- So many of the rows were visited.
use Rattle.std.proofs.Common.{◌≡◌, ◌<◌, ◌≤◌, ℕ, List, drop, length, map, take}
use Rattle.std.specs.Prelude.{slice_index_or}
use Rattle.plan_base.specs.declared.NodeId.{NodeId}
use Rattle.graph_store.specs.declared.Row.{Row}
use Rattle.milestone_masks.specs.Found.{stood_on, AreRowsOf, AreSeen, Grows}
use Rattle.milestone_masks.proofs.row_blocks.visit_rows.Given as goal

abbrev pub invariant-loop-k : goal.invariant-loop-k
invariant-loop-k l = record {
  seen : AreSeen l.found l.seen;
  longer : length l.initial.found ≤ length l.found;
  kept : (j : ℕ) (d : NodeId) → j < length l.initial.found → slice_index_or l.found j d ≡ slice_index_or l.initial.found j d;
  grows : (rows : List Row) → AreRowsOf rows (take (length l.block) (drop l.start l.initial.found)) (map (λ r. r.now) l.block)
      → Grows (stood_on rows l.granted l.ranks (take l.k (drop l.start l.initial.found))) l.initial.found l.found;
}
