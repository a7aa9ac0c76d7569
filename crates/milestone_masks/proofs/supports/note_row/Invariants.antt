use Rattle.std.proofs.Common.{◌≡◌, drop, take}
use Rattle.std.specs.List.{list_any}
use Rattle.graph_store.specs.Packed.{packed_groups}
use Rattle.milestone_masks.specs.Why.{is_support_in}
use Rattle.milestone_masks.specs.Found.{AreSeen, Grows}
use Rattle.milestone_masks.proofs.supports.note_row.Given as goal

abbrev pub invariant-loop-k : goal.invariant-loop-k
invariant-loop-k l = record {
  seen : AreSeen l.found l.seen;
  left : l.rest ≡ packed_groups (drop l.k l.row.groups);
  grows : Grows (λ n. list_any (λ g. is_support_in l.ranks g n) (take l.k l.row.groups)) l.initial.found l.found;
}
