use Rattle.std.proofs.Common.{eqb, take}
use Rattle.std.specs.List.{list_any}
use Rattle.milestone_masks.specs.Found.{AreSeen, Grows}
use Rattle.milestone_masks.proofs.supports.note_each.Given as goal

abbrev pub invariant-loop-m : goal.invariant-loop-m
invariant-loop-m l = record {
  seen : AreSeen l.found l.seen;
  grows : Grows (λ n. list_any (λ m. eqb m n) (take l.m-index l.nodes)) l.initial.found l.found;
}
