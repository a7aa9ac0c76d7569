use Rattle.std.proofs.Common.{◌≡◌, ℕ, ◌*◌, ◌/◌, ◌<◌, ◌≤◌, length}
use Rattle.index_heap.specs.Tree.{entry_at, AreLesserBut}
use Rattle.index_heap.proofs.put.Given as goal

abbrev pub invariant-climb : goal.invariant-climb
invariant-climb l = record {
  long : length l.tree ≡ 2 * l.fn.n;
  positive : 0 < l.j;
  inside : l.j < 2 * l.fn.n;
  least : entry_at l.tree l.j ≡ l.least;
  but : AreLesserBut l.tree l.fn.n (l.j / 2);
  here : entry_at l.tree l.fn.at ≡ l.fn.number;
  others : (i : ℕ) → l.fn.n ≤ i → i < 2 * l.fn.n → (i ≡ l.fn.at → ⊥) → entry_at l.tree i ≡ entry_at l.fn.tree i;
}

abbrev pub decreases-climb : goal.decreases-climb
decreases-climb l = l.j
