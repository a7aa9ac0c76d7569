use Rattle.std.proofs.Common.{◌≡◌, ℕ, ◌+◌, ◌<◌, ◌≤◌, length, get_or}
use Rattle.index_heap.specs.Keys.{key_at}
use Rattle.reach_ranks.specs.Rounds.{world_under}
use Rattle.reach_ranks.specs.Given.{key_of, given}
use Rattle.reach_ranks.proofs.afresh.refresh_each.Given as goal

abbrev pub invariant-loop-n : goal.invariant-loop-n
invariant-loop-n g l = record {
  long : length l.heap ≡ length (g.R.Rows.rows l.fn.rows);
  keys : (m : ℕ) → m < l.n → key_at l.heap m ≡ key_of (get_or l.fn.ranks m 0) (given (world_under (g.R.Rows.rows l.fn.rows) l.fn.marks) 4294967295 l.fn.ranks m);
  steps : l.steps ≤ l.initial.steps + l.n;
  later : l.initial.steps ≤ l.steps;
}
