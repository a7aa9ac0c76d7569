use Rattle.std.proofs.Common.{◌≡◌, ◌≢◌, ◌≤◌, ℕ, ◌+◌, ◌-◌, vec_len}
use Rattle.std.specs.Io.KnownBytes.{Consumes}
use Rattle.run_inputs.proofs.input.read_pieces.Given as goal

abbrev pub invariant-loop-bytes : goal.invariant-loop-bytes
invariant-loop-bytes g l = record {
  taken : Consumes (g.S.Store.left l.initial.store l.slot) (g.S.Store.left l.store l.slot) l.bytes.items;
  size : vec_len l.bytes ≤ l.limit + 1;
  shelf : g.S.Store.shelf l.store ≡ g.S.Store.shelf l.initial.store;
  begun : g.S.Store.begun l.store ≡ g.S.Store.begun l.initial.store;
  others : (k : ℕ) → k ≢ l.slot → g.S.Store.left l.store k ≡ g.S.Store.left l.initial.store k;
  later : g.S.Store.faults l.initial.store ≤ g.S.Store.faults l.store;
}

abbrev pub decreases-loop-bytes : goal.decreases-loop-bytes
decreases-loop-bytes g l = l.limit + 1 - vec_len l.bytes
