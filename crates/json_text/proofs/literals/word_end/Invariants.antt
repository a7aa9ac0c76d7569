use Rattle.std.proofs.Common.{length, ◌-◌, ◌≡◌, ◌≤◌, ◌+◌, ℕ, List, drop, take}
use Rattle.std.specs.Prelude.{slice_range}
use Rattle.json_text.specs.Kept.{Kept, Wishes}
use Rattle.json_text.specs.Machine.{Frame, word_on, from}
use Rattle.json_text.proofs.literals.word_end.Given as goal

abbrev pub invariant-loop-k : goal.invariant-loop-k
invariant-loop-k l = record {
  place : l.i ≡ l.at + l.k;
  within : l.i ≤ length l.bytes;
  short : l.k ≤ length l.rest;
  read : slice_range l.bytes l.at l.i ≡ take l.k l.rest;
  word : (w : Wishes) (v : Kept) (n : ℕ) (fs : List Frame) → from w l.bytes l.at (word_on v l.rest n fs) ≡ from w l.bytes l.i (word_on v (drop l.k l.rest) n fs);
}

abbrev pub decreases-loop-k : goal.decreases-loop-k
decreases-loop-k l = length l.rest - l.k
