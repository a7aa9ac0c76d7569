use Rattle.std.proofs.Common.{length, ◌-◌, ◌≡◌, ◌≤◌, ◌<◌, ℕ, List}
use Rattle.std.specs.Prelude.{slice_range, Bool}
use Rattle.json_text.specs.Cutting.{NumberTo}
use Rattle.json_text.specs.Kept.{Wishes}
use Rattle.json_text.specs.Machine.{Frame, in_number, from}
use Rattle.json_text.specs.declared.number.Phase.TheVariants.{Minus}
use Rattle.json_text.proofs.number_ends.number_rest.Given as goal

abbrev pub invariant-loop-i : goal.invariant-loop-i
invariant-loop-i l = record {
  behind : l.fn.start < l.i;
  within : l.i ≤ length l.bytes;
  no_minus : l.now ≡ Minus → ⊥;
  read : NumberTo l.now (slice_range l.bytes l.fn.start l.i);
  number : (w : Wishes) (keep : Bool) (n : ℕ) (fs : List Frame) → from w l.bytes l.fn.at (in_number keep l.fn.start (slice_range l.bytes l.fn.start l.fn.at) l.fn.phase n fs) ≡ from w l.bytes l.i (in_number keep l.fn.start (slice_range l.bytes l.fn.start l.i) l.now n fs);
}

abbrev pub decreases-loop-i : goal.decreases-loop-i
decreases-loop-i l = length l.bytes - l.i
