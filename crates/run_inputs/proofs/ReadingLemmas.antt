-- What reading tells of a file.
use Rattle.std.proofs.Common.{◌<◌, ℕ, List, length, arith, refl, ap, length-append}
use Rattle.std.specs.Prelude.{Option, Some, None}
use Rattle.std.specs.Io.KnownBytes.{Consumes}
use Rattle.run_inputs.specs.Reading.{IsAll}

-- more bytes than the limit were taken, so there are more
pub longer : (limit : ℕ) (old new : Option (List ℕ)) (bytes : List ℕ) → Consumes old new bytes → limit < length bytes → (all : List ℕ) × IsAll old all × limit < length all
longer limit None new bytes taken more = (bytes, tt, more)
longer limit (Some xs) None bytes taken more = absurd taken
longer limit (Some xs) (Some ys) bytes taken more = (xs, refl, omega (arith, ap length taken, length-append bytes ys))
