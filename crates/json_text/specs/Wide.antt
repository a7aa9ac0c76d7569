-- Characters of three bytes of which the second may be any that goes on. Only clauses of private functions cite it.
use Rattle.std.specs.Prelude.{◌≡◌, ℕ, ◌+◌, ◌≤◌, nat_le, ◌==◌, ◌&&◌, ◌||◌, Bool, true, List, length, slice_index}

-- the first byte of such a character
abbrev pub begins_wide : ℕ → Bool
begins_wide b = (nat_le 225 b && nat_le b 236) || (b == 238 || b == 239)

-- a further byte of a character
abbrev pub is_tail : ℕ → Bool
is_tail b = nat_le 128 b && nat_le b 191

pub record IsWideAt (bytes : List ℕ) (at : ℕ) : Type 0 where
  pub within : at + 3 ≤ length bytes
  pub first : begins_wide (slice_index bytes at) ≡ true
  pub second : is_tail (slice_index bytes (at + 1)) ≡ true
  pub third : is_tail (slice_index bytes (at + 2)) ≡ true
