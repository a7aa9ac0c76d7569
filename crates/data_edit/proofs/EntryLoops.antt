-- Steps of the loops over entries.
use Rattle.std.proofs.Common.{ℕ, Bool, true, false, List}
use Rattle.data_edit.specs.Lists.{without, with_entry}

-- what of the rest is still to come: all but the other entries of the key, with the entry unless it is put
abbrev pub still_with : {E : Type 0} → (E → ℕ) → E → Bool → List E → List E
still_with key entry true rest = without key (key entry) rest
still_with key entry false rest = with_entry key entry rest
