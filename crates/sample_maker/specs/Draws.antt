-- The numbers that a sample is drawn from. The generator is the linear congruential one of the example of `rand` in
-- the C standard (ISO/IEC 9899, 7.22.2.2), kept to 31 bits.
use Rattle.std.specs.Prelude.{ℕ, zero, suc, ◌+◌, ◌*◌, ◌/◌, ◌%◌, ◌^◌, List, [], ◌++◌}

-- the state behind a state
unfoldable pub next : ℕ → ℕ
next state = (state * 1103515245 + 12345) % 2 ^ 31

-- the state so many draws later
unfoldable pub after : ℕ → ℕ → ℕ
after zero state = state
after (suc draws) state = next (after draws state)

-- the number below the bound that one of the draws from a state on gives, the first draw being number 1
abbrev pub draw : ℕ → ℕ → ℕ → ℕ
draw state number bound = after number state / 65536 % bound

-- the texts of 1, 2, .. up to a number, one behind the other
unfoldable pub joined : (ℕ → List ℕ) → ℕ → List ℕ
joined text zero = []
joined text (suc k) = joined text k ++ text (suc k)
