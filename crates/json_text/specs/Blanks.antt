-- The white space that stands in long runs. Only clauses of private functions cite it.
use Rattle.std.specs.Prelude.{ℕ, nat_le, ◌&&◌, Bool}

abbrev pub is_blank : ℕ → Bool
is_blank b = nat_le 32 b && nat_le b 32
