-- Where an amount of a good is added to a column.
use Rattle.std.specs.Prelude.{◌≡◌, ℕ, ◌<◌, ◌≤◌, ◌==◌, Bool, false, List, [], ◌∷◌, Option, Some, None, drop, slice_get, take}
use Rattle.fractions.specs.Fraction.{Fraction}
use Rattle.plan_base.specs.declared.ids.GoodId.{GoodId}

-- each good is below this one
abbrev pub AllBelow : GoodId → List (GoodId × Fraction) → Type 0
AllBelow good [] = Unit {0}
AllBelow good (p ∷ ps) = (p.0.0 < good.0) × AllBelow good ps

-- the first good isn't below this one
abbrev pub StartsFrom : GoodId → List (GoodId × Fraction) → Type 0
StartsFrom good [] = Unit {0}
StartsFrom good (p ∷ ps) = good.0 ≤ p.0.0

pub record IsPlace (column : List (GoodId × Fraction)) (good : GoodId) (place : ℕ) : Type 0 where
  pub before : AllBelow good (take place column)
  pub behind : StartsFrom good (drop place column)

-- whether a part is of a good
abbrev pub is_of : GoodId → Option (GoodId × Fraction) → Bool
is_of good None = false
is_of good (Some p) = p.0.0 == good.0

-- whether a good's part stands at a place
abbrev pub has_at : List (GoodId × Fraction) → ℕ → GoodId → Bool
has_at column place good = is_of good (slice_get column place)
