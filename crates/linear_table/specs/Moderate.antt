-- Tables of moderate numbers: on them no exchange forms an entry wide.
use Rattle.std.specs.Prelude.{ℕ, ◌+◌, ◌<◌, ◌≤◌, ◌^◌, ◌⊎◌, List, length}
use Rattle.std.proofs.Math.IntN.{nat_abs}
use Rattle.fractions.specs.Fraction.{Fraction}
use Rattle.linear_table.specs.System.{System, IsBasis, Entries, AreEntries, Has, reduced, total}
use Rattle.linear_table.specs.Basis.{system_of}
use Rattle.linear_table.specs.Count.{ListsBases, choose}
use Rattle.linear_table.specs.Plans.{good_count, column_count}
use Rattle.linear_table.specs.declared.Linear.{Linear}

-- both parts are below 2 ^ 42
pub record IsModerate (x : Fraction) : Type 0 where
  pub num_below : nat_abs x.num < 2 ^ 42
  pub den_below : x.den < 2 ^ 42

pub record HasModerateEntries (s : System) (b : List ℕ) (e : Entries) : Type 0 where
  pub entries : (c r : ℕ) → c < s.goods + s.lines → Has b r → IsModerate (e.entry c r)
  pub values : (r : ℕ) → Has b r → IsModerate (e.value r)
  pub reduceds : (c : ℕ) → c < s.goods + s.lines → IsModerate (reduced s s.price e c)
  pub total_is : IsModerate (total s s.price e)

-- each entry of each basis is
abbrev pub IsModerateTable : Linear → Type 0
IsModerateTable l = (b : List ℕ) (e : Entries) → IsBasis (system_of l) b → AreEntries (system_of l) b e → HasModerateEntries (system_of l) b e

-- ---- enough budget
-- at least the number of bases, counted as sets of columns
abbrev pub CountsBases : Linear → ℕ → Type 0
CountsBases l budget = (all : List (List ℕ)) × ListsBases (system_of l) all × (length all ≤ budget)

-- at least the number of ways to choose as many columns as there are goods, units and the table's
abbrev pub CountsChoices : Linear → ℕ → Type 0
CountsChoices l budget = choose (good_count l + column_count l) (good_count l) ≤ budget

abbrev pub HasEnoughBudget : Linear → ℕ → Type 0
HasEnoughBudget l budget = CountsBases l budget ⊎ CountsChoices l budget
