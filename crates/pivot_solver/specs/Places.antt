-- Which entry of the new basis a number of the tableau is.
use Rattle.std.specs.Prelude.{◌≡◌, ◌<◌, ◌≤◌, Some}
use Rattle.linear_table.specs.Basis.{name_at}
use Rattle.linear_table.specs.declared.Linear.{Linear}
use Rattle.linear_table.specs.declared.Place.{Place}
use Rattle.linear_table.specs.declared.Place.TheVariants.{Entry, Value, Reduced, Total}
use Rattle.pivot_solver.specs.First.{width_of}
use Rattle.pivot_solver.specs.declared.WideAt.{WideAt}
use Rattle.pivot_solver.specs.declared.WideAt.TheVariants.{Row, Cost}

-- within the rows and the places of the tableau, where the rows can be counted by 32 bits
abbrev pub IsInTableau : Linear → WideAt → Type 0
IsInTableau l (Row s) = (s.row < 4294967296) × (s.place ≤ width_of l)
IsInTableau l (Cost k) = k ≤ width_of l

abbrev pub IsPlaceOf : Linear → WideAt → Place → Type 0
IsPlaceOf l (Row s) (Entry column row) = (s.place < width_of l) × (name_at l s.place ≡ Some column) × (row ≡ s.row)
IsPlaceOf l (Row s) (Value row) = (s.place ≡ width_of l) × (row ≡ s.row)
IsPlaceOf l (Row s) (Reduced column) = ⊥
IsPlaceOf l (Row s) Total = ⊥
IsPlaceOf l (Cost k) (Entry column row) = ⊥
IsPlaceOf l (Cost k) (Value row) = ⊥
IsPlaceOf l (Cost k) (Reduced column) = (k < width_of l) × (name_at l k ≡ Some column)
IsPlaceOf l (Cost k) Total = k ≡ width_of l
