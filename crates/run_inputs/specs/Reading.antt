-- What was read of a file.
use Rattle.std.specs.Prelude.{◌≡◌, ◌<◌, ◌≤◌, ℕ, List, length, Option, None, Some, IsTrue, ⊤}
use Rattle.plan_io.specs.Store.{Shelf}
use Rattle.run_inputs.specs.declared.input.Reading.{Reading}
use Rattle.run_inputs.specs.declared.input.Reading.TheVariants.{Whole, TooLong}

-- what is left is these bytes, where it is told
abbrev pub IsAll : Option (List ℕ) → List ℕ → Type 0
IsAll None bytes = ⊤
IsAll (Some told) bytes = told ≡ bytes

-- what P says of all bytes, or of bytes that are more than the limit
abbrev pub IsReading : (List ℕ → Type 0) → ℕ → Reading → Type 0
IsReading P limit (Whole bytes) = P bytes.items × (length bytes.items ≤ limit)
IsReading P limit TooLong = (bytes : List ℕ) × P bytes × (limit < length bytes)

-- the file of that name has these bytes, where the store tells them
abbrev pub IsContent : Shelf → List ℕ → List ℕ → Type 0
IsContent shelf name bytes = IsTrue shelf.tells → shelf.file name ≡ Some bytes
