-- The parts of being well formed, as far as a place.
use Rattle.std.specs.Prelude.{◌≡◌, ◌≢◌, ℕ, suc, ◌<◌, ◌≤◌, Some, slice_get}
use Rattle.fractions.specs.Fraction.{zero_fraction, ◌≤ʳ◌}
use Rattle.linear_table.specs.Plans.{want_at, IsSoundColumn, kind_rank}
use Rattle.linear_table.specs.declared.Linear.{Linear}
use Rattle.linear_table.specs.declared.LinearColumn.{LinearColumn}

abbrev pub IsSoundAt : Linear → ℕ → Type 0
IsSoundAt l j = (c : LinearColumn) → slice_get l.columns j ≡ Some c → IsSoundColumn l j c

abbrev pub HasSoundColumns : Linear → ℕ → Type 0
HasSoundColumns l n = (j : ℕ) → j < n → IsSoundAt l j

abbrev pub HasRisingKinds : Linear → ℕ → Type 0
HasRisingKinds l n = (j : ℕ) (c d : LinearColumn) → suc j < n → slice_get l.columns j ≡ Some c → slice_get l.columns (suc j) ≡ Some d → kind_rank c.column ≤ kind_rank d.column

abbrev pub IsNewName : Linear → ℕ → ℕ → Type 0
IsNewName l place n = (i : ℕ) (c d : LinearColumn) → i < n → slice_get l.columns i ≡ Some c → slice_get l.columns place ≡ Some d → c.column ≢ d.column

abbrev pub HasNewNames : Linear → ℕ → Type 0
HasNewNames l n = (j : ℕ) → j < n → IsNewName l j j

abbrev pub IsNewGood : Linear → ℕ → ℕ → Type 0
IsNewGood l place n = (i : ℕ) → i < n → slice_get l.goods i ≢ slice_get l.goods place

abbrev pub HasNewGoods : Linear → ℕ → Type 0
HasNewGoods l n = (g : ℕ) → g < n → IsNewGood l g g

abbrev pub HasSoundWants : Linear → ℕ → Type 0
HasSoundWants l n = (g : ℕ) → g < n → zero_fraction ≤ʳ want_at l g
