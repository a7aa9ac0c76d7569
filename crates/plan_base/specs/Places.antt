-- A list with an element changed in its place.
use Rattle.std.specs.Prelude.{ℕ, List, Option, Some, None, slice_get, slice_set}

abbrev pub changed_at : {A : Type 0} → (A → A) → ℕ → List A → Option A → List A
changed_at change place list None = list
changed_at change place list (Some old) = slice_set list place (change old)

-- the list with its element at a place changed, where there is one
unfoldable pub with_at : {A : Type 0} → (A → A) → ℕ → List A → List A
with_at change place list = changed_at change place list (slice_get list place)
