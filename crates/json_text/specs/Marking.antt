-- The marks of keys. Only clauses of private functions cite them.
use Rattle.std.specs.Prelude.{◌≡◌, ◌<◌, ◌==◌, ◌+◌, ◌*◌, ◌%◌, ◌-◌, ℕ, List, true, if◌then◌else◌, length, slice_index}
use Rattle.json_text.specs.Kept.{is_among}

-- the mark of a key, by its first and its last byte and its length
unfoldable pub mark_of : List ℕ → ℕ
mark_of key = if length key == 0 then 0 else (slice_index key 0 + 4 * slice_index key (length key - 1) + 16 * (length key % 16)) % 256

-- there is a number at the mark of each of the keys
pub record HasMarks (keys : List (List ℕ)) (marks : List ℕ) : Type 0 where
  pub as_long : length marks ≡ 256
  pub each : (key : List ℕ) → is_among keys key ≡ true → 0 < slice_index marks (mark_of key)
