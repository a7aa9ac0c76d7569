-- The text of a value of JSON.
use Rattle.std.specs.Prelude.{◌≡◌, ◌≤◌, ℕ, List, Some, false}
use Rattle.serde_json.specs.Data.{Data, depth}
use Rattle.serde_json.specs.Read.{max_depth, read}
use Rattle.serde_json.specs.Written.{compact_text, has_float}

-- the text is the value with no blanks, and reads back as the value; where it has no float and nests no deeper than is read
pub record IsTextOf (value : Data) (text : List ℕ) : Type 0 where
  pub compact : has_float value ≡ false → text ≡ compact_text value
  pub reads_back : depth value ≤ max_depth → read text ≡ Some value
