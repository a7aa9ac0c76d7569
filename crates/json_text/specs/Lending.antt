-- Where the texts of a lent tree stand in the bytes that it was read from. A string is lent exactly where it has no
-- escape, and it is then the bytes between its quotes; a number is the bytes from its place on.
use Rattle.std.specs.Prelude.{◌≡◌, ℕ, ◌+◌, ◌<◌, ◌≤◌, ◌==◌, ◌||◌, not, Bool, true, List, [], ◌∷◌, ◌++◌, length, flat_map, slice_index, slice_range, codes}
use Rattle.std.specs.List.{list_all, AllByRecursion}
use Rattle.json_text.specs.Text.{IsSpace}
use Rattle.json_text.specs.declared.literals.Scalar.{Scalar}
use Rattle.json_text.specs.declared.literals.Scalar.TheVariants as scalar
use Rattle.json_text.specs.declared.span.SpanTree.{SpanTree}
use Rattle.json_text.specs.declared.span.SpanMember.{SpanMember}
use Rattle.json_text.specs.declared.span.SpanText.{SpanText}
use Rattle.json_text.specs.declared.span.SpanText.TheVariants.{Lent, Made}
use Rattle.json_text.specs.declared.span.SpanNode.{SpanNode, fold-SpanNode}
use Rattle.json_text.specs.declared.span.SpanNode.TheOpen.{SpanNode-F, SpanMember-F, SpanTree-F}

-- a text of a tree: a number and its place, a string and the place of its first quote, or a key and the place of its
-- member's value
pub data Part : Type 0 where
  number : ℕ → List ℕ → Part
  string : ℕ → SpanText → Part
  key : SpanText → ℕ → Part

-- the texts of one level, where those of each tree inside are given with its place
abbrev pub node_step : SpanNode-F (ℕ → List Part) (List Part) (ℕ × List Part) → ℕ → List Part
node_step SpanNode-F.Null at = []
node_step (SpanNode-F.Flag b) at = []
node_step SpanNode-F.Word at = []
node_step (SpanNode-F.Number s) at = number at s.now ∷ []
node_step (SpanNode-F.Str t) at = string at t ∷ []
node_step (SpanNode-F.List v) at = flat_map (λ t. t.1) v.items
node_step (SpanNode-F.Object v) at = flat_map (λ parts. parts) v.items
node_step SpanNode-F.Skipped at = []

abbrev pub member_step : SpanMember-F (ℕ → List Part) (List Part) (ℕ × List Part) → List Part
member_step m = key m.key m.value.0 ∷ m.value.1

abbrev pub tree_step : SpanTree-F (ℕ → List Part) (List Part) (ℕ × List Part) → ℕ × List Part
tree_step t = (t.at, t.node t.at)

abbrev pub node_parts : SpanNode → ℕ → List Part
node_parts = fold-SpanNode (ℕ → List Part) (List Part) (ℕ × List Part) node_step member_step tree_step

-- all texts of a tree, of some trees, and of some members
abbrev pub parts : SpanTree → List Part
parts t = node_parts t.node t.at

abbrev pub all_parts : List SpanTree → List Part
all_parts ts = flat_map parts ts

abbrev pub member_parts : List SpanMember → List Part
member_parts ms = flat_map (λ m. key m.key m.value.at ∷ parts m.value) ms

-- no quote and no backslash is among the bytes
abbrev pub is_unmarked : ℕ → Bool
is_unmarked b = not (b == 34 || b == 92)

abbrev pub IsUnmarked : List ℕ → Type 0
IsUnmarked bytes = list_all is_unmarked bytes ≡ true

-- a backslash is among the bytes between two places, and no quote before it
abbrev pub HasEscape : List ℕ → ℕ → ℕ → Type 0
HasEscape bytes from end = (i : ℕ) × (from ≤ i) × (i < end) × IsUnmarked (slice_range bytes from i) × (slice_index bytes i ≡ 92)

-- what is held of the string between two quotes: its bytes where it has no escape, and else a text that is made
abbrev pub IsLentBetween : List ℕ → ℕ → ℕ → SpanText → Type 0
IsLentBetween bytes start end (Lent s) = IsUnmarked (slice_range bytes (start + 1) end) × (s.now ≡ slice_range bytes (start + 1) end)
IsLentBetween bytes start end (Made t) = HasEscape bytes (start + 1) end

-- a string stands between the quotes at two places
pub record IsStringAt (bytes : List ℕ) (start end : ℕ) (text : SpanText) : Type 0 where
  pub order : start < end
  pub within : end < length bytes
  pub opens : slice_index bytes start ≡ 34
  pub closes : slice_index bytes end ≡ 34
  pub lent : IsLentBetween bytes start end text

-- a colon, with the white space round it
pub record IsColon (bytes : List ℕ) : Type 0 where
  pub before : List ℕ
  pub behind : List ℕ
  pub spelled : bytes ≡ before ++ (codes ":" ++ behind)
  pub space_before : IsSpace before
  pub space_behind : IsSpace behind

-- a key whose colon stands before the place of a value
pub record IsKeyBefore (bytes : List ℕ) (text : SpanText) (at : ℕ) : Type 0 where
  pub start : ℕ
  pub end : ℕ
  pub string : IsStringAt bytes start end text
  pub order : end < at
  pub colon : IsColon (slice_range bytes (end + 1) at)

abbrev pub StandsIn : List ℕ → Part → Type 0
StandsIn bytes (number at digits) = digits ≡ slice_range bytes at (at + length digits)
StandsIn bytes (string at text) = (end : ℕ) × IsStringAt bytes at end text
StandsIn bytes (key text at) = IsKeyBefore bytes text at

abbrev pub AllStandIn : List ℕ → List Part → Type 0
AllStandIn bytes parts = AllByRecursion (StandsIn bytes) parts

-- all texts of a tree stand so in the bytes
abbrev pub IsLentFrom : List ℕ → SpanTree → Type 0
IsLentFrom bytes tree = AllStandIn bytes (parts tree)

-- the texts of a value that is no string and no container
abbrev pub scalar_parts : Scalar → ℕ → List ℕ → List Part
scalar_parts scalar.Null at bytes = []
scalar_parts scalar.True at bytes = []
scalar_parts scalar.False at bytes = []
scalar_parts scalar.Word at bytes = []
scalar_parts scalar.Number at bytes = number at bytes ∷ []
