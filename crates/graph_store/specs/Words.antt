-- Lists of nodes as words: a bit for each node from a first one on, 64 to a word, the lowest bit first.
use Rattle.std.specs.Prelude.{ℕ, ◌≡◌, ◌+◌, ◌-◌, ◌*◌, ◌/◌, ◌%◌, ◌^◌, ◌<◌, ◌≤◌, ◌==◌, Bool, false, List, [], ◌∷◌, ◌++◌, Vec, if◌then◌else◌, length, map, nat_lt, slice_index_or}
use Rattle.std.specs.Global.{Global}
use Rattle.std.specs.Int.{bit_at}
use Rattle.std.specs.List.{range_with_len}
use Rattle.plan_base.specs.declared.ids.NodeId.{NodeId}
use Rattle.graph_store.specs.Lists.{has_node, list_at}
use Rattle.graph_store.specs.Members.{those}

-- whether the bit of a place is set; there is none past the last word
abbrev pub bit_in : List ℕ → ℕ → Bool
bit_in words place = bit_at (slice_index_or words (place / 64) 0) (place % 64) == 1

-- whether the bit of a node is set, where the first bit is that of a first node
abbrev pub has_bit : ℕ → List ℕ → ℕ → Bool
has_bit first words n = if nat_lt n first then false else bit_in words (n - first)

-- the bits are those of the nodes
abbrev pub IsWords : ℕ → List NodeId → List ℕ → Type 0
IsWords first nodes words = (n : ℕ) → has_node nodes n ≡ has_bit first words n

-- the words of a number
abbrev pub words_at : List (Vec ℕ Global) → ℕ → List ℕ
words_at words k = slice_index_or (map (λ list. list.items) words) k []

abbrev pub has_words : List (Vec ℕ Global) → ℕ → Bool
has_words words k = nat_lt 0 (length (words_at words k))

-- each list has its words, or it has none; no bit is past the last number of a node
pub record AreWords (first : ℕ) (lists : List (Vec NodeId Global)) (words : List (Vec ℕ Global)) : Type 0 where
  pub as_long : length words ≡ length lists
  pub each : (k : ℕ) → k < length lists → 0 < length (words_at words k) → IsWords first (list_at lists k) (words_at words k)
  pub few : (k : ℕ) → k < length lists → first + 64 * length (words_at words k) ≤ 2 ^ 32

-- the nodes of the bits of a word, and of words
unfoldable pub in_word : ℕ → ℕ → List NodeId
in_word first word = those (λ bit. bit_at word bit == 1) first (range_with_len 0 64)

unfoldable pub in_words : ℕ → List ℕ → List NodeId
in_words first [] = []
in_words first (word ∷ words) = in_word first word ++ in_words (first + 64) words
