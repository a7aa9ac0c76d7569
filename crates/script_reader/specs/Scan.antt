-- How the reader goes along a line. What the words of a line are stands in `Words`; proofs/Spelling.antt ties the two.
use Rattle.std.specs.Prelude.{◌≡◌, ◌≤◌, length, take, drop, ℕ, Bool, ◌==◌, List, [], ◌∷◌, ◌++◌, Option, Some, None, cond, if◌then◌else◌}
use Rattle.script_reader.specs.Words.{is_plain, escaped, ends_word}

abbrev pub front_by : (ℕ → Bool) → List ℕ → List ℕ
front_by p [] = []
front_by p (c ∷ cs) = cond (p c) (c ∷ front_by p cs) []

abbrev pub behind_by : (ℕ → Bool) → List ℕ → List ℕ
behind_by p [] = []
behind_by p (c ∷ cs) = cond (p c) (behind_by p cs) (c ∷ cs)

abbrev pub put_front : Option ℕ → Option (List ℕ × List ℕ) → Option (List ℕ × List ℕ)
put_front (Some c) (Some p) = Some (c ∷ p.0, p.1)
put_front (Some c) None = None
put_front None o = None

-- the word behind an opening quote, and what stands behind the closing one
abbrev pub unquote : List ℕ → Option (List ℕ × List ℕ)
unquote [] = None
unquote (c ∷ []) = if c == 34 then Some ([], []) else None
unquote (c ∷ d ∷ cs) = if c == 34 then Some ([], d ∷ cs) else if c == 92 then put_front (escaped d) (unquote cs) else put_front (Some c) (unquote (d ∷ cs))

abbrev pub ended : Option (List ℕ × List ℕ) → Option (List ℕ × List ℕ)
ended None = None
ended (Some p) = if ends_word p.1 then Some p else None

-- the word at the front of a text that begins with no separator, and what stands behind it
abbrev pub first_word : List ℕ → Option (List ℕ × List ℕ)
first_word [] = None
first_word (c ∷ cs) = if c == 34 then ended (unquote cs) else ended (Some (front_by is_plain (c ∷ cs), behind_by is_plain (c ∷ cs)))

abbrev pub put_all : List ℕ → Option (List ℕ × List ℕ) → Option (List ℕ × List ℕ)
put_all cs None = None
put_all cs (Some p) = Some (cs ++ p.0, p.1)

-- so many bytes at the front pass, and no more
pub record AreFront (p : ℕ → Bool) (text : List ℕ) (count : ℕ) : Type 0 where
  pub within : count ≤ length text
  pub front : front_by p text ≡ take count text
  pub behind : behind_by p text ≡ drop count text
