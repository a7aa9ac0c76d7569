-- The words of a line. The form is this project's own.
use Rattle.std.specs.Prelude.{◌≡◌, ℕ, ◌<◌, Bool, true, not, ◌==◌, ◌||◌, List, [], ◌∷◌, ◌++◌, length, Option, Some, None, ◌⊎◌, if◌then◌else◌}
use Rattle.std.specs.List.{list_all}

-- spaces and tabs stand between words
abbrev pub is_separator : ℕ → Bool
is_separator c = c == 32 || c == 9

abbrev pub is_plain : ℕ → Bool
is_plain c = not (is_separator c || c == 34)

-- what a letter behind a backslash stands for
abbrev pub escaped : ℕ → Option ℕ
escaped c =
    if c == 34 then Some 34
    else if c == 92 then Some 92
    else if c == 110 then Some 10
    else if c == 116 then Some 9
    else if c == 114 then Some 13
    else None

abbrev pub put : Option ℕ → Option (List ℕ) → Option (List ℕ)
put (Some c) (Some cs) = Some (c ∷ cs)
put (Some c) None = None
put None cs = None

-- what the bytes between two quotes say
abbrev pub unquoted : List ℕ → Option (List ℕ)
unquoted [] = Some []
unquoted (c ∷ []) = if c == 34 || c == 92 then None else Some (c ∷ [])
unquoted (c ∷ d ∷ cs) = if c == 34 then None else if c == 92 then put (escaped d) (unquoted cs) else put (Some c) (unquoted (d ∷ cs))

-- a word is written as it is, or between quotes
abbrev pub SpellsWord : List ℕ → List ℕ → Type 0
SpellsWord text word = ((0 < length text) × (list_all is_plain text ≡ true) × (word ≡ text)) ⊎ ((body : List ℕ) × (text ≡ 34 ∷ (body ++ 34 ∷ [])) × (unquoted body ≡ Some word))

-- a word that needs no quotes and has no backslash
pub record IsBare (word : List ℕ) : Type 0 where
  pub some : 0 < length word
  pub plain : list_all is_plain word ≡ true
  pub unescaped : list_all (λ c. not (c == 92)) word ≡ true

-- nothing, or a separator first
abbrev pub ends_word : List ℕ → Bool
ends_word [] = true
ends_word (c ∷ cs) = is_separator c

-- separators, a word, and what follows it
pub record SpellsFirst (line word rest : List ℕ) : Type 0 where
  pub before : List ℕ
  pub text : List ℕ
  pub blank : list_all is_separator before ≡ true
  pub spells : SpellsWord text word
  pub ends : ends_word rest ≡ true
  pub line_is : line ≡ before ++ (text ++ rest)

-- the words of a line, one after another
abbrev pub SpellsLine : List ℕ → List (List ℕ) → Type 0
SpellsLine line [] = list_all is_separator line ≡ true
SpellsLine line (word ∷ words) = (rest : List ℕ) × SpellsFirst line word rest × SpellsLine rest words
