-- How a word is printed: as it is, or between quotes where a reader of words would not take it as one word as it is. The
-- form is this project's own.
use Rattle.std.specs.Prelude.{ℕ, Bool, not, false, ◌==◌, ◌||◌, ◌&&◌, List, [], ◌∷◌, ◌++◌, if◌then◌else◌, codes}
use Rattle.std.specs.List.{list_all, flat_map}
use Rattle.plan_base.specs.declared.shape.Kind.{Kind}
use Rattle.script_reader.specs.Fields.{kind_word}

-- spaces, tabs, ends of lines, quotes and backslashes stand between quotes
abbrev pub needs_quotes : ℕ → Bool
needs_quotes byte = byte == 32 || (byte == 9 || (byte == 10 || (byte == 13 || (byte == 34 || byte == 92))))

-- not empty, with none of these bytes, and `#` is not the first
abbrev pub is_bare : List ℕ → Bool
is_bare [] = false
is_bare (byte ∷ bytes) = not (byte == 35) && list_all (λ b. not (needs_quotes b)) (byte ∷ bytes)

-- what stands for a byte between quotes
abbrev pub in_quotes : ℕ → List ℕ
in_quotes byte =
    if byte == 34 then codes "\\\""
    else if byte == 92 then codes "\\\\"
    else if byte == 10 then codes "\\n"
    else if byte == 9 then codes "\\t"
    else if byte == 13 then codes "\\r"
    else byte ∷ []

abbrev pub quoted : List ℕ → List ℕ
quoted word = codes "\"" ++ (flat_map in_quotes word ++ codes "\"")

unfoldable pub printed_word : List ℕ → List ℕ
printed_word word = if is_bare word then word else quoted word

-- `KIND:NAME`, with the quotes round the whole word
abbrev pub object_word : Kind → List ℕ → List ℕ
object_word kind name = printed_word (kind_word kind ++ 58 ∷ name)
