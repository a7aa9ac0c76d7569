-- What is said of the lines of a script: of a refused one, and of one that solves a table which has no plan.
use Rattle.std.specs.Prelude.{ℕ, List, [], ◌++◌, Option, None, Some, codes, decimal}
use Rattle.plan_report.specs.Words.{printed_word}
use Rattle.line_causes.specs.Causes.{cause_text}
use Rattle.program_runs.specs.Hints.{hint_line}
use Rattle.line_causes.specs.declared.causes.Cause.{Cause}
use Rattle.line_causes.specs.declared.causes.Short.{Short}
use Rattle.line_causes.specs.declared.causes.Short.TheVariants as short

-- a line, and a column where one word is at fault
abbrev pub place_text : ℕ → Option ℕ → List ℕ
place_text line (Some column) = codes "line " ++ (decimal line ++ (codes ", column " ++ (decimal column ++ codes ": ")))
place_text line None = codes "line " ++ (decimal line ++ codes ": ")

-- the word that was likely meant
abbrev pub like_text : Option (List ℕ) → List ℕ
like_text (Some word) = codes "; like it is " ++ printed_word word
like_text None = []

-- of a refused line: where it is at fault, the cause, and the word that was likely meant
unfoldable pub refused_hint : Option (List ℕ) → ℕ → Option ℕ → Cause → Option (List ℕ) → List ℕ
refused_hint script line column cause like = hint_line script (place_text line column ++ (cause_text cause ++ like_text like))

-- how many more there are
abbrev pub more_hint : Option (List ℕ) → ℕ → List ℕ
more_hint script more = hint_line script (codes "and " ++ (decimal more ++ codes " more"))

-- why a table has no plan, as far as one good tells it
abbrev pub short_text : Short → List ℕ
short_text (short.Ungiven good) = codes "no row or import gives " ++ printed_word good
short_text (short.Warmer base variant) =
    codes "no row or import gives " ++ (printed_word base ++ (codes ", but " ++ printed_word variant))
short_text (short.Unmet good) = codes "no rates give as much of " ++ (printed_word good ++ codes " as is taken and wanted")

-- of a table without a plan
unfoldable pub short_hint : Option (List ℕ) → ℕ → List ℕ → Short → List ℕ
short_hint script line table short = hint_line script (place_text line None ++ (codes "table " ++ (printed_word table ++ (codes " has no plan: " ++ short_text short))))

-- of a dump with nothing of a game in it
abbrev pub empty_hint : Option (List ℕ) → List ℕ
empty_hint dump = hint_line dump (codes "no section of Factorio 1.1 found")
