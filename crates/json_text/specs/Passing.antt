-- What is found of a value that is passed over, where nothing is wrong with it. Only clauses of private functions cite it.
use Rattle.std.specs.Prelude.{◌≡◌, ℕ, ◌+◌, ◌≤◌, true, false, List, slice_index, slice_range}
use Rattle.json_text.specs.Kept.{skipped}
use Rattle.json_text.specs.Lexing.{LexRuns, lex_end}
use Rattle.json_text.specs.Machine.{Goes_to, class, value, finish}
use Rattle.json_text.specs.Cutting.{NumberStops}
use Rattle.json_text.specs.Skipping.{IsValueText}
use Rattle.json_text.specs.declared.class.Class.TheVariants.{Quote}
use Rattle.json_text.specs.declared.lex.Lex.TheVariants.{Between}

-- the quote at a place ends the string whose first character stands at another
pub record EndsString (bytes : List ℕ) (at quote : ℕ) : Type 0 where
  pub behind : at ≤ quote
  pub runs : LexRuns Between (slice_range bytes at quote)
  pub whole : lex_end Between (slice_range bytes at quote) ≡ Between
  pub closes : slice_index bytes quote ≡ 34

-- and the string begins with the quote at another
pub record EndsKey (bytes : List ℕ) (at quote : ℕ) : Type 0 where
  pub opens : class (slice_index bytes at) ≡ Quote
  pub string : EndsString bytes (at + 1) quote

-- a value, with that many containers open around it, ends before a place
pub record IsPassed (bytes : List ℕ) (at depth end : ℕ) : Type 0 where
  pub text : IsValueText true depth (slice_range bytes at end)
  pub stops : NumberStops bytes at end
  pub goes : Goes_to bytes at end depth (value false) (finish (skipped at))
