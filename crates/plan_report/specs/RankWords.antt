-- The words behind the name of a node on the line with its rank.
use Rattle.std.specs.Prelude.{◌≡◌, ℕ, ◌++◌, List, codes, decimal, string_bytes}
use Rattle.plan_report.specs.declared.ranked.RankWords.{RankWords}

-- the word `rank` and the rank, each behind a space, and the end of the line
abbrev pub rank_words : ℕ → List ℕ → List ℕ
rank_words rank end = codes " rank " ++ (decimal rank ++ end)

-- the words of this rank
pub record AreRankWords (rank : ℕ) (words : RankWords) : Type 0 where
  pub rank_is : words.rank ≡ rank
  pub text_is : string_bytes words.text ≡ rank_words rank (codes "\n")
