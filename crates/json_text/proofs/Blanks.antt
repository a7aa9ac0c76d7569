-- Blanks between two places change nothing.
use Rattle.std.proofs.Common.{◌≡◌, ◌∙◌, ℕ, ◌≤◌, List, [], ◌∷◌, length, drop, refl, ap, subst, arith, true}
use Rattle.std.specs.Prelude.{slice_range}
use Rattle.std.specs.List.{list_all}
use Rattle.std.proofs.lemmas.Bool.Decides.{nat_tests}
use Rattle.std.proofs.lemmas.Bool.{and_parts, and_from}
use Rattle.json_text.specs.Text.{is_space, IsSpace}
use Rattle.json_text.specs.Blanks.{is_blank}
use Rattle.json_text.specs.Kept.{Wishes}
use Rattle.json_text.specs.Accepted.{all_bounds}
use Rattle.json_text.specs.Machine.{State, from, run, StaysAtSpace}
use Rattle.json_text.proofs.Steps.{slice-length}
use Rattle.json_text.proofs.Lexed.{drop_split, slice_join}
use Rattle.json_text.proofs.Pieces.{run-space}
use Rattle.json_text.proofs.Spaces.{space_append}

pub blanks_space : (xs : List ℕ) → list_all is_blank xs ≡ true → IsSpace xs
blanks_space [] h = refl
blanks_space (b ∷ xs) h = let parts = and_parts (is_blank b) (list_all is_blank xs) h in and_from (is_space b) (list_all is_space xs) (one b parts.0) (blanks_space xs parts.1)
  where
    one : (b : ℕ) → is_blank b ≡ true → is_space b ≡ true
    one b h = grind (arith, nat_tests)

pub space_join : (bytes : List ℕ) (a b c : ℕ) → a ≤ b → b ≤ c → c ≤ length bytes → IsSpace (slice_range bytes a b) → IsSpace (slice_range bytes b c) → IsSpace (slice_range bytes a c)
space_join bytes a b c ab bc within h i = subst IsSpace (slice_join bytes a b c ab bc within) (space_append (slice_range bytes a b) (slice_range bytes b c) h i)

pub from-spaces : (w : Wishes) (bytes : List ℕ) (at place : ℕ) (σ : State) → at ≤ place → place ≤ length bytes → IsSpace (slice_range bytes at place) → StaysAtSpace σ → from w bytes at σ ≡ from w bytes place σ
unfolding from
from-spaces w bytes at place σ on within space stays =
    let xs = slice_range bytes at place in
    ap (run all_bounds w at σ) (drop_split bytes at place on) ∙ run-space all_bounds w at σ xs (drop place bytes) place space stays (omega (arith, slice-length bytes at place on within))
