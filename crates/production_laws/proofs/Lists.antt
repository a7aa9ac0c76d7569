-- What the columns of a linear form add to a good, as a sum over lists.
use Rattle.std.proofs.Common.{◌≡◌, ◌∙◌, ◌++◌, ℕ, zero, suc, List, [], ◌∷◌, length, drop, refl, sym, ap}
use Rattle.std.specs.Prelude.{map, Some, slice_get}
use Rattle.std.proofs.Math.Seq.{drop-nil}
use Rattle.fractions.specs.Fraction.{Fraction, zero_fraction, ◌+ʳ◌, ◌*ʳ◌}
use Rattle.fractions.proofs.Laws.{+ʳ_assoc, +ʳ_comm, zero-+ʳ, *ʳ-zero}
use Rattle.linear_table.specs.Parts.{part_at}
use Rattle.linear_table.specs.Plans.{number_at, parts_of}
use Rattle.linear_table.specs.System.{sum_below}
use Rattle.linear_table.specs.declared.LinearColumn.{LinearColumn}
use Rattle.linear_table.proofs.Sums.{sum_zero}

-- what columns add to the good at a place
abbrev pub column_sum : List LinearColumn → List Fraction → ℕ → Fraction
column_sum [] rates g = zero_fraction
column_sum (c ∷ cs) [] g = zero_fraction
column_sum (c ∷ cs) (rate ∷ rates) g = part_at c.parts g *ʳ rate +ʳ column_sum cs rates g

sum_shift : (n : ℕ) (f : ℕ → Fraction) → sum_below (suc n) f ≡ f 0 +ʳ sum_below n (λ j. f (suc j))
sum_shift zero f = +ʳ_comm zero_fraction (f 0)
sum_shift (suc n) f = ap (λ k. k +ʳ f (suc n)) (sum_shift n f) ∙ +ʳ_assoc (f 0) (sum_below n (λ j. f (suc j))) (f (suc n))

pub column_sum_is : (cs : List LinearColumn) (rates : List Fraction) (g : ℕ) → sum_below (length cs) (λ j. part_at (parts_of (slice_get cs j)) g *ʳ number_at rates j) ≡ column_sum cs rates g
column_sum_is [] rates g = refl
column_sum_is (c ∷ cs) [] g =
    sum_zero (suc (length cs)) (λ j. part_at (parts_of (slice_get (c ∷ cs) j)) g *ʳ number_at [] j) (λ j h. *ʳ-zero (part_at (parts_of (slice_get (c ∷ cs) j)) g))
column_sum_is (c ∷ cs) (rate ∷ rates) g =
    sum_shift (length cs) (λ j. part_at (parts_of (slice_get (c ∷ cs) j)) g *ʳ number_at (rate ∷ rates) j)
    ∙ ap (λ k. part_at c.parts g *ʳ rate +ʳ k) (column_sum_is cs rates g)

sum_nothing : (cs : List LinearColumn) (g : ℕ) → column_sum cs [] g ≡ zero_fraction
sum_nothing [] g = refl
sum_nothing (c ∷ cs) g = refl

pub column_sum_append : (a b : List LinearColumn) (rates : List Fraction) (g : ℕ) → column_sum (a ++ b) rates g ≡ column_sum a rates g +ʳ column_sum b (drop (length a) rates) g
column_sum_append [] b rates g = sym (zero-+ʳ (column_sum b rates g))
column_sum_append (c ∷ a) b [] g =
    sym (ap (λ (r : List Fraction). zero_fraction +ʳ column_sum b r g) (drop-nil (suc (length a))) ∙ ap (λ k. zero_fraction +ʳ k) (sum_nothing b g) ∙ zero-+ʳ zero_fraction)
column_sum_append (c ∷ a) b (rate ∷ rates) g =
    ap (λ k. part_at c.parts g *ʳ rate +ʳ k) (column_sum_append a b rates g) ∙ sym (+ʳ_assoc (part_at c.parts g *ʳ rate) (column_sum a rates g) (column_sum b (drop (length a) rates) g))

-- the number at a place of a list that is worked out of another
pub number_at_map : {X : Type 0} (f : X → Fraction) (xs : List X) (k : ℕ) (x : X) → slice_get xs k ≡ Some x → number_at (map f xs) k ≡ f x
number_at_map f [] k x h = absurd (cc)
number_at_map f (y ∷ xs) zero x h = let same : y ≡ x = cc in ap f same
number_at_map f (y ∷ xs) (suc k) x h = number_at_map f xs k x h
