-- Rows, node by node.
use Rattle.std.proofs.Common.{◌≡◌, ◌∙◌, ◌<◌, ◌≤◌, ◌+◌, ◌-◌, ◌++◌, ℕ, suc, List, [], ◌∷◌, map, ap, sym, append_assoc, append-nil, add-zero, arith}
use Rattle.std.specs.Prelude.{min, ◌^◌}
use Rattle.std.specs.List.{range_with_len}
use Rattle.std.proofs.lemmas.List.Sums.{sum_by-cons}
use Rattle.graph_store.specs.declared.Row.{Row}
use Rattle.graph_store.specs.Rows.{member_count, row_members}

-- the numbers from this one on, below the count
abbrev pub from_on : ℕ → ℕ → List ℕ
from_on n count = range_with_len n (count - n)

next : (n count : ℕ) → n < count → from_on n count ≡ n ∷ from_on (n + 1) count
next n count within = let one_less : count - n ≡ suc (count - (n + 1)) = omega arith in ap (range_with_len n) one_less

none : (n count : ℕ) → count ≤ n → from_on n count ≡ []
none n count end = let nothing : count - n ≡ 0 = omega arith in ap (range_with_len n) nothing

every : (count : ℕ) → from_on 0 count ≡ range_with_len 0 count
every count = let whole : count - 0 ≡ count = omega arith in ap (range_with_len 0) whole

-- the rows so far, with those that are to come
pub record RowsSoFar {B : Type 0} (f : ℕ → B) (count n : ℕ) (rows : List B) : Type 0 where
  pub joined : rows ++ map f (from_on n count) ≡ map f (range_with_len 0 count)

pub rows_first : {B : Type 0} (f : ℕ → B) (count : ℕ) (rows : List B) → rows ≡ [] → RowsSoFar f count 0 rows
rows_first f count rows empty = record { joined = ap (λ l. l ++ map f (from_on 0 count)) empty ∙ ap (map f) (every count) }

pub rows_more : {B : Type 0} (f : ℕ → B) (count n : ℕ) (rows new : List B) (row : B) → n < count → row ≡ f n → new ≡ rows ++ row ∷ [] → RowsSoFar f count n rows → RowsSoFar f count (n + 1) new
rows_more f count n rows new row within is put before = record {
  joined = ap (λ l. l ++ map f (from_on (n + 1) count)) (put ∙ ap (λ r. rows ++ r ∷ []) is) ∙ append_assoc rows (f n ∷ []) (map f (from_on (n + 1) count))
      ∙ ap (λ l. rows ++ map f l) (sym (next n count within)) ∙ before.joined;
}

pub rows_last : {B : Type 0} (f : ℕ → B) (count n : ℕ) (rows : List B) → count ≤ n → RowsSoFar f count n rows → rows ≡ map f (range_with_len 0 count)
rows_last f count n rows end before = sym (append-nil rows) ∙ ap (λ l. rows ++ map f l) (sym (none n count end)) ∙ before.joined

-- the members so far, with those that are to come
pub record MembersSoFar (f : ℕ → Row) (count n members : ℕ) : Type 0 where
  pub sum : members + member_count (map f (from_on n count)) ≡ member_count (map f (range_with_len 0 count))

pub members_first : (f : ℕ → Row) (count : ℕ) → MembersSoFar f count 0 0
members_first f count = record { sum = omega (arith, ap (λ l. member_count (map f l)) (every count)) }

one_row : (f : ℕ → Row) (count n : ℕ) → n < count → member_count (map f (from_on n count)) ≡ row_members (f n) + member_count (map f (from_on (n + 1) count))
one_row f count n within = ap (λ l. member_count (map f l)) (next n count within) ∙ sum_by-cons row_members (f n) (map f (from_on (n + 1) count))

pub members_more : (f : ℕ → Row) (count n members sum : ℕ) (row : Row) → n < count → row ≡ f n → sum ≡ members + row_members row → MembersSoFar f count n members → MembersSoFar f count (n + 1) sum
members_more f count n members sum row within is added before =
    let same : row_members row ≡ row_members (f n) = ap row_members is in
    record { sum = omega (arith, same, added, one_row f count n within, before.sum) }

pub members_past : (f : ℕ → Row) (count n members limit : ℕ) (row : Row) → n < count → row ≡ f n → limit < members + row_members row → MembersSoFar f count n members → limit < member_count (map f (range_with_len 0 count))
members_past f count n members limit row within is past before =
    let same : row_members row ≡ row_members (f n) = ap row_members is in
    omega (arith, same, past, one_row f count n within, before.sum)

pub members_last : (f : ℕ → Row) (count n members limit : ℕ) → count ≤ n → members ≤ limit → MembersSoFar f count n members → member_count (map f (range_with_len 0 count)) ≤ limit
members_last f count n members limit end few before =
    let nothing : member_count (map f (from_on n count)) ≡ 0 = ap (λ l. member_count (map f l)) (none n count end) in
    omega (arith, nothing, few, before.sum)

-- the steps so far; a counter stays at its last value
pub record StepsSoFar (old n steps : ℕ) : Type 0 where
  pub taken : min steps (2 ^ 64 - 1) ≡ min (old + n) (2 ^ 64 - 1)
  pub bound : 0 < n → steps ≤ 2 ^ 64 - 1

pub steps_first : (old : ℕ) → StepsSoFar old 0 old
steps_first old = record { taken = ap (λ k. min k (2 ^ 64 - 1)) (sym (add-zero old)); bound = λ some. absurd (omega (arith, some)) }

ticked : (old n steps new last : ℕ) → min steps last ≡ min (old + n) last → new ≡ min (steps + 1) last → (min new last ≡ min (old + (n + 1)) last) × (new ≤ last)
ticked old n steps new last before is = (omega (arith, before, is), omega (arith, is))

pub steps_more : (old n steps new : ℕ) → new ≡ min (steps + 1) (2 ^ 64 - 1) → StepsSoFar old n steps → StepsSoFar old (n + 1) new
steps_more old n steps new is before = let both : (min new (2 ^ 64 - 1) ≡ min (old + (n + 1)) (2 ^ 64 - 1)) × (new ≤ 2 ^ 64 - 1) = ticked old n steps new (2 ^ 64 - 1) before.taken is in record { taken = both.0; bound = λ _. both.1 }

counted : (old n steps last count : ℕ) → min steps last ≡ min (old + n) last → steps ≤ last → n ≡ count → steps ≡ min (old + count) last
counted old n steps last count before bound end = omega (arith, before, bound, end)

pub steps_last : (old n steps count : ℕ) → n ≡ count → 0 < count → StepsSoFar old n steps → steps ≡ min (old + count) (2 ^ 64 - 1)
steps_last old n steps count end some before = counted old n steps (2 ^ 64 - 1) count before.taken (before.bound (omega (arith, end, some))) end
