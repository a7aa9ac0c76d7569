-- What the given rank says, and which ranks are right below the least key.
use Rattle.std.proofs.Common.{◌≡◌, ℕ, zero, suc, ◌+◌, ◌<◌, ◌≤◌, Bool, true, false, List, Option, Some, None, length, slice_get, get_or, refl, sym, ◌∙◌, ap, subst, arith, inl, inr}
use Rattle.std.proofs.Math.Path.{fun_ext}
use Rattle.std.proofs.lemmas.Bool.{cases_eq, cases_lt, false≢true}
use Rattle.std.proofs.lemmas.Bool.Decides.{nat_tests}
use Rattle.graph_store.specs.declared.Row.{Row}
use Rattle.reach_ranks.specs.Rounds.{World, Nodes, has_groups, is_barred, is_granted, admits, round, IsWhole}
use Rattle.reach_ranks.specs.Ranks.{rank, AreRanks, is_one_to, within, Agrees}
use Rattle.reach_ranks.proofs.RoundLemmas.{round-suc, round-zero, round-past, admits-within}
use Rattle.reach_ranks.proofs.RankLemmas.{one_to_none, one_to_zero, one_to_yes, one_to_tells, step_rank, step_rank-lower, step_rank-top, step_rank-le, one_to-rank, rank_to-le, within-more, within-past, agrees-admits, admits-barred, admits-granted, admits-by_row}
use Rattle.reach_ranks.specs.Given.{one_above_least, given, lesser, key_of, is_by, HoldsBounds}
use Rattle.index_heap.specs.Keys.{key_at}

-- the first that passes

pub one_above_least-suc : (test : ℕ → Bool) (k : ℕ) → one_above_least test (suc k) ≡ step_rank k (one_above_least test k) (test k)
unfolding one_above_least step_rank
one_above_least-suc test k = refl

pub one_above_least-zero : (test : ℕ → Bool) → one_above_least test zero ≡ 0
unfolding one_above_least
one_above_least-zero test = refl

pub one_above_least-le : (test : ℕ → Bool) (m : ℕ) → one_above_least test m ≤ m
one_above_least-le test zero = omega (arith, one_above_least-zero test)
one_above_least-le test (suc m) =
    omega (arith, one_above_least-suc test m, step_rank-le m (one_above_least test m) (test m) (one_above_least-le test m))

-- by how many numbers were tried: the answer for each of them

pub one_to-one_above_least : (test : ℕ → Bool) → ((i j : ℕ) → i ≤ j → test i ≡ true → test j ≡ true) → (m k : ℕ) → k < m → is_one_to (suc k) (one_above_least test m) ≡ test k
one_to-one_above_least test grows zero k lt = absurd (omega arith)
one_to-one_above_least test grows (suc zero) k lt =
    let e : zero ≡ k = omega arith in
    ap (is_one_to (suc k)) (one_above_least-suc test zero)
    ∙ subst
    (λ i. is_one_to (suc i) (step_rank zero (one_above_least test zero) (test zero)) ≡ test i)
    e
    (step_rank-top
    zero
    (one_above_least test zero)
    (test zero)
    (one_above_least-le test zero)
    (λ h. absurd (false≢true (sym (one_to_zero (one_above_least test zero)) ∙ h))))
one_to-one_above_least test grows (suc (suc m)) k lt =
    ap (is_one_to (suc k)) (one_above_least-suc test (suc m))
    ∙ elim (cases_lt k (suc m)) [
      | inl lower ↦ step_rank-lower (suc k) (suc m) (one_above_least test (suc m)) (test (suc m)) (omega arith) ∙ one_to-one_above_least test grows (suc m) k lower
      | inr top ↦ let e : suc m ≡ k = omega arith in
          subst
          (λ i. is_one_to (suc i) (step_rank (suc m) (one_above_least test (suc m)) (test (suc m))) ≡ test i)
          e
          (step_rank-top
          (suc m)
          (one_above_least test (suc m))
          (test (suc m))
          (one_above_least-le test (suc m))
          (λ h. grows m (suc m) (omega arith) (sym (one_to-one_above_least test grows (suc m) m (omega arith)) ∙ h)))
    ]

-- numbers up to m that pass the same tests up to m

pub same-below : (r s m : ℕ) → r ≤ m → s ≤ m → ((k : ℕ) → k < m → is_one_to (suc k) r ≡ is_one_to (suc k) s) → r ≡ s
same-below zero zero m p q h = refl
same-below zero (suc s) m p q h =
    absurd (false≢true (sym (one_to_none (suc s)) ∙ (h s (omega arith) ∙ one_to_yes (suc s) (suc s) (omega arith) (omega arith))))
same-below (suc r) zero m p q h =
    absurd (false≢true (sym (one_to_none (suc r)) ∙ (sym (h r (omega arith)) ∙ one_to_yes (suc r) (suc r) (omega arith) (omega arith))))
same-below (suc r) (suc s) m p q h =
    let s_le = one_to_tells (suc r) (suc s) (sym (h r (omega arith)) ∙ one_to_yes (suc r) (suc r) (omega arith) (omega arith)) in
    let r_le = one_to_tells (suc s) (suc r) (h s (omega arith) ∙ one_to_yes (suc s) (suc s) (omega arith) (omega arith)) in
    omega (arith, s_le.1, r_le.1)

-- the given rank, test by test

pub admits-grows : (w : World) (ranks : List ℕ) (n i j : ℕ) → i ≤ j → admits w (within ranks i) n ≡ true → admits w (within ranks j) n ≡ true
admits-grows w ranks n i j le = admits-within w (within ranks i) (within ranks j) (within-more ranks i j le) n

pub one_to-given : (w : World) (limit : ℕ) (ranks : List ℕ) (n k : ℕ) → k < limit → is_one_to (suc k) (given w limit ranks n) ≡ admits w (within ranks k) n
unfolding given
one_to-given w limit ranks n k lt =
    one_to-one_above_least (λ i. admits w (within ranks i) n) (admits-grows w ranks n) limit k lt

pub given-le : (w : World) (limit : ℕ) (ranks : List ℕ) (n : ℕ) → given w limit ranks n ≤ limit
unfolding given
given-le w limit ranks n = one_above_least-le (λ i. admits w (within ranks i) n) limit

-- a rank that passes the given rank's tests is the given rank

pub given-is : (w : World) (limit : ℕ) (ranks : List ℕ) (n r : ℕ) → r ≤ limit → ((k : ℕ) → k < limit → is_one_to (suc k) r ≡ admits w (within ranks k) n) → r ≡ given w limit ranks n
given-is w limit ranks n r le h =
    same-below r (given w limit ranks n) limit le (given-le w limit ranks n) (λ k lt. h k lt ∙ sym (one_to-given w limit ranks n k lt))

pub given-from_agrees : (w : World) (limit : ℕ) (ranks : List ℕ) (n : ℕ) → get_or ranks n 0 ≤ limit → Agrees w ranks n → get_or ranks n 0 ≡ given w limit ranks n
given-from_agrees w limit ranks n le a = given-is w limit ranks n (get_or ranks n 0) le (λ k lt. agrees-admits w ranks k n a)

-- where kept and given ranks pass the same tests below k, the ranks below k are right

pub record AreSettledBelow (w : World) (limit : ℕ) (ranks : List ℕ) (k : ℕ) : Type 0 where
  pub same : (n j : ℕ) → n < length w.rows → j < k → is_one_to j (get_or ranks n 0) ≡ is_one_to j (given w limit ranks n)

pub within-settled : (w : World) → IsWhole w → (limit : ℕ) (ranks : List ℕ) → length ranks ≡ length w.rows → (k : ℕ) → AreSettledBelow w limit ranks k → (j n : ℕ) → j < k → j ≤ limit → within ranks j n ≡ round w j n
within-settled w whole limit ranks e k s zero n lt le = one_to_zero (get_or ranks n 0) ∙ sym (round-zero w n)
within-settled w whole limit ranks e k s (suc j) n lt le =
    elim (cases_lt n (length w.rows)) [
      | inl inside ↦ s.same n (suc j) inside lt
          ∙ (one_to-given w limit ranks n j (omega arith)
          ∙ (ap (λ (nodes : Nodes). admits w nodes n) (fun_ext (λ i. within-settled w whole limit ranks e k s j i (omega arith) (omega arith)))
          ∙ sym (round-suc w j n)))
      | inr past ↦ within-past w ranks e (suc j) n past ∙ sym (round-past w whole (suc j) n past)
    ]

-- a given rank of at most k is right where the ranks below k are

pub given-settled : (w : World) → IsWhole w → (limit : ℕ) (ranks : List ℕ) → length ranks ≡ length w.rows → (k : ℕ) → AreSettledBelow w limit ranks (suc k) → (n : ℕ) → k < limit → is_one_to (suc k) (given w limit ranks n) ≡ is_one_to (suc k) (rank w n)
given-settled w whole limit ranks e k s n lt =
    one_to-given w limit ranks n k lt
    ∙ (ap (λ (nodes : Nodes). admits w nodes n) (fun_ext (λ i. within-settled w whole limit ranks e (suc k) s k i (omega arith) (omega arith)))
    ∙ (sym (round-suc w k n) ∙ sym (one_to-rank w whole (suc k) n)))

-- keys

pub lesser-tells : (a b j k : ℕ) → k ≤ lesser a b → j < k → is_one_to j a ≡ is_one_to j b
lesser-tells a b j k le lt = grind (arith, nat_tests)

pub key_of-none : (a b : ℕ) → key_of a b ≡ None → a ≡ b
key_of-none a b h = grind (arith, nat_tests)

pub key_of-some : (a b k : ℕ) → key_of a b ≡ Some k → (a ≡ b → ⊥) × (k ≡ lesser a b)
key_of-some a b k h = (grind (arith, nat_tests), grind (arith, nat_tests))

pub key_of-same : (a b : ℕ) → a ≡ b → key_of a b ≡ None
key_of-same a b e = grind (arith, nat_tests)

pub key_of-other : (a b : ℕ) → (a ≡ b → ⊥) → key_of a b ≡ Some (lesser a b)
key_of-other a b ne = grind (arith, nat_tests)

-- kept and given rank pass the same tests below the least key

pub is_by-refl : (a : Option ℕ) → is_by a a ≡ true
is_by-refl None = refl
is_by-refl (Some x) = grind (arith, nat_tests)

pub is_by-trans : (a b c : Option ℕ) → is_by a b ≡ true → is_by b c ≡ true → is_by a c ≡ true
is_by-trans a b None p q = refl
is_by-trans (Some x) (Some y) (Some z) p q = grind (arith, nat_tests)
is_by-trans (Some x) None (Some z) p q = absurd (false≢true q)
is_by-trans None (Some y) (Some z) p q = absurd (false≢true p)
is_by-trans None None (Some z) p q = absurd (false≢true q)

pub is_by-none : (a : Option ℕ) → is_by None a ≡ true → a ≡ None
is_by-none None h = refl
is_by-none (Some x) h = absurd (false≢true h)

pub is_by-some : (y k : ℕ) (o : Option ℕ) → is_by o (Some y) ≡ true → ((x : ℕ) → o ≡ Some x → k ≤ x) → k ≤ y
is_by-some y k None h least = absurd (false≢true h)
is_by-some y k (Some x) h least =
    let le : k ≤ x = least x refl in
    grind (arith, nat_tests)

pub settled-key : (a b k j : ℕ) (o : Option ℕ) → is_by o (key_of a b) ≡ true → ((x : ℕ) → o ≡ Some x → k ≤ x) → j < k → is_one_to j a ≡ is_one_to j b
settled-key a b k j o h least lt =
    elim (cases_eq a b) [
      | inl same ↦ ap (is_one_to j) same
      | inr other ↦ lesser-tells a b j k (is_by-some (lesser a b) k o (subst (λ t. is_by o t ≡ true) (key_of-other a b other) h) least) lt
    ]

pub settled-from_heap : (w : World) (limit : ℕ) (ranks : List ℕ) (heap : List (Option ℕ)) (k : ℕ) → HoldsBounds w limit ranks heap → ((n x : ℕ) → key_at heap n ≡ Some x → k ≤ x) → AreSettledBelow w limit ranks k
settled-from_heap w limit ranks heap k holds least = record {
  same = λ n j inside lt. settled-key (get_or ranks n 0) (given w limit ranks n) k j (key_at heap n) (holds.keys n inside) (least n) lt;
}

pub none_some : (o : Option ℕ) (x : ℕ) → o ≡ None → o ≡ Some x → ⊥
none_some o x e f = cc

-- with no key left the ranks are right

pub ranks-from_none : (w : World) → IsWhole w → (limit : ℕ) (ranks : List ℕ) (heap : List (Option ℕ)) → length w.rows ≤ limit → HoldsBounds w limit ranks heap → ((n : ℕ) → key_at heap n ≡ None) → AreRanks w ranks
unfolding rank
ranks-from_none w whole limit ranks heap few holds none = record {
  as_long = holds.ranks_long;
  each = λ n inside. same-below (get_or ranks n 0) (rank w n) limit (holds.small n inside) (omega (arith, rank_to-le w (length w.rows) n)) (λ k lt.
      within-settled w whole limit ranks holds.ranks_long (suc (suc k)) (settled-from_heap w limit ranks heap (suc (suc k)) holds (λ m x e. absurd (none_some (key_at heap m) x (none m) e))) (suc k) n (omega arith) (omega arith) ∙ sym (one_to-rank w whole (suc k) n));
}

-- the given rank by the three ways in which a node comes in or not

pub given-barred : (w : World) (limit : ℕ) (ranks : List ℕ) (n : ℕ) → is_barred w n ≡ true → 0 ≡ given w limit ranks n
given-barred w limit ranks n b =
    given-is w limit ranks n 0 (omega arith) (λ k lt. one_to_none (suc k) ∙ sym (admits-barred w (within ranks k) n b))

pub given-granted : (w : World) (limit : ℕ) (ranks : List ℕ) (n : ℕ) → 0 < limit → is_barred w n ≡ false → is_granted w n ≡ true → 1 ≡ given w limit ranks n
given-granted w limit ranks n p b g =
    given-is w limit ranks n 1 (omega arith) (λ k lt. one_to_yes (suc k) 1 (omega arith) (omega arith) ∙ sym (admits-granted w (within ranks k) n b g))

pub given-by_row : (w : World) (limit : ℕ) (ranks : List ℕ) (n r : ℕ) (row : Row) → r ≤ limit → is_barred w n ≡ false → is_granted w n ≡ false → slice_get w.rows n ≡ Some row → ((k : ℕ) → k < limit → is_one_to (k + 1) r ≡ has_groups (within ranks k) (Some row)) → r ≡ given w limit ranks n
given-by_row w limit ranks n r row le b g at tests =
    given-is w limit ranks n r le (λ k lt.
    let e : suc k ≡ k + 1 = omega arith in
    ap (λ i. is_one_to i r) e
    ∙ (tests k lt
    ∙ (ap (has_groups (within ranks k)) (sym at)
    ∙ sym (admits-by_row w (within ranks k) n b g))))
