-- Lists made one by one.
use Rattle.std.proofs.Common.{◌≡◌, ◌∙◌, ℕ, ◌+◌, ◌*◌, ◌-◌, ◌<◌, ◌≤◌, suc, Bool, false, true, List, [], ◌∷◌, ◌++◌, Some, length, map, take, refl, sym, ap, arith}
use Rattle.std.specs.Prelude.{filter, if◌then◌else◌, slice_get, sum_by}
use Rattle.std.proofs.lemmas.List.Sums.{sum_by-cons}
use Rattle.std.specs.List.{range_with_len}
use Rattle.std.proofs.lemmas.List.{append_assoc, take_more}
use Rattle.std.proofs.lemmas.List.FromFn.{map-range_with_len_more}
use Rattle.std.proofs.lemmas.Option.{get_or_from_slice_get, slice_get_within}
use Rattle.plan_base.specs.declared.ids.NodeId.{NodeId}
use Rattle.data_edit.specs.declared.books.Book.{Book}
use Rattle.state_changes.specs.States.{State}
use Rattle.planning_state.specs.Worlds.{is_reached, rank_of}
use Rattle.planner_core.specs.Replies.{bits_at, reached_from}

pub taken-more : (all nodes more : List NodeId) (place : ℕ) (m : NodeId) → slice_get all place ≡ Some m → nodes ≡ take place all → more ≡ nodes ++ m ∷ [] → more ≡ take (place + 1) all
taken-more all nodes more place m found e f =
    f ∙ (ap (λ l. l ++ m ∷ []) e ∙ sym (take_more all place m (slice_get_within all place m found) ∙ ap (λ x. take place all ++ x ∷ []) (get_or_from_slice_get all place m m found)))

one-more : (book : Book) (n count : ℕ) → (if is_reached book n then (let x : NodeId × ℕ = (record { 0 = n }, rank_of book n) in x) ∷ [] else []) ++ reached_from book (n + 1) count ≡ reached_from book n (suc count)
one-more book n count =
    elim (is_reached book n) as (λ b. (if b then (let x : NodeId × ℕ = (record { 0 = n }, rank_of book n) in x) ∷ [] else []) ++ reached_from book (n + 1) count
    ≡ map (λ n. (let x : NodeId × ℕ = (record { 0 = n }, rank_of book n) in x)) (if b then n ∷ filter (is_reached book) (range_with_len (n + 1) count) else filter (is_reached book) (range_with_len (n + 1) count))) [ true ↦ refl | false ↦ refl ]

pub listed-more : (book : Book) (n end : ℕ) (nodes more all : List (NodeId × ℕ)) → n < end → more ≡ nodes ++ (if is_reached book n then (let x : NodeId × ℕ = (record { 0 = n }, rank_of book n) in x) ∷ [] else [])
    → nodes ++ reached_from book n (end - n) ≡ all → more ++ reached_from book (n + 1) (end - (n + 1)) ≡ all
listed-more book n end nodes more all inside e h =
    let left : end - n ≡ suc (end - (n + 1)) = omega (arith, inside) in
    ap (λ l. l ++ reached_from book (n + 1) (end - (n + 1))) e
    ∙ (append_assoc nodes _ (reached_from book (n + 1) (end - (n + 1)))
    ∙ (ap (λ l. nodes ++ l) (one-more book n (end - (n + 1)))
    ∙ (ap (λ (k : ℕ). nodes ++ reached_from book n k) (sym left) ∙ h)))

-- ---- marks of the nodes
pub marked-more : (test : ℕ → Bool) (n : ℕ) (marks more : List Bool) → more ≡ marks ++ test n ∷ [] → marks ≡ map test (range_with_len 0 n) → more ≡ map test (range_with_len 0 (n + 1))
marked-more test n marks more e h = e ∙ (ap (λ l. l ++ test n ∷ []) h ∙ sym (map-range_with_len_more test 0 n n (omega arith)))

-- ---- totals over the nodes
counted-next : (book : Book) (n count : ℕ) → (if is_reached book n then 1 else 0) + length (filter (is_reached book) (range_with_len (n + 1) count)) ≡ length (filter (is_reached book) (range_with_len n (suc count)))
counted-next book n count =
    elim (is_reached book n) as (λ b. (if b then 1 else 0) + length (filter (is_reached book) (range_with_len (n + 1) count))
    ≡ length (if b then n ∷ filter (is_reached book) (range_with_len (n + 1) count) else filter (is_reached book) (range_with_len (n + 1) count))) [ true ↦ omega arith | false ↦ omega arith ]

-- so many of the nodes before one, and the rest
pub record Totalled (s : State) (n end reached bits : ℕ) : Type 0 where
  pub counted : reached + length (filter (is_reached s.book) (range_with_len n (end - n))) ≡ length (filter (is_reached s.book) (range_with_len 0 end))
  pub summed : bits + sum_by (bits_at s) (range_with_len n (end - n)) ≡ sum_by (bits_at s) (range_with_len 0 end)
  pub few : reached ≤ n
  pub small : bits ≤ 256 * n

pub totalled-first : (s : State) (end : ℕ) → Totalled s 0 end 0 0
totalled-first s end = record {
  counted = none (length (filter (is_reached s.book) (range_with_len 0 (end - 0)))) (length (filter (is_reached s.book) (range_with_len 0 end))) (ap (λ (k : ℕ). length (filter (is_reached s.book) (range_with_len 0 k))) all);
  summed = none (sum_by (bits_at s) (range_with_len 0 (end - 0))) (sum_by (bits_at s) (range_with_len 0 end)) (ap (λ (k : ℕ). sum_by (bits_at s) (range_with_len 0 k)) all);
  few = omega arith;
  small = omega arith;
}
  where
    all : end - 0 ≡ end
    all = omega arith

    none : (a b : ℕ) → a ≡ b → 0 + a ≡ b
    none a b e = omega (arith, e)

pub totalled-more : (s : State) (n end reached bits reached' bits' : ℕ) → n < end → Totalled s n end reached bits → reached' ≡ reached + (if is_reached s.book n then 1 else 0) → bits' ≡ bits + bits_at s n → bits_at s n ≤ 256 → Totalled s (n + 1) end reached' bits'
totalled-more s n end reached bits reached' bits' inside t e f g = record {
  counted = more (if is_reached s.book n then 1 else 0) (length (filter (is_reached s.book) (range_with_len (n + 1) (end - (n + 1))))) (length (filter (is_reached s.book) (range_with_len n (end - n)))) e
      (counted-next s.book n (end - (n + 1)) ∙ ap (λ (k : ℕ). length (filter (is_reached s.book) (range_with_len n k))) (sym left)) t.counted;
  summed = more-bits (bits_at s n) (sum_by (bits_at s) (range_with_len (n + 1) (end - (n + 1)))) (sum_by (bits_at s) (range_with_len n (end - n))) f
      (sym (sum_by-cons (bits_at s) n (range_with_len (n + 1) (end - (n + 1)))) ∙ ap (λ (k : ℕ). sum_by (bits_at s) (range_with_len n k)) (sym left)) t.summed;
  few = one (is_reached s.book n) e;
  small = omega (arith, t.small, f, g);
}
  where
    left : end - n ≡ suc (end - (n + 1))
    left = omega (arith, inside)

    one : (b : Bool) → reached' ≡ reached + (if b then 1 else 0) → reached' ≤ n + 1
    one true e = omega (arith, e, t.few)
    one false e = omega (arith, e, t.few)

    more : (one rest all : ℕ) {total : ℕ} → reached' ≡ reached + one → one + rest ≡ all → reached + all ≡ total → reached' + rest ≡ total
    more one rest all e f g = omega (arith, e, f, g)

    more-bits : (one rest all : ℕ) {total : ℕ} → bits' ≡ bits + one → one + rest ≡ all → bits + all ≡ total → bits' + rest ≡ total
    more-bits one rest all e f g = omega (arith, e, f, g)

pub totalled-last : (s : State) (n end reached bits : ℕ) → end ≤ n → Totalled s n end reached bits → (reached ≡ length (filter (is_reached s.book) (range_with_len 0 end))) × (bits ≡ sum_by (bits_at s) (range_with_len 0 end))
totalled-last s n end reached bits past t =
    let none : end - n ≡ 0 = omega (arith, past) in (
      sym zero_more ∙ (ap (λ (k : ℕ). reached + length (filter (is_reached s.book) (range_with_len n k))) (sym none) ∙ t.counted),
      sym zero_bits ∙ (ap (λ (k : ℕ). bits + sum_by (bits_at s) (range_with_len n k)) (sym none) ∙ t.summed),
    )
  where
    zero_more : reached + 0 ≡ reached
    zero_more = omega arith

    zero_bits : bits + 0 ≡ bits
    zero_bits = omega arith
