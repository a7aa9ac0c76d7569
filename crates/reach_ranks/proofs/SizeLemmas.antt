-- The work that is left is at most a few times the size of the change.
use Rattle.std.proofs.Common.{◌≡◌, ℕ, zero, suc, ◌+◌, ◌*◌, ◌<◌, ◌≤◌, Bool, true, false, cond, eqb, ◌||◌, List, [], ◌∷◌, length, get_or, refl, sym, ◌∙◌, ap, subst, arith, inl, inr}
use Rattle.std.proofs.lemmas.Bool.{cases_eq, eq-eqb, ne_eqb}
use Rattle.std.proofs.lemmas.Bool.Decides.{nat_tests}
use Rattle.std.proofs.lemmas.List.Sums.{sum_by-cons}
use Rattle.std.proofs.Math.ListN.{replicate}
use Rattle.std.proofs.lemmas.List.{get_or-replicate}
use Rattle.std.proofs.lemmas.Nat.{mul-le}
use Rattle.std.specs.List.{list_any, sum_by}
use Rattle.plan_base.specs.declared.NodeId.{NodeId}
use Rattle.graph_store.specs.declared.Group.{Group}
use Rattle.graph_store.specs.declared.Row.{Row}
use Rattle.graph_store.specs.Rows.{has_node, has_member, user_count, row_members, member_count}
use Rattle.reach_ranks.specs.Rounds.{World}
use Rattle.reach_ranks.specs.Ranks.{rank, AreRanks}
use Rattle.reach_ranks.specs.Given.{visits_left, sum_below, work_left, size_of}

pub sum_below-le_four : (g a b : ℕ → ℕ) (m : ℕ) → ((n : ℕ) → n < m → g n ≤ 4 * a n + 4 * b n) → sum_below g m ≤ 4 * sum_below a m + 4 * sum_below b m
sum_below-le_four g a b zero le = omega arith
sum_below-le_four g a b (suc m) le =
    omega (arith, le m (omega arith), sum_below-le_four g a b m (λ n lt. le n (omega arith)))

pub sum_below-le_add : (g a b : ℕ → ℕ) (m : ℕ) → ((n : ℕ) → g n ≤ a n + b n) → sum_below g m ≤ sum_below a m + sum_below b m
sum_below-le_add g a b zero le = omega arith
sum_below-le_add g a b (suc m) le = omega (arith, le m, sum_below-le_add g a b m le)

pub sum_below-zero : (g : ℕ → ℕ) (m : ℕ) → ((n : ℕ) → n < m → g n ≡ 0) → sum_below g m ≡ 0
sum_below-zero g zero z = refl
sum_below-zero g (suc m) z = omega (arith, z m (omega arith), sum_below-zero g m (λ n lt. z n (omega arith)))

-- the sum of one place

abbrev pub only_at : (ℕ → ℕ) → ℕ → ℕ → ℕ
only_at f c n = cond (eqb c n) (f n) 0

pub only_at-same : (f : ℕ → ℕ) (c n : ℕ) → c ≡ n → only_at f c n ≡ f n
only_at-same f c n e = rw (eq-eqb c n e) refl

pub only_at-other : (f : ℕ → ℕ) (c n : ℕ) → (c ≡ n → ⊥) → only_at f c n ≡ 0
only_at-other f c n ne = rw (ne_eqb c n ne) refl

pub sum_below-only : (f : ℕ → ℕ) (c m : ℕ) → sum_below (only_at f c) m ≤ f c
sum_below-only f c zero = omega arith
sum_below-only f c (suc m) =
    elim (cases_eq c m) [
      | inl same ↦ omega (arith, only_at-same f c m same, ap f same, sum_below-zero (only_at f c) m (λ n lt. only_at-other f c n (λ e. omega arith)))
      | inr other ↦ omega (arith, only_at-other f c m other, sum_below-only f c m)
    ]

-- the sum over the nodes of a list, each taken once, is at most that over its entries

pub cond-or : (x y : Bool) (k : ℕ) → cond (x || y) k 0 ≤ cond x k 0 + cond y k 0
cond-or true true k = omega arith
cond-or true false k = omega arith
cond-or false true k = omega arith
cond-or false false k = omega arith

pub sum_below-entries : (f : ℕ → ℕ) (changed : List NodeId) (m : ℕ) → sum_below (λ n. cond (has_node changed n) (f n) 0) m ≤ sum_by (λ c. f c.0) changed
sum_below-entries f [] m = omega (arith, sum_below-zero (λ n. cond (has_node [] n) (f n) 0) m (λ n lt. refl))
sum_below-entries f (c ∷ cs) m =
    let more : sum_by (λ (d : NodeId). f d.0) (c ∷ cs) ≡ f c.0 + sum_by (λ (d : NodeId). f d.0) cs = sum_by-cons (λ (d : NodeId). f d.0) c cs in
    omega (
      arith,
      sum_below-le_add
          (λ n. cond (has_node (c ∷ cs) n) (f n) 0)
          (only_at f c.0)
          (λ n. cond (has_node cs n) (f n) 0)
          m
          (λ n. cond-or (eqb c.0 n) (has_node cs n) (f n)),
      sum_below-only f c.0 m,
      sum_below-entries f cs m,
    )

pub length-entries : (f : ℕ → ℕ) (changed : List NodeId) → length changed ≤ sum_by (λ c. 1 + f c.0) changed
length-entries f [] = omega arith
length-entries f (c ∷ cs) =
    let more : sum_by (λ (d : NodeId). 1 + f d.0) (c ∷ cs) ≡ 1 + f c.0 + sum_by (λ (d : NodeId). 1 + f d.0) cs = sum_by-cons (λ (d : NodeId). 1 + f d.0) c cs in
    omega (arith, length-entries f cs)

-- one node's part

pub visits_left-le : (b r : ℕ) → visits_left b r ≤ 2
visits_left-le b r = grind (arith, nat_tests)

pub visits_left-same : (b r : ℕ) → b ≡ r → visits_left b r ≡ 0
visits_left-same b r e = grind (arith, nat_tests)

pub two_visits : (v u : ℕ) → v ≤ 2 → v * (2 + u) ≤ 4 * (1 + u)
two_visits v u le = omega (arith, mul-le v (2 + u) 2 (2 + u) le (omega arith))

pub no_visits : (v u : ℕ) → v ≡ 0 → v * (2 + u) ≤ 0
no_visits v u e = omega (arith, mul-le v (2 + u) 0 (2 + u) (omega arith) (omega arith))

pub part-of : (x : Bool) (v b r u : ℕ) → v ≤ 2 → (b ≡ r → v ≡ 0) → v * (2 + u) ≤ 4 * cond x (1 + u) 0 + 4 * cond (x || eqb b r) 0 (1 + u)
part-of true v b r u le none = omega (arith, two_visits v u le)
part-of false v b r u le none =
    elim (cases_eq b r) [
      | inl same ↦ omega (arith, no_visits v u (none same))
      | inr other ↦ rw (ne_eqb b r other) (omega (arith, two_visits v u le))
    ]

pub part-le : (x : Bool) (b r u : ℕ) → visits_left b r * (2 + u) ≤ 4 * cond x (1 + u) 0 + 4 * cond (x || eqb b r) 0 (1 + u)
part-le x b r u = part-of x (visits_left b r) b r u (visits_left-le b r) (visits_left-same b r)

pub work_left-size : (w : World) (changed : List NodeId) (before after : List ℕ) → AreRanks w after → length changed + work_left w before ≤ 6 * size_of w.rows changed before after
unfolding work_left
work_left-size w changed before after are =
    omega (
      arith,
      sum_below-le_four
          (λ n. visits_left (get_or before n 0) (rank w n) * (2 + user_count w.rows n))
          (λ n. cond (has_node changed n) (1 + user_count w.rows n) 0)
          (λ n. cond (has_node changed n || eqb (get_or before n 0) (get_or after n 0)) 0 (1 + user_count w.rows n))
          (length w.rows)
          (λ n inside. rw (are.each n inside) (part-le (has_node changed n) (get_or before n 0) (rank w n) (user_count w.rows n))),
      sum_below-entries (λ n. 1 + user_count w.rows n) changed (length w.rows),
      length-entries (λ n. user_count w.rows n) changed,
    )

-- from no ranks, the graph's size bounds the work

pub sum_below-le : (g h : ℕ → ℕ) (m : ℕ) → ((n : ℕ) → n < m → g n ≤ h n) → sum_below g m ≤ sum_below h m
sum_below-le g h zero le = omega arith
sum_below-le g h (suc m) le = omega (arith, le m (omega arith), sum_below-le g h m (λ n lt. le n (omega arith)))

pub sum_below-plus_two : (g : ℕ → ℕ) (m : ℕ) → sum_below (λ n. 2 + g n) m ≤ 2 * m + sum_below g m
sum_below-plus_two g zero = omega arith
sum_below-plus_two g (suc m) = omega (arith, sum_below-plus_two g m)

-- how many numbers a list of members has, each taken once

pub sum_below-members : (members : List NodeId) (m : ℕ) → sum_below (λ n. cond (has_node members n) 1 0) m ≤ length members
sum_below-members [] m = omega (arith, sum_below-zero (λ n. cond (has_node [] n) 1 0) m (λ n lt. refl))
sum_below-members (c ∷ cs) m =
    omega (
      arith,
      sum_below-le_add
          (λ n. cond (has_node (c ∷ cs) n) 1 0)
          (only_at (λ _. 1) c.0)
          (λ n. cond (has_node cs n) 1 0)
          m
          (λ n. cond-or (eqb c.0 n) (has_node cs n) 1),
      sum_below-only (λ _. 1) c.0 m,
      sum_below-members cs m,
    )

pub sum_below-groups : (groups : List Group) (m : ℕ) → sum_below (λ n. cond (list_any (λ group. has_node group.members n) groups) 1 0) m ≤ sum_by (λ group. length group.members) groups
sum_below-groups [] m = omega (arith, sum_below-zero (λ n. cond (list_any (λ (group : Group). has_node group.members n) []) 1 0) m (λ n lt. refl))
sum_below-groups (group ∷ groups) m =
    let more : sum_by (λ (d : Group). length d.members) (group ∷ groups) ≡ length group.members + sum_by (λ (d : Group). length d.members) groups = sum_by-cons (λ (d : Group). length d.members) group groups in
    omega (
      arith,
      sum_below-le_add
          (λ n. cond (list_any (λ (d : Group). has_node d.members n) (group ∷ groups)) 1 0)
          (λ n. cond (has_node group.members n) 1 0)
          (λ n. cond (list_any (λ (d : Group). has_node d.members n) groups) 1 0)
          m
          (λ n. cond-or (has_node group.members n) (list_any (λ (d : Group). has_node d.members n) groups) 1),
      sum_below-members group.members m,
      sum_below-groups groups m,
    )

pub sum_below-users : (rows : List Row) (m : ℕ) → sum_below (λ n. user_count rows n) m ≤ member_count rows
sum_below-users [] m = omega (arith, sum_below-zero (λ n. user_count [] n) m (λ n lt. refl))
sum_below-users (row ∷ rows) m =
    let more : member_count (row ∷ rows) ≡ row_members row + member_count rows = sum_by-cons row_members row rows in
    omega (
      arith,
      sum_below-le_add
          (λ n. user_count (row ∷ rows) n)
          (λ n. cond (has_member row n) 1 0)
          (λ n. user_count rows n)
          m
          (λ n. let e : user_count (row ∷ rows) n ≡ cond (has_member row n) 1 0 + user_count rows n = sum_by-cons (λ (r : Row). cond (has_member r n) 1 0) row rows in omega arith),
      sum_below-groups row.groups m,
      sum_below-users rows m,
    )

pub visits-from_zero : (r : ℕ) → visits_left 0 r ≤ 1
visits-from_zero r = grind (arith, nat_tests)

pub one_visit : (v u : ℕ) → v ≤ 1 → v * (2 + u) ≤ 2 + u
one_visit v u le = omega (arith, mul-le v (2 + u) 1 (2 + u) le (omega arith))

pub work_left-from_zero : (w : World) (ranks : List ℕ) → ranks ≡ replicate (length w.rows) 0 → length w.rows + work_left w ranks ≤ 4 * (length w.rows + member_count w.rows)
unfolding work_left
work_left-from_zero w ranks zeros =
    omega (
      arith,
      sum_below-le
          (λ n. visits_left (get_or ranks n 0) (rank w n) * (2 + user_count w.rows n))
          (λ n. 2 + user_count w.rows n)
          (length w.rows)
          (λ n lt.
          let z : get_or ranks n 0 ≡ 0 = ap (λ (xs : List ℕ). get_or xs n 0) zeros ∙ get_or-replicate (length w.rows) n 0 0 lt in
          one_visit (visits_left (get_or ranks n 0) (rank w n)) (user_count w.rows n) (subst (λ k. visits_left k (rank w n) ≤ 1) (sym z) (visits-from_zero (rank w n)))),
      sum_below-plus_two (λ n. user_count w.rows n) (length w.rows),
      sum_below-users w.rows (length w.rows),
    )
