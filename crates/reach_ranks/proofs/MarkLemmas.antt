-- Keys that may be early: what they say of the right keys, and how they follow a change of one node's rank.
use Rattle.std.proofs.Common.{◌≡◌, ◌≢◌, ℕ, zero, suc, ◌+◌, ◌-◌, ◌^◌, ◌<◌, ◌≤◌, max, min, Bool, true, false, cond, eqb, List, Option, Some, None, length, get_or, set, take, refl, sym, ◌∙◌, ap, ap₂, subst, arith, inl, inr, length-set, get_or-set_same, get_or-set_other}
use Rattle.std.proofs.Math.Path.{fun_ext}
use Rattle.std.proofs.lemmas.Bool.{cases_lt, cases_eq, cases_Bool, false≢true, or_parts, ne_eqb, eq-eqb, eqb-false}
use Rattle.std.proofs.lemmas.Bool.Decides.{nat_tests}
use Rattle.plan_base.specs.declared.NodeId.{NodeId}
use Rattle.graph_store.specs.Rows.{has_node, user_count, AreUsers}
use Rattle.index_heap.specs.Keys.{key_at, IsLeastAt}
use Rattle.reach_ranks.specs.Rounds.{World, Nodes, admits}
use Rattle.reach_ranks.specs.Ranks.{is_one_to, within}
use Rattle.reach_ranks.proofs.RoundLemmas.{admits-within}
use Rattle.reach_ranks.proofs.RankLemmas.{one_to_none, one_to_no, one_to_yes, one_to_tells}
use Rattle.reach_ranks.specs.Floors.{is_above, AreAbove, IsFloor}
use Rattle.reach_ranks.specs.Given.{given, key_of, is_by, is_same_key, HoldsBounds, HoldsKeys, key_when_comes, key_when_goes, key_at_floor, key_after, next_kept, sum_below, early_keys, GivesKeys}
use Rattle.reach_ranks.proofs.GivenLemmas.{one_to-given, given-le, key_of-none, key_of-some, is_by-refl, is_by-trans, is_by-none, key_of-same}
use Rattle.reach_ranks.proofs.RepairLemmas.{given-same, not_user, sum_below-drop, lesser-of, lesser-le, over-above, or-first, has_node-more, over-is}
use Rattle.reach_ranks.proofs.SizeLemmas.{sum_below-members, sum_below-zero}

-- orders of keys

pub same_key-refl : (a : Option ℕ) → is_same_key a a ≡ true
same_key-refl None = refl
same_key-refl (Some x) = grind (arith, nat_tests)

pub same_key-is : (a : Option ℕ) (k : ℕ) → is_same_key a (Some k) ≡ true → a ≡ Some k
same_key-is None k h = absurd (false≢true h)
same_key-is (Some x) k h =
    let e : x ≡ k = grind (arith, nat_tests) in
    ap (λ y. Some y) e

pub same_key-not : (a : Option ℕ) (k : ℕ) → is_same_key a (Some k) ≡ false → is_same_key (Some k) a ≡ false
same_key-not None k h = refl
same_key-not (Some x) k h = grind (arith, nat_tests)

-- a key after a change is no later than before

pub comes-lowers : (y t : Option ℕ) (r next : ℕ) → is_by y t ≡ true → is_by (key_when_comes y r next) t ≡ true
comes-lowers y None r next h = refl
comes-lowers None (Some k) r next h = absurd (false≢true h)
comes-lowers (Some x) (Some k) r next h = grind (arith, nat_tests)

pub goes-lowers : (y t : Option ℕ) (r k : ℕ) → is_by y t ≡ true → is_by (key_when_goes y r k) t ≡ true
goes-lowers y None r k h = refl
goes-lowers None (Some j) r k h = absurd (false≢true h)
goes-lowers (Some x) (Some j) r k h = grind (arith, nat_tests)

pub at_floor-none : (y : Option ℕ) (r next floor : ℕ) → floor ≡ 0 → key_at_floor y r next floor ≡ y
at_floor-none y r next floor zero_is = ap (λ (b : Bool). cond b y (key_when_comes y r (max next floor))) (eq-eqb floor 0 zero_is)

pub at_floor-some : (y : Option ℕ) (r next floor : ℕ) → (floor ≡ 0 → ⊥) → key_at_floor y r next floor ≡ key_when_comes y r (max next floor)
at_floor-some y r next floor some = ap (λ (b : Bool). cond b y (key_when_comes y r (max next floor))) (ne_eqb floor 0 some)

pub floor-lowers : (y t : Option ℕ) (r next floor : ℕ) → is_by y t ≡ true → is_by (key_at_floor y r next floor) t ≡ true
floor-lowers y t r next floor h =
    elim (cases_eq floor 0) [
      | inl zero_is ↦ ap (λ x. is_by x t) (at_floor-none y r next floor zero_is) ∙ h
      | inr some ↦ ap (λ x. is_by x t) (at_floor-some y r next floor some) ∙ comes-lowers y t r (max next floor) h
    ]

pub after-lowers : (comes : Bool) (k floor r : ℕ) (y t : Option ℕ) → is_by y t ≡ true → is_by (key_after comes k floor y r) t ≡ true
after-lowers true k floor r y t h = floor-lowers y t r (min (k + 1) (2 ^ 32 - 1)) floor h
after-lowers false k floor r y t h = goes-lowers y t r k h

-- how the rank that a row gives changes where a node gets rank k, or loses it

pub record ComesTo (k a b : ℕ) : Type 0 where
  pub same : 0 < a → a ≤ k + 1 → b ≡ a
  pub later : (0 < a → k + 1 < a) → 0 < b → k < b
  pub stays : 0 < a → 0 < b
  pub less : 0 < a → b ≤ a

pub record GoesTo (k a b : ℕ) : Type 0 where
  pub same : a ≤ k → b ≡ a
  pub later : k < a → 0 < b → a ≤ b

pub comes-right : (y : Option ℕ) (r a b k next : ℕ) → next ≤ k + 1 → ComesTo k a b → is_by y (key_of r a) ≡ true → is_by (key_when_comes y r next) (key_of r b) ≡ true
comes-right None r a b k next le to h =
    let e : r ≡ a = key_of-none r a (is_by-none (key_of r a) h) in
    elim (cases_eq r b) [
      | inl same ↦ grind (arith, nat_tests)
      | inr other ↦ grind (arith, nat_tests, to.same, to.later)
    ]
comes-right (Some x) r a b k next le to h = grind (arith, nat_tests, to.same, to.later)

pub goes-right : (y : Option ℕ) (r a b k : ℕ) → GoesTo k a b → is_by y (key_of r a) ≡ true → is_by (key_when_goes y r k) (key_of r b) ≡ true
goes-right None r a b k to h =
    let e : r ≡ a = key_of-none r a (is_by-none (key_of r a) h) in
    grind (arith, nat_tests, to.same, to.later)
goes-right (Some x) r a b k to h = grind (arith, nat_tests, to.same, to.later)

-- a user is not looked at before its floor

pub above-zero : (floor r : ℕ) → floor ≡ 0 → is_above floor r ≡ true → r ≡ 0
above-zero floor r e h = grind (arith, nat_tests)

pub above-late : (y : Option ℕ) (r a b floor : ℕ) → 0 < floor → is_above floor r ≡ true → is_above floor b ≡ true → (0 < a → 0 < b) → (0 < a → b ≤ a) → is_by y (key_of r a) ≡ true → is_by (key_when_comes y r floor) (key_of r b) ≡ true
above-late None r a b floor pos above_r above_b stays less h =
    let e : r ≡ a = key_of-none r a (is_by-none (key_of r a) h) in
    elim (cases_eq r b) [
      | inl same ↦ grind (arith, nat_tests)
      | inr other ↦ grind (arith, nat_tests, stays, less)
    ]
above-late (Some x) r a b floor pos above_r above_b stays less h = grind (arith, nat_tests)

pub floor-right : (y : Option ℕ) (r a b k next floor : ℕ) → next ≤ k + 1 → ComesTo k a b → is_above floor r ≡ true → is_above floor b ≡ true → is_by y (key_of r a) ≡ true → is_by (key_at_floor y r next floor) (key_of r b) ≡ true
floor-right y r a b k next floor le to above_r above_b h =
    elim (cases_eq floor 0) [
      | inl zero_is ↦ ap (λ t. is_by (key_at_floor y r next floor) t) (key_of-same r b (above-zero floor r zero_is above_r ∙ sym (above-zero floor b zero_is above_b)))
      | inr some ↦ ap (λ x. is_by x (key_of r b)) (at_floor-some y r next floor some)
          ∙ elim (cases_lt (k + 1) floor) [
            | inl late ↦
                let floor_is : max next floor ≡ floor = omega arith in
                ap (λ m. is_by (key_when_comes y r m) (key_of r b)) floor_is ∙ above-late y r a b floor (omega arith) above_r above_b to.stays to.less h
            | inr soon ↦ comes-right y r a b k (max next floor) (omega arith) to h
          ]
    ]

-- the tests of the given rank before and after

pub test-comes : (a b k limit : ℕ) → a ≤ limit → b ≤ limit → ((j : ℕ) → j < k → j < limit → is_one_to (suc j) a ≡ is_one_to (suc j) b) → ((j : ℕ) → j < limit → is_one_to (suc j) a ≡ true → is_one_to (suc j) b ≡ true) → ComesTo k a b
test-comes zero zero k limit p q below more = record { same = λ pos le. refl; later = λ h pos. absurd (omega arith); stays = λ pos. pos; less = λ pos. omega arith }
test-comes zero (suc b) k limit p q below more = record {
  same = λ pos le. absurd (omega arith);
  later = λ h pos. elim (cases_lt b k) [
    | inl lower ↦ absurd (false≢true (sym (one_to_none (suc b)) ∙ (below b lower (omega arith) ∙ one_to_yes (suc b) (suc b) (omega arith) (omega arith))))
    | inr upper ↦ omega arith
  ];
  stays = λ pos. omega arith;
  less = λ pos. absurd (omega arith);
}
test-comes (suc a) zero k limit p q below more = record {
  same = λ pos le. absurd (false≢true (sym (one_to_none (suc a)) ∙ more a (omega arith) (one_to_yes (suc a) (suc a) (omega arith) (omega arith))));
  later = λ h pos. absurd (omega arith);
  stays = λ pos. absurd (false≢true (sym (one_to_none (suc a)) ∙ more a (omega arith) (one_to_yes (suc a) (suc a) (omega arith) (omega arith))));
  less = λ pos. omega arith;
}
test-comes (suc a) (suc b) k limit p q below more =
    let tells = one_to_tells (suc a) (suc b) (more a (omega arith) (one_to_yes (suc a) (suc a) (omega arith) (omega arith))) in
    elim (cases_lt b k) [
      | inl lower ↦
          let back = one_to_tells (suc b) (suc a) (below b lower (omega arith) ∙ one_to_yes (suc b) (suc b) (omega arith) (omega arith)) in
          record { same = λ pos le. omega (arith, tells.1, back.1); later = λ h pos. absurd (omega (arith, back.1, h (omega arith))); stays = λ pos. omega arith; less = λ pos. omega (arith, tells.1) }
      | inr upper ↦ record { same = λ pos le. omega (arith, tells.1); later = λ h pos. omega arith; stays = λ pos. omega arith; less = λ pos. omega (arith, tells.1) }
    ]

pub test-goes : (a b k limit : ℕ) → a ≤ limit → b ≤ limit → ((j : ℕ) → j < k → j < limit → is_one_to (suc j) a ≡ is_one_to (suc j) b) → ((j : ℕ) → j < limit → is_one_to (suc j) b ≡ true → is_one_to (suc j) a ≡ true) → GoesTo k a b
test-goes zero zero k limit p q below less = record { same = λ le. refl; later = λ lt pos. absurd (omega arith) }
test-goes zero (suc b) k limit p q below less =
    absurd (false≢true (sym (one_to_none (suc b)) ∙ less b (omega arith) (one_to_yes (suc b) (suc b) (omega arith) (omega arith))))
test-goes (suc a) zero k limit p q below less = record {
  same = λ le. absurd (false≢true (sym (one_to_none (suc a)) ∙ (sym (below a (omega arith) (omega arith)) ∙ one_to_yes (suc a) (suc a) (omega arith) (omega arith))));
  later = λ lt pos. absurd (omega arith);
}
test-goes (suc a) (suc b) k limit p q below less =
    let tells = one_to_tells (suc b) (suc a) (less b (omega arith) (one_to_yes (suc b) (suc b) (omega arith) (omega arith))) in
    record {
      same = λ le.
          let back = one_to_tells (suc a) (suc b) (sym (below a (omega arith) (omega arith)) ∙ one_to_yes (suc a) (suc a) (omega arith) (omega arith)) in
          omega (arith, tells.1, back.1);
      later = λ lt pos. omega (arith, tells.1);
    }

-- the nodes of rank 1 to j, before and after

pub within-set : (ranks : List ℕ) (u x j n : ℕ) → u < length ranks → is_one_to j (get_or ranks u 0) ≡ is_one_to j x → within ranks j n ≡ within (set ranks u x) j n
within-set ranks u x j n inside same =
    elim (cases_eq n u) [
      | inl here ↦ subst (λ m. is_one_to j (get_or ranks m 0) ≡ is_one_to j (get_or (set ranks u x) m 0)) (sym here) (same ∙ sym (ap (is_one_to j) (get_or-set_same ranks u x 0 inside)))
      | inr other ↦ sym (ap (is_one_to j) (get_or-set_other ranks u n x 0 other))
    ]

pub within-to_set : (ranks : List ℕ) (u x j n : ℕ) → u < length ranks → (is_one_to j (get_or ranks u 0) ≡ true → is_one_to j x ≡ true) → within ranks j n ≡ true → within (set ranks u x) j n ≡ true
within-to_set ranks u x j n inside more h =
    elim (cases_eq n u) [
      | inl here ↦ subst (λ m. is_one_to j (get_or (set ranks u x) m 0) ≡ true) (sym here) (ap (is_one_to j) (get_or-set_same ranks u x 0 inside) ∙ more (subst (λ m. is_one_to j (get_or ranks m 0) ≡ true) here h))
      | inr other ↦ ap (is_one_to j) (get_or-set_other ranks u n x 0 other) ∙ h
    ]

pub within-from_set : (ranks : List ℕ) (u x j n : ℕ) → u < length ranks → (is_one_to j x ≡ true → is_one_to j (get_or ranks u 0) ≡ true) → within (set ranks u x) j n ≡ true → within ranks j n ≡ true
within-from_set ranks u x j n inside less h =
    elim (cases_eq n u) [
      | inl here ↦ subst (λ m. is_one_to j (get_or ranks m 0) ≡ true) (sym here) (less (sym (ap (is_one_to j) (get_or-set_same ranks u x 0 inside)) ∙ subst (λ m. is_one_to j (get_or (set ranks u x) m 0) ≡ true) here h))
      | inr other ↦ sym (ap (is_one_to j) (get_or-set_other ranks u n x 0 other)) ∙ h
    ]

pub given-test : (w : World) (limit : ℕ) (ranks : List ℕ) (u x n j : ℕ) → u < length ranks → is_one_to j (get_or ranks u 0) ≡ is_one_to j x → j < limit → is_one_to (suc j) (given w limit ranks n) ≡ is_one_to (suc j) (given w limit (set ranks u x) n)
given-test w limit ranks u x n j inside same lt =
    one_to-given w limit ranks n j lt
    ∙ (ap (λ (nodes : Nodes). admits w nodes n) (fun_ext (λ m. within-set ranks u x j m inside same))
    ∙ sym (one_to-given w limit (set ranks u x) n j lt))

pub given-comes : (w : World) (limit : ℕ) (ranks : List ℕ) (u k n : ℕ) → u < length ranks → 0 < k → ((j : ℕ) → j < k → is_one_to j (get_or ranks u 0) ≡ false) → ComesTo k (given w limit ranks n) (given w limit (set ranks u k) n)
given-comes w limit ranks u k n inside pos above =
    test-comes
    (given w limit ranks n)
    (given w limit (set ranks u k) n)
    k
    limit
    (given-le w limit ranks n)
    (given-le w limit (set ranks u k) n)
    (λ j below lt. given-test w limit ranks u k n j inside (above j below ∙ sym (one_to_no j k below)) lt)
    (λ j lt h.
    one_to-given w limit (set ranks u k) n j lt
    ∙ admits-within w (within ranks j) (within (set ranks u k) j) (λ m. within-to_set ranks u k j m inside (λ is. elim (cases_lt j k) [
      | inl below ↦ absurd (false≢true (sym (above j below) ∙ is))
      | inr past ↦ one_to_yes j k pos past
    ])) n (sym (one_to-given w limit ranks n j lt) ∙ h))

pub given-goes : (w : World) (limit : ℕ) (ranks : List ℕ) (u k n : ℕ) → u < length ranks → get_or ranks u 0 ≡ k → GoesTo k (given w limit ranks n) (given w limit (set ranks u 0) n)
given-goes w limit ranks u k n inside is_k =
    test-goes
    (given w limit ranks n)
    (given w limit (set ranks u 0) n)
    k
    limit
    (given-le w limit ranks n)
    (given-le w limit (set ranks u 0) n)
    (λ j below lt. given-test w limit ranks u 0 n j inside (ap (is_one_to j) is_k ∙ (one_to_no j k below ∙ sym (one_to_none j))) lt)
    (λ j lt h.
    one_to-given w limit ranks n j lt
    ∙ admits-within w (within (set ranks u 0) j) (within ranks j) (λ m. within-from_set ranks u 0 j m inside (λ is. absurd (false≢true (sym (one_to_none j) ∙ is)))) n (sym (one_to-given w limit (set ranks u 0) n j lt) ∙ h))

-- what a visit leaves

pub put-other : (heap : List (Option ℕ)) (u n : ℕ) (key : Option ℕ) → n ≢ u → key_at (set (set heap u None) u key) n ≡ key_at heap n
put-other heap u n key other = get_or-set_other (set heap u None) u n key None other ∙ get_or-set_other heap u n None None other

pub put-here : (heap : List (Option ℕ)) (u : ℕ) (key : Option ℕ) → u < length heap → key_at (set (set heap u None) u key) u ≡ key
put-here heap u key inside = get_or-set_same (set heap u None) u key None (omega (arith, length-set heap u None))

pub put-long : (heap : List (Option ℕ)) (u : ℕ) (key : Option ℕ) → length (set (set heap u None) u key) ≡ length heap
put-long heap u key = length-set (set heap u None) u key ∙ length-set heap u None

pub bounds-before : (w : World) (limit : ℕ) (ranks : List ℕ) (heap : List (Option ℕ)) (u x n : ℕ) → HoldsBounds w limit ranks heap → u < length w.rows → n < length w.rows → is_by (key_at (set (set heap u None) u (key_of x (given w limit ranks u))) n) (key_of (get_or (set ranks u x) n 0) (given w limit ranks n)) ≡ true
bounds-before w limit ranks heap u x n holds inside in_n =
    elim (cases_eq n u) [
      | inl here ↦ subst
          (λ m. is_by (key_at (set (set heap u None) u (key_of x (given w limit ranks u))) m) (key_of (get_or (set ranks u x) m 0) (given w limit ranks m)) ≡ true)
          (sym here)
          (ap₂
          (λ a r. is_by a (key_of r (given w limit ranks u)))
          (put-here heap u (key_of x (given w limit ranks u)) (omega (arith, holds.heap_long)))
          (get_or-set_same ranks u x 0 (omega (arith, holds.ranks_long)))
          ∙ is_by-refl (key_of x (given w limit ranks u)))
      | inr other ↦ ap₂
          (λ a r. is_by a (key_of r (given w limit ranks n)))
          (put-other heap u n (key_of x (given w limit ranks u)) other)
          (get_or-set_other ranks u n x 0 other)
          ∙ holds.keys n in_n
    ]

pub small-set : (ranks : List ℕ) (u x n limit : ℕ) → u < length ranks → x ≤ limit → get_or ranks n 0 ≤ limit → get_or (set ranks u x) n 0 ≤ limit
small-set ranks u x n limit inside le was =
    elim (cases_eq n u) [
      | inl here ↦ subst (λ m. get_or (set ranks u x) m 0 ≤ limit) (sym here) (omega (arith, get_or-set_same ranks u x 0 inside))
      | inr other ↦ omega (arith, get_or-set_other ranks u n x 0 other)
    ]

pub bounds-marked : (w : World) (limit : ℕ) (floor ranks : List ℕ) (heap : List (Option ℕ)) (u k x : ℕ) (comes : Bool) (users : List NodeId) (new : List (Option ℕ)) → HoldsBounds w limit ranks heap → u < length w.rows → x ≤ limit → AreUsers w.rows u users → GivesKeys comes k floor (set ranks u x) users (set (set heap u None) u (key_of x (given w limit ranks u))) new → ((n : ℕ) → n < length w.rows → (y : Option ℕ) → is_by y (key_of (get_or (set ranks u x) n 0) (given w limit ranks n)) ≡ true → is_by (key_after comes k (get_or floor n 1) y (get_or (set ranks u x) n 0)) (key_of (get_or (set ranks u x) n 0) (given w limit (set ranks u x) n)) ≡ true) → HoldsBounds w limit (set ranks u x) new
bounds-marked w limit floor ranks heap u k x comes users new holds inside le are marks step =
    let key : Option ℕ = key_of x (given w limit ranks u) in
    record {
      ranks_long = length-set ranks u x ∙ holds.ranks_long;
      heap_long = marks.as_long ∙ (put-long heap u key ∙ holds.heap_long);
      small = λ n in_n. small-set ranks u x n limit (omega (arith, holds.ranks_long)) le (holds.small n in_n);
      keys = λ n in_n. elim (cases_Bool (has_node users n)) [
        | inl user ↦ is_by-trans
            (key_at new n)
            (key_after comes k (get_or floor n 1) (key_at (set (set heap u None) u key) n) (get_or (set ranks u x) n 0))
            (key_of (get_or (set ranks u x) n 0) (given w limit (set ranks u x) n))
            (marks.at_nodes n user)
            (step n in_n (key_at (set (set heap u None) u key) n) (bounds-before w limit ranks heap u x n holds inside in_n))
        | inr no_user ↦ ap₂
            (λ a b. is_by a (key_of (get_or (set ranks u x) n 0) b))
            (marks.others n no_user)
            (given-same w limit ranks u x n (not_user w.rows u users n are no_user))
            ∙ bounds-before w limit ranks heap u x n holds inside in_n
      ];
    }

pub bounds-comes : (w : World) (limit : ℕ) (floor ranks : List ℕ) (heap : List (Option ℕ)) (u k : ℕ) (users : List NodeId) (new : List (Option ℕ)) → HoldsBounds w limit ranks heap → IsFloor w limit floor → AreAbove floor (set ranks u k) → u < length w.rows → k ≤ limit → 0 < k → ((j : ℕ) → j < k → is_one_to j (get_or ranks u 0) ≡ false) → AreUsers w.rows u users → GivesKeys true k floor (set ranks u k) users (set (set heap u None) u (key_of k (given w limit ranks u))) new → HoldsBounds w limit (set ranks u k) new
bounds-comes w limit floor ranks heap u k users new holds is above inside le pos earlier are marks =
    bounds-marked w limit floor ranks heap u k k true users new holds inside le are marks (λ n in_n y h.
    floor-right
    y
    (get_or (set ranks u k) n 0)
    (given w limit ranks n)
    (given w limit (set ranks u k) n)
    k
    (min (k + 1) (2 ^ 32 - 1))
    (get_or floor n 1)
    (omega arith)
    (given-comes w limit ranks u k n (omega (arith, holds.ranks_long)) pos earlier)
    (above n)
    (is.keeps (set ranks u k) n in_n (length-set ranks u k ∙ holds.ranks_long) above)
    h)

pub bounds-goes : (w : World) (limit : ℕ) (floor ranks : List ℕ) (heap : List (Option ℕ)) (u k : ℕ) (users : List NodeId) (new : List (Option ℕ)) → HoldsBounds w limit ranks heap → u < length w.rows → get_or ranks u 0 ≡ k → AreUsers w.rows u users → GivesKeys false k floor (set ranks u 0) users (set (set heap u None) u (key_of 0 (given w limit ranks u))) new → HoldsBounds w limit (set ranks u 0) new
bounds-goes w limit floor ranks heap u k users new holds inside is_k are marks =
    bounds-marked w limit floor ranks heap u k 0 false users new holds inside (omega arith) are marks (λ n in_n y h.
    goes-right y (get_or (set ranks u 0) n 0) (given w limit ranks n) (given w limit (set ranks u 0) n) k (given-goes w limit ranks u k n (omega (arith, holds.ranks_long)) is_k) h)

pub next-goes : (a k : ℕ) → a ≡ k → next_kept a k ≡ 0
next-goes a k e = grind (arith, nat_tests)

pub next-comes : (a k : ℕ) → (a ≡ k → ⊥) → next_kept a k ≡ k
next-comes a k ne = grind (arith, nat_tests)

-- no rank falls below the floor

pub above-set : (floor ranks : List ℕ) (u x : ℕ) → u < length ranks → AreAbove floor ranks → is_above (get_or floor u 1) x ≡ true → AreAbove floor (set ranks u x)
above-set floor ranks u x inside above h = λ n.
    elim (cases_eq n u) [
      | inl here ↦ subst
          (λ m. is_above (get_or floor m 1) (get_or (set ranks u x) m 0) ≡ true)
          (sym here)
          (ap (λ r. is_above (get_or floor u 1) r) (get_or-set_same ranks u x 0 inside) ∙ h)
      | inr other ↦ ap (λ r. is_above (get_or floor n 1) r) (get_or-set_other ranks u n x 0 other) ∙ above n
    ]

pub above-after : (w : World) (limit : ℕ) (floor ranks : List ℕ) (u k x : ℕ) → IsFloor w limit floor → AreAbove floor ranks → u < length w.rows → length ranks ≡ length w.rows → key_of (get_or ranks u 0) (given w limit ranks u) ≡ Some k → x ≡ next_kept (get_or ranks u 0) k → AreAbove floor (set ranks u x)
above-after w limit floor ranks u k x is above inside long here next =
    let t = key_of-some (get_or ranks u 0) (given w limit ranks u) k here in
    above-set floor ranks u x (omega arith) above (elim (cases_eq (get_or ranks u 0) k) [
      | inl under ↦ ap (λ r. is_above (get_or floor u 1) r) (next ∙ next-goes (get_or ranks u 0) k under)
      | inr over ↦ ap (λ r. is_above (get_or floor u 1) r) (next ∙ (next-comes (get_or ranks u 0) k over ∙ sym (over-is (get_or ranks u 0) (given w limit ranks u) k t.0 t.1 over)))
          ∙ is.keeps ranks u inside long above
    ])

pub bounds-after : (w : World) (limit : ℕ) (floor ranks : List ℕ) (heap popped put new : List (Option ℕ)) (u k x : ℕ) (comes : Bool) (users : List NodeId) → HoldsBounds w limit ranks heap → IsFloor w limit floor → AreAbove floor ranks → IsLeastAt heap (length heap) u k → key_of (get_or ranks u 0) (given w limit ranks u) ≡ Some k → x ≡ next_kept (get_or ranks u 0) k → comes ≡ eqb x k → popped ≡ set heap u None → put ≡ set popped u (key_of x (given w limit ranks u)) → AreUsers w.rows u users → GivesKeys comes k floor (set ranks u x) users put new → HoldsBounds w limit (set ranks u x) new
bounds-after w limit floor ranks heap popped put new u k x comes users holds floor_is above is here next comes_is popped_is put_is are marks =
    let g : ℕ = given w limit ranks u in
    let inside : u < length w.rows = omega (arith, is.inside, holds.heap_long) in
    let t = key_of-some (get_or ranks u 0) g k here in
    let pos : 0 < k = lesser-of (get_or ranks u 0) g k t.0 t.1 in
    let le : k ≤ limit = lesser-le (get_or ranks u 0) g k limit t.1 (holds.small u inside) (given-le w limit ranks u) in
    let after : AreAbove floor (set ranks u x) = above-after w limit floor ranks u k x floor_is above inside holds.ranks_long here next in
    let direct : GivesKeys comes k floor (set ranks u x) users (set (set heap u None) u (key_of x g)) new =
    subst (λ (h : List (Option ℕ)). GivesKeys comes k floor (set ranks u x) users h new) (put_is ∙ ap (λ (h : List (Option ℕ)). set h u (key_of x g)) popped_is) marks in
    elim (cases_eq (get_or ranks u 0) k) [
      | inl under ↦
          let zero_is : x ≡ 0 = next ∙ next-goes (get_or ranks u 0) k under in
          let no : comes ≡ false = comes_is ∙ ne_eqb x k (λ e. omega arith) in
          subst
          (λ y. HoldsBounds w limit (set ranks u y) new)
          (sym zero_is)
          (bounds-goes w limit floor ranks heap u k users new holds inside under are (subst (λ y. GivesKeys false k floor (set ranks u y) users (set (set heap u None) u (key_of y g)) new) zero_is (subst (λ b. GivesKeys b k floor (set ranks u x) users (set (set heap u None) u (key_of x g)) new) no direct)))
      | inr over ↦
          let key_is : x ≡ k = next ∙ next-comes (get_or ranks u 0) k over in
          let yes_is : comes ≡ true = comes_is ∙ eq-eqb x k key_is in
          subst
          (λ y. HoldsBounds w limit (set ranks u y) new)
          (sym key_is)
          (bounds-comes w limit floor ranks heap u k users new holds floor_is (subst (λ y. AreAbove floor (set ranks u y)) key_is after) inside le pos (λ j lt. over-above (get_or ranks u 0) g k j t.0 t.1 over lt) are (subst (λ y. GivesKeys true k floor (set ranks u y) users (set (set heap u None) u (key_of y g)) new) key_is (subst (λ b. GivesKeys b k floor (set ranks u x) users (set (set heap u None) u (key_of x g)) new) yes_is direct)))
    ]

-- a key that isn't the right one is put right

pub bounds-put : (w : World) (limit : ℕ) (ranks : List ℕ) (heap popped new : List (Option ℕ)) (u : ℕ) → HoldsBounds w limit ranks heap → u < length heap → popped ≡ set heap u None → new ≡ set popped u (key_of (get_or ranks u 0) (given w limit ranks u)) → HoldsBounds w limit ranks new
bounds-put w limit ranks heap popped new u holds inside popped_is new_is =
    let key : Option ℕ = key_of (get_or ranks u 0) (given w limit ranks u) in
    let whole : set (set heap u None) u key ≡ new = sym (new_is ∙ ap (λ (h : List (Option ℕ)). set h u key) popped_is) in
    subst (λ (h : List (Option ℕ)). HoldsBounds w limit ranks h) whole (record {
      ranks_long = holds.ranks_long;
      heap_long = put-long heap u key ∙ holds.heap_long;
      small = holds.small;
      keys = λ n in_n. elim (cases_eq n u) [
        | inl here ↦ subst
            (λ m. is_by (key_at (set (set heap u None) u key) m) (key_of (get_or ranks m 0) (given w limit ranks m)) ≡ true)
            (sym here)
            (ap (λ a. is_by a key) (put-here heap u key inside) ∙ is_by-refl key)
        | inr other ↦ ap (λ a. is_by a (key_of (get_or ranks n 0) (given w limit ranks n))) (put-other heap u n key other) ∙ holds.keys n in_n
      ];
    })

pub early-put : (w : World) (limit : ℕ) (ranks : List ℕ) (heap popped new : List (Option ℕ)) (u k : ℕ) → length heap ≡ length w.rows → u < length heap → key_at heap u ≡ Some k → is_same_key (key_of (get_or ranks u 0) (given w limit ranks u)) (Some k) ≡ false → popped ≡ set heap u None → new ≡ set popped u (key_of (get_or ranks u 0) (given w limit ranks u)) → early_keys w limit ranks new + 1 ≤ early_keys w limit ranks heap
unfolding early_keys
early-put w limit ranks heap popped new u k long inside here not_same popped_is new_is =
    let key : Option ℕ = key_of (get_or ranks u 0) (given w limit ranks u) in
    let whole : set (set heap u None) u key ≡ new = sym (new_is ∙ ap (λ (h : List (Option ℕ)). set h u key) popped_is) in
    let now : key_at new u ≡ key = ap (λ (h : List (Option ℕ)). key_at h u) (sym whole) ∙ put-here heap u key inside in
    let right : is_same_key (key_at new u) key ≡ true = ap (λ a. is_same_key a key) now ∙ same_key-refl key in
    let wrong : is_same_key (key_at heap u) key ≡ false = ap (λ a. is_same_key a key) here ∙ same_key-not key k not_same in
    sum_below-drop
    (λ n. cond (is_same_key (key_at heap n) (key_of (get_or ranks n 0) (given w limit ranks n))) 0 1)
    (λ n. cond (is_same_key (key_at new n) (key_of (get_or ranks n 0) (given w limit ranks n))) 0 1)
    u
    1
    (length w.rows)
    (omega arith)
    (λ n other. ap (λ a. cond (is_same_key a (key_of (get_or ranks n 0) (given w limit ranks n))) 0 1) (ap (λ (h : List (Option ℕ)). key_at h n) (sym whole) ∙ put-other heap u n key other))
    (rw (right, wrong) (omega arith))

-- a visit adds at most as many keys that aren't right as the node has users

pub sum_below-le_added : (g a b : ℕ → ℕ) (m : ℕ) → ((n : ℕ) → n < m → g n ≤ a n + b n) → sum_below g m ≤ sum_below a m + sum_below b m
sum_below-le_added g a b zero le = omega arith
sum_below-le_added g a b (suc m) le = omega (arith, le m (omega arith), sum_below-le_added g a b m (λ n lt. le n (omega arith)))

pub bit-le : (b : Bool) → ◌≤◌ (cond b 0 1) 1
bit-le true = omega arith
bit-le false = omega arith

pub early-after : (w : World) (limit : ℕ) (floor ranks : List ℕ) (heap popped put new : List (Option ℕ)) (u k x : ℕ) (comes : Bool) (users : List NodeId) → HoldsBounds w limit ranks heap → u < length heap → popped ≡ set heap u None → put ≡ set popped u (key_of x (given w limit ranks u)) → AreUsers w.rows u users → GivesKeys comes k floor (set ranks u x) users put new → early_keys w limit (set ranks u x) new ≤ early_keys w limit ranks heap + user_count w.rows u
unfolding early_keys
early-after w limit floor ranks heap popped put new u k x comes users holds inside popped_is put_is are marks =
    let key : Option ℕ = key_of x (given w limit ranks u) in
    let whole : set (set heap u None) u key ≡ put = sym (put_is ∙ ap (λ (h : List (Option ℕ)). set h u key) popped_is) in
    let before : ℕ → ℕ = λ n. cond (is_same_key (key_at heap n) (key_of (get_or ranks n 0) (given w limit ranks n))) 0 1 in
    let after : ℕ → ℕ = λ n. cond (is_same_key (key_at new n) (key_of (get_or (set ranks u x) n 0) (given w limit (set ranks u x) n))) 0 1 in
    let each : (n : ℕ) → n < length w.rows → after n ≤ before n + cond (has_node users n) 1 0 =
    λ n in_n. elim (cases_Bool (has_node users n)) [
      | inl user ↦ rw user (omega (arith, bit-le (is_same_key (key_at new n) (key_of (get_or (set ranks u x) n 0) (given w limit (set ranks u x) n)))))
      | inr no_user ↦
          let kept : key_at new n ≡ key_at (set (set heap u None) u key) n = marks.others n no_user ∙ ap (λ (h : List (Option ℕ)). key_at h n) (sym whole) in
          let same_given = given-same w limit ranks u x n (not_user w.rows u users n are no_user) in
          elim (cases_eq n u) [
            | inl is_u ↦
                let right : is_same_key (key_at new n) (key_of (get_or (set ranks u x) n 0) (given w limit (set ranks u x) n)) ≡ true =
                ap₂ (λ a b. is_same_key a (key_of (get_or (set ranks u x) n 0) b)) kept same_given
                ∙ subst
                (λ m. is_same_key (key_at (set (set heap u None) u key) m) (key_of (get_or (set ranks u x) m 0) (given w limit ranks m)) ≡ true)
                (sym is_u)
                (ap₂ (λ a r. is_same_key a (key_of r (given w limit ranks u))) (put-here heap u key inside) (get_or-set_same ranks u x 0 (omega (arith, holds.ranks_long, holds.heap_long)))
                ∙ same_key-refl key) in
                rw right (omega arith)
            | inr other ↦
                let same : after n ≡ before n =
                ap₂ (λ a b. cond (is_same_key a (key_of (get_or (set ranks u x) n 0) b)) 0 1) (kept ∙ put-other heap u n key other) same_given
                ∙ ap (λ r. cond (is_same_key (key_at heap n) (key_of r (given w limit ranks n))) 0 1) (get_or-set_other ranks u n x 0 other) in
                omega (arith, same)
          ]
    ] in
    omega (
      arith,
      sum_below-le_added after before (λ n. cond (has_node users n) 1 0) (length w.rows) each,
      sum_below-members users (length w.rows),
      are.count,
    )

-- right keys

pub bounds-from_keys : (w : World) (limit : ℕ) (ranks : List ℕ) (heap : List (Option ℕ)) → HoldsKeys w limit ranks heap → HoldsBounds w limit ranks heap
bounds-from_keys w limit ranks heap holds = record {
  ranks_long = holds.ranks_long;
  heap_long = holds.heap_long;
  small = holds.small;
  keys = λ n inside. ap (λ a. is_by a (key_of (get_or ranks n 0) (given w limit ranks n))) (holds.keys n inside) ∙ is_by-refl (key_of (get_or ranks n 0) (given w limit ranks n));
}

pub early-from_keys : (w : World) (limit : ℕ) (ranks : List ℕ) (heap : List (Option ℕ)) → HoldsKeys w limit ranks heap → early_keys w limit ranks heap ≡ 0
unfolding early_keys
early-from_keys w limit ranks heap holds =
    sum_below-zero
    (λ n. cond (is_same_key (key_at heap n) (key_of (get_or ranks n 0) (given w limit ranks n))) 0 1)
    (length w.rows)
    (λ n inside.
    let right : is_same_key (key_at heap n) (key_of (get_or ranks n 0) (given w limit ranks n)) ≡ true =
    ap (λ a. is_same_key a (key_of (get_or ranks n 0) (given w limit ranks n))) (holds.keys n inside) ∙ same_key-refl (key_of (get_or ranks n 0) (given w limit ranks n)) in
    rw right refl)

-- one user more is given its key

pub marks-more : (comes : Bool) (k : ℕ) (floor ranks : List ℕ) (nodes : List NodeId) (i : ℕ) (d : NodeId) (old heap new : List (Option ℕ)) → i < length nodes → (get_or nodes i d).0 < length old → GivesKeys comes k floor ranks (take i nodes) old heap → new ≡ set heap (get_or nodes i d).0 (key_after comes k (get_or floor (get_or nodes i d).0 1) (key_at heap (get_or nodes i d).0) (get_or ranks (get_or nodes i d).0 0)) → GivesKeys comes k floor ranks (take (i + 1) nodes) old new
marks-more comes k floor ranks nodes i d old heap new lt inside m e =
    let u : ℕ = (get_or nodes i d).0 in
    let key : Option ℕ = key_after comes k (get_or floor u 1) (key_at heap u) (get_or ranks u 0) in
    let was : is_by (key_at heap u) (key_after comes k (get_or floor u 1) (key_at old u) (get_or ranks u 0)) ≡ true → is_by key (key_after comes k (get_or floor u 1) (key_at old u) (get_or ranks u 0)) ≡ true =
    after-lowers comes k (get_or floor u 1) (get_or ranks u 0) (key_at heap u) (key_after comes k (get_or floor u 1) (key_at old u) (get_or ranks u 0)) in
    let lower : is_by key (key_after comes k (get_or floor u 1) (key_at old u) (get_or ranks u 0)) ≡ true = elim (cases_Bool (has_node (take i nodes) u)) [
      | inl before ↦ was (m.at_nodes u before)
      | inr first ↦ ap (λ y. is_by (key_after comes k (get_or floor u 1) y (get_or ranks u 0)) (key_after comes k (get_or floor u 1) (key_at old u) (get_or ranks u 0))) (m.others u first) ∙ is_by-refl (key_after comes k (get_or floor u 1) (key_at old u) (get_or ranks u 0))
    ] in
    record {
      as_long = ap length e ∙ (length-set heap u key ∙ m.as_long);
      at_nodes = λ n h. elim (cases_eq n u) [
        | inl same ↦ ap (λ (xs : List (Option ℕ)). is_by (key_at xs n) (key_after comes k (get_or floor n 1) (key_at old n) (get_or ranks n 0))) e
            ∙ subst
            (λ j. is_by (key_at (set heap u key) j) (key_after comes k (get_or floor j 1) (key_at old j) (get_or ranks j 0)) ≡ true)
            (sym same)
            (ap (λ y. is_by y (key_after comes k (get_or floor u 1) (key_at old u) (get_or ranks u 0))) (get_or-set_same heap u key None (omega (arith, m.as_long))) ∙ lower)
        | inr other ↦ ap (λ y. is_by y (key_after comes k (get_or floor n 1) (key_at old n) (get_or ranks n 0))) (ap (λ (xs : List (Option ℕ)). key_at xs n) e ∙ get_or-set_other heap u n key None other)
            ∙ m.at_nodes n (or-first (has_node (take i nodes) n) (eqb u n) (sym (has_node-more nodes i n d lt) ∙ h) (ne_eqb u n (λ q. other (sym q))))
      ];
      others = λ n h.
          let parts = or_parts (has_node (take i nodes) n) (eqb u n) (sym (has_node-more nodes i n d lt) ∙ h) in
          let other : n ≢ u = λ q. eqb-false u n parts.1 (sym q) in
          ap (λ (xs : List (Option ℕ)). key_at xs n) e ∙ (get_or-set_other heap u n key None other ∙ m.others n parts.0);
    }
