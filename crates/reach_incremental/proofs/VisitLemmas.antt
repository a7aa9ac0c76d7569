-- One visit: the node gets other ranks in the lanes whose key it had, or the right key.
use Rattle.std.proofs.Common.{◌≡◌, ◌≢◌, ℕ, ◌+◌, ◌-◌, ◌^◌, ◌<◌, ◌≤◌, min, Bool, true, false, cond, eqb, List, Option, Some, None, length, get_or, set, refl, sym, ◌∙◌, ap, ap₂, subst, arith, inl, inr, length-set, get_or-set_same, get_or-set_other}
use Rattle.std.proofs.lemmas.Bool.{cases_eq, cases_Bool, false≢true, ne_eqb, eq-eqb}
use Rattle.std.proofs.lemmas.Bool.Decides.{nat_tests}
use Rattle.std.proofs.lemmas.List.{set-get_or}
use Rattle.plan_base.specs.declared.NodeId.{NodeId}
use Rattle.graph_store.specs.Rows.{has_node, user_count, AreUsers}
use Rattle.index_heap.specs.Keys.{key_at, IsLeastAt}
use Rattle.reach_ranks.specs.Rounds.{World, world, IsWhole}
use Rattle.reach_ranks.specs.Floors.{AreAbove, IsFloor}
use Rattle.reach_ranks.specs.Given.{given, key_of, key_after, is_by, is_same_key, next_kept, work_left, HoldsBounds, GivesKeys}
use Rattle.reach_ranks.proofs.GivenLemmas.{given-le, key_of-some, is_by-trans}
use Rattle.reach_ranks.proofs.RepairLemmas.{given-same, not_user, sum_below-drop, lesser-of, lesser-le, over-above, work_left-after}
use Rattle.reach_ranks.proofs.SizeLemmas.{sum_below-members}
use Rattle.reach_ranks.proofs.MarkLemmas.{ComesTo, GoesTo, goes-right, floor-right, given-comes, given-goes, small-set, next-goes, next-comes, above-after, put-here, put-other, put-long, same_key-refl, same_key-not, sum_below-le_added, bit-le}
use Rattle.reach_incremental.specs.Lanes.{Worlds, world_of, is_live, lane, AreLanesAbove, IsLaneFloor}
use Rattle.reach_incremental.specs.Keys.{least_below, lane_key, as_key, key_in_lane, right_key, next_in_lane, early_keys, lane_work, left_in_lanes, HoldsLanes, GivesLaneKeys}
use Rattle.reach_incremental.proofs.LaneLemmas.{lane-long, lane-set, least-at, least-same, lane_key-is_live, lane_key-key, next-own, next-kept, next-differs, least_key-by, sum-drop}
use Rattle.reach_incremental.proofs.KeyLemmas.{right_key-by, right_key-is}

-- a key that isn't the right one is put right

pub holds-put : (ws : Worlds) (ranks : List (List ℕ)) (heap new : List (Option ℕ)) (u : ℕ) → HoldsLanes ws ranks heap → length new ≡ length heap → key_at new u ≡ right_key ws ranks u → ((n : ℕ) → n ≢ u → key_at new n ≡ key_at heap n) → HoldsLanes ws ranks new
holds-put ws ranks heap new u holds long here others = record {
  ranks_long = holds.ranks_long;
  heap_long = long ∙ holds.heap_long;
  small = holds.small;
  each = λ l lt live.
      let was = holds.each l lt live in
      record {
        ranks_long = was.ranks_long;
        heap_long = long ∙ was.heap_long;
        small = was.small;
        keys = λ n in_n. elim (cases_eq n u) [
          | inl same ↦ subst
              (λ m. is_by (key_at new m) (key_of (get_or (lane l ranks) m 0) (given (world_of ws l) (2 ^ 32 - 1) (lane l ranks) m)) ≡ true)
              (sym same)
              (ap (λ y. is_by y (key_of (get_or (lane l ranks) u 0) (given (world_of ws l) (2 ^ 32 - 1) (lane l ranks) u))) here ∙ right_key-by ws ranks u l lt live)
          | inr other ↦ ap (λ y. is_by y (key_of (get_or (lane l ranks) n 0) (given (world_of ws l) (2 ^ 32 - 1) (lane l ranks) n))) (others n other) ∙ was.keys n in_n
        ];
      };
}

pub early-put : (ws : Worlds) (ranks : List (List ℕ)) (heap new : List (Option ℕ)) (u k : ℕ) → u < length ws.rows → key_at heap u ≡ Some k → is_same_key (right_key ws ranks u) (Some k) ≡ false → key_at new u ≡ right_key ws ranks u → ((n : ℕ) → n ≢ u → key_at new n ≡ key_at heap n) → early_keys ws ranks new + 1 ≤ early_keys ws ranks heap
unfolding early_keys
early-put ws ranks heap new u k inside was not_same here others =
    let right : is_same_key (key_at new u) (right_key ws ranks u) ≡ true = ap (λ a. is_same_key a (right_key ws ranks u)) here ∙ same_key-refl (right_key ws ranks u) in
    let wrong : is_same_key (key_at heap u) (right_key ws ranks u) ≡ false = ap (λ a. is_same_key a (right_key ws ranks u)) was ∙ same_key-not (right_key ws ranks u) k not_same in
    sum_below-drop
    (λ n. cond (is_same_key (key_at heap n) (right_key ws ranks n)) 0 1)
    (λ n. cond (is_same_key (key_at new n) (right_key ws ranks n)) 0 1)
    u
    1
    (length ws.rows)
    inside
    (λ n other. ap (λ a. cond (is_same_key a (right_key ws ranks n)) 0 1) (others n other))
    (rw (right, wrong) (omega arith))

-- the keys in one lane in which the node gets another rank

pub marked : (w : World) (limit : ℕ) (floor ranks : List ℕ) (u k x : ℕ) (comes : Bool) (users : List NodeId) (put new : List (Option ℕ)) → length ranks ≡ length w.rows → length new ≡ length w.rows → ((n : ℕ) → n < length w.rows → get_or ranks n 0 ≤ limit) → u < length w.rows → x ≤ limit → AreUsers w.rows u users → GivesKeys comes k floor (set ranks u x) users put new → ((n : ℕ) → n < length w.rows → is_by (key_at put n) (key_of (get_or (set ranks u x) n 0) (given w limit ranks n)) ≡ true) → ((n : ℕ) → n < length w.rows → (y : Option ℕ) → is_by y (key_of (get_or (set ranks u x) n 0) (given w limit ranks n)) ≡ true → is_by (key_after comes k (get_or floor n 1) y (get_or (set ranks u x) n 0)) (key_of (get_or (set ranks u x) n 0) (given w limit (set ranks u x) n)) ≡ true) → HoldsBounds w limit (set ranks u x) new
marked w limit floor ranks u k x comes users put new long new_long small inside le are marks before step = record {
  ranks_long = length-set ranks u x ∙ long;
  heap_long = new_long;
  small = λ n in_n. small-set ranks u x n limit (omega arith) le (small n in_n);
  keys = λ n in_n. elim (cases_Bool (has_node users n)) [
    | inl user ↦ is_by-trans
        (key_at new n)
        (key_after comes k (get_or floor n 1) (key_at put n) (get_or (set ranks u x) n 0))
        (key_of (get_or (set ranks u x) n 0) (given w limit (set ranks u x) n))
        (marks.at_nodes n user)
        (step n in_n (key_at put n) (before n in_n))
    | inr no_user ↦ ap₂
        (λ a b. is_by a (key_of (get_or (set ranks u x) n 0) b))
        (marks.others n no_user)
        (given-same w limit ranks u x n (not_user w.rows u users n are no_user))
        ∙ before n in_n
  ];
}

pub lane-after : (w : World) (limit : ℕ) (floor ranks : List ℕ) (put new : List (Option ℕ)) (u k x : ℕ) (users : List NodeId) → length ranks ≡ length w.rows → length new ≡ length w.rows → ((n : ℕ) → n < length w.rows → get_or ranks n 0 ≤ limit) → IsFloor w limit floor → AreAbove floor ranks → u < length w.rows → key_of (get_or ranks u 0) (given w limit ranks u) ≡ Some k → x ≡ next_kept (get_or ranks u 0) k → AreUsers w.rows u users → GivesKeys (eqb x k) k floor (set ranks u x) users put new → ((n : ℕ) → n < length w.rows → is_by (key_at put n) (key_of (get_or (set ranks u x) n 0) (given w limit ranks n)) ≡ true) → HoldsBounds w limit (set ranks u x) new
lane-after w limit floor ranks put new u k x users long new_long small floor_is above inside here next are marks before =
    let g : ℕ = given w limit ranks u in
    let t = key_of-some (get_or ranks u 0) g k here in
    let pos : 0 < k = lesser-of (get_or ranks u 0) g k t.0 t.1 in
    let le : k ≤ limit = lesser-le (get_or ranks u 0) g k limit t.1 (small u inside) (given-le w limit ranks u) in
    let after : AreAbove floor (set ranks u x) = above-after w limit floor ranks u k x floor_is above inside long here next in
    elim (cases_eq (get_or ranks u 0) k) [
      | inl under ↦
          let zero_is : x ≡ 0 = next ∙ next-goes (get_or ranks u 0) k under in
          let no : eqb x k ≡ false = ne_eqb x k (λ e. omega arith) in
          marked w limit floor ranks u k x (eqb x k) users put new long new_long small inside (omega arith) are marks before (λ n in_n y h.
          ap (λ b. is_by (key_after b k (get_or floor n 1) y (get_or (set ranks u x) n 0)) (key_of (get_or (set ranks u x) n 0) (given w limit (set ranks u x) n))) no
          ∙ goes-right
          y
          (get_or (set ranks u x) n 0)
          (given w limit ranks n)
          (given w limit (set ranks u x) n)
          k
          (subst (λ (z : ℕ). GoesTo k (given w limit ranks n) (given w limit (set ranks u z) n)) (sym zero_is) (given-goes w limit ranks u k n (omega arith) under))
          h)
      | inr over ↦
          let key_is : x ≡ k = next ∙ next-comes (get_or ranks u 0) k over in
          let yes_is : eqb x k ≡ true = eq-eqb x k key_is in
          marked w limit floor ranks u k x (eqb x k) users put new long new_long small inside (omega arith) are marks before (λ n in_n y h.
          ap (λ b. is_by (key_after b k (get_or floor n 1) y (get_or (set ranks u x) n 0)) (key_of (get_or (set ranks u x) n 0) (given w limit (set ranks u x) n))) yes_is
          ∙ floor-right
          y
          (get_or (set ranks u x) n 0)
          (given w limit ranks n)
          (given w limit (set ranks u x) n)
          k
          (min (k + 1) (2 ^ 32 - 1))
          (get_or floor n 1)
          (omega arith)
          (subst (λ (z : ℕ). ComesTo k (given w limit ranks n) (given w limit (set ranks u z) n)) (sym key_is) (given-comes w limit ranks u k n (omega arith) pos (λ j lt. over-above (get_or ranks u 0) g k j t.0 t.1 over lt)))
          (after n)
          (floor_is.keeps (set ranks u x) n in_n (length-set ranks u x ∙ long) after)
          h)
    ]

-- the visit of a node whose key is right

pub record Visit (ws : Worlds) (floor : List ℕ) (ranks after : List (List ℕ)) (heap put new : List (Option ℕ)) (u k : ℕ) (users : List NodeId) (x : ℕ → ℕ) : Type 0 where
  pub whole : IsWhole (world ws.rows ws.barred ws.granted None)
  pub holds : HoldsLanes ws ranks heap
  pub floors : IsLaneFloor ws floor
  pub above : AreLanesAbove ws floor ranks
  pub least : IsLeastAt heap (length heap) u k
  pub positive : 0 < k
  pub right : least_below (key_in_lane ws ranks u) 16 ≡ k
  pub next : (l : ℕ) → l < 16 → x l ≡ next_in_lane (key_in_lane ws ranks u l) (get_or (lane l ranks) u 0) k
  pub small : (l : ℕ) → x l ≤ 2 ^ 32 - 1
  pub lanes : (l : ℕ) → lane l after ≡ set (lane l ranks) u (x l)
  pub as_long : length after ≡ length ranks
  pub put_here : key_at put u ≡ as_key (least_below (λ l. lane_key (is_live ws l) (x l) (given (world_of ws l) (2 ^ 32 - 1) (lane l ranks) u)) 16)
  pub put_other : (n : ℕ) → n ≢ u → key_at put n ≡ key_at heap n
  pub put_long : length put ≡ length heap
  pub are : AreUsers ws.rows u users
  pub new_long : length new ≡ length put
  pub lower : (n : ℕ) → is_by (key_at new n) (key_at put n) ≡ true
  pub others : (n : ℕ) → has_node users n ≡ false → key_at new n ≡ key_at put n
  pub marks : (l : ℕ) → l < 16 → eqb (get_or (lane l ranks) u 0) (x l) ≡ false → GivesKeys (eqb (x l) k) k floor (lane l after) users put new

pub inside-of : (ws : Worlds) (floor : List ℕ) (ranks after : List (List ℕ)) (heap put new : List (Option ℕ)) (u k : ℕ) (users : List NodeId) (x : ℕ → ℕ) → Visit ws floor ranks after heap put new u k users x → u < length ws.rows
inside-of ws floor ranks after heap put new u k users x v = omega (arith, v.least.inside, v.holds.heap_long)

pub put-by : (ws : Worlds) (floor : List ℕ) (ranks after : List (List ℕ)) (heap put new : List (Option ℕ)) (u k : ℕ) (users : List NodeId) (x : ℕ → ℕ) → Visit ws floor ranks after heap put new u k users x → (l : ℕ) → l < 16 → is_live ws l ≡ true → (n : ℕ) → n < length ws.rows → is_by (key_at put n) (key_of (get_or (set (lane l ranks) u (x l)) n 0) (given (world_of ws l) (2 ^ 32 - 1) (lane l ranks) n)) ≡ true
put-by ws floor ranks after heap put new u k users x v l lt live n in_n =
    let w : World = world_of ws l in
    let inside : u < length (lane l ranks) = omega (arith, lane-long ranks l, v.holds.ranks_long, inside-of ws floor ranks after heap put new u k users x v) in
    elim (cases_eq n u) [
      | inl here ↦ subst
          (λ m. is_by (key_at put m) (key_of (get_or (set (lane l ranks) u (x l)) m 0) (given w (2 ^ 32 - 1) (lane l ranks) m)) ≡ true)
          (sym here)
          (ap₂ (λ a r. is_by a (key_of r (given w (2 ^ 32 - 1) (lane l ranks) u))) v.put_here (get_or-set_same (lane l ranks) u (x l) 0 inside)
          ∙ least_key-by (λ i. is_live ws i) x (λ i. given (world_of ws i) (2 ^ 32 - 1) (lane i ranks) u) l lt live)
      | inr other ↦ ap₂ (λ a r. is_by a (key_of r (given w (2 ^ 32 - 1) (lane l ranks) n))) (v.put_other n other) (get_or-set_other (lane l ranks) u n (x l) 0 other)
          ∙ (v.holds.each l lt live).keys n in_n
    ]

-- in a lane the key is its own, and the rank is another; or all is as before

pub still-set : (ranks : List ℕ) (u x : ℕ) → x ≡ get_or ranks u 0 → set ranks u x ≡ ranks
still-set ranks u x e = ap (λ y. set ranks u y) e ∙ set-get_or ranks u 0

pub still-lane : (ws : Worlds) (floor : List ℕ) (ranks after : List (List ℕ)) (heap put new : List (Option ℕ)) (u k : ℕ) (users : List NodeId) (x : ℕ → ℕ) → Visit ws floor ranks after heap put new u k users x → (l : ℕ) → l < 16 → (key_in_lane ws ranks u l ≡ k → ⊥) → set (lane l ranks) u (x l) ≡ lane l ranks
still-lane ws floor ranks after heap put new u k users x v l lt other =
    still-set (lane l ranks) u (x l) (v.next l lt ∙ next-kept (key_in_lane ws ranks u l) (get_or (lane l ranks) u 0) k other)

pub own-next : (ws : Worlds) (floor : List ℕ) (ranks after : List (List ℕ)) (heap put new : List (Option ℕ)) (u k : ℕ) (users : List NodeId) (x : ℕ → ℕ) → Visit ws floor ranks after heap put new u k users x → (l : ℕ) → l < 16 → key_in_lane ws ranks u l ≡ k → x l ≡ next_kept (get_or (lane l ranks) u 0) k
own-next ws floor ranks after heap put new u k users x v l lt own =
    v.next l lt ∙ next-own (key_in_lane ws ranks u l) (get_or (lane l ranks) u 0) k own

pub own-key : (ws : Worlds) (floor : List ℕ) (ranks after : List (List ℕ)) (heap put new : List (Option ℕ)) (u k : ℕ) (users : List NodeId) (x : ℕ → ℕ) → Visit ws floor ranks after heap put new u k users x → (l : ℕ) → key_in_lane ws ranks u l ≡ k → key_of (get_or (lane l ranks) u 0) (given (world_of ws l) (2 ^ 32 - 1) (lane l ranks) u) ≡ Some k
own-key ws floor ranks after heap put new u k users x v l own =
    lane_key-key (is_live ws l) (get_or (lane l ranks) u 0) (given (world_of ws l) (2 ^ 32 - 1) (lane l ranks) u) k own v.positive

pub own-marks : (ws : Worlds) (floor : List ℕ) (ranks after : List (List ℕ)) (heap put new : List (Option ℕ)) (u k : ℕ) (users : List NodeId) (x : ℕ → ℕ) → Visit ws floor ranks after heap put new u k users x → (l : ℕ) → l < 16 → key_in_lane ws ranks u l ≡ k → GivesKeys (eqb (x l) k) k floor (set (lane l ranks) u (x l)) users put new
own-marks ws floor ranks after heap put new u k users x v l lt own =
    subst
    (λ (rs : List ℕ). GivesKeys (eqb (x l) k) k floor rs users put new)
    (v.lanes l)
    (v.marks l lt (ne_eqb (get_or (lane l ranks) u 0) (x l) (λ e. next-differs (get_or (lane l ranks) u 0) k v.positive (e ∙ own-next ws floor ranks after heap put new u k users x v l lt own))))

-- what a visit leaves

pub holds-after : (ws : Worlds) (floor : List ℕ) (ranks after : List (List ℕ)) (heap put new : List (Option ℕ)) (u k : ℕ) (users : List NodeId) (x : ℕ → ℕ) → Visit ws floor ranks after heap put new u k users x → HoldsLanes ws after new
holds-after ws floor ranks after heap put new u k users x v =
    let heap_is_long : length new ≡ length ws.rows = v.new_long ∙ (v.put_long ∙ v.holds.heap_long) in
    record {
      ranks_long = v.as_long ∙ v.holds.ranks_long;
      heap_long = heap_is_long;
      small = λ l n.
          subst
          (λ (rs : List ℕ). get_or rs n 0 ≤ 2 ^ 32 - 1)
          (sym (v.lanes l))
          (small-set (lane l ranks) u (x l) n (2 ^ 32 - 1) (omega (arith, lane-long ranks l, v.holds.ranks_long, inside-of ws floor ranks after heap put new u k users x v)) (v.small l) (v.holds.small l n));
      each = λ l lt live.
          let was = v.holds.each l lt live in
          subst (λ (rs : List ℕ). HoldsBounds (world_of ws l) (2 ^ 32 - 1) rs new) (sym (v.lanes l)) (elim (cases_eq (key_in_lane ws ranks u l) k) [
            | inl own ↦ lane-after
                (world_of ws l)
                (2 ^ 32 - 1)
                floor
                (lane l ranks)
                put
                new
                u
                k
                (x l)
                users
                was.ranks_long
                heap_is_long
                was.small
                (v.floors l lt live)
                (v.above l lt live)
                (inside-of ws floor ranks after heap put new u k users x v)
                (own-key ws floor ranks after heap put new u k users x v l own)
                (own-next ws floor ranks after heap put new u k users x v l lt own)
                v.are
                (own-marks ws floor ranks after heap put new u k users x v l lt own)
                (put-by ws floor ranks after heap put new u k users x v l lt live)
            | inr other ↦
                let same = still-lane ws floor ranks after heap put new u k users x v l lt other in
                subst (λ (rs : List ℕ). HoldsBounds (world_of ws l) (2 ^ 32 - 1) rs new) (sym same) (record {
                  ranks_long = was.ranks_long;
                  heap_long = heap_is_long;
                  small = was.small;
                  keys = λ n in_n. is_by-trans
                      (key_at new n)
                      (key_at put n)
                      (key_of (get_or (lane l ranks) n 0) (given (world_of ws l) (2 ^ 32 - 1) (lane l ranks) n))
                      (v.lower n)
                      (subst (λ (rs : List ℕ). is_by (key_at put n) (key_of (get_or rs n 0) (given (world_of ws l) (2 ^ 32 - 1) (lane l ranks) n)) ≡ true) same (put-by ws floor ranks after heap put new u k users x v l lt live n in_n));
                })
          ]);
    }

pub lanes_above-after : (ws : Worlds) (floor : List ℕ) (ranks after : List (List ℕ)) (heap put new : List (Option ℕ)) (u k : ℕ) (users : List NodeId) (x : ℕ → ℕ) → Visit ws floor ranks after heap put new u k users x → AreLanesAbove ws floor after
lanes_above-after ws floor ranks after heap put new u k users x v = λ l lt live.
    subst (λ (rs : List ℕ). AreAbove floor rs) (sym (v.lanes l)) (elim (cases_eq (key_in_lane ws ranks u l) k) [
      | inl own ↦ above-after
          (world_of ws l)
          (2 ^ 32 - 1)
          floor
          (lane l ranks)
          u
          k
          (x l)
          (v.floors l lt live)
          (v.above l lt live)
          (inside-of ws floor ranks after heap put new u k users x v)
          (v.holds.each l lt live).ranks_long
          (own-key ws floor ranks after heap put new u k users x v l own)
          (own-next ws floor ranks after heap put new u k users x v l lt own)
      | inr other ↦ subst (λ (rs : List ℕ). AreAbove floor rs) (sym (still-lane ws floor ranks after heap put new u k users x v l lt other)) (v.above l lt live)
    ])

-- the steps that are left

pub cond-le : (b : Bool) (x y : ℕ) → (b ≡ true → x ≤ y) → cond b x 0 ≤ cond b y 0
cond-le true x y h = h refl
cond-le false x y h = omega arith

pub cond-drop : (b : Bool) (x y c : ℕ) → b ≡ true → x + c ≤ y → cond b x 0 + c ≤ cond b y 0
cond-drop true x y c e h = h
cond-drop false x y c e h = absurd (false≢true e)

pub own-work : (ws : Worlds) (floor : List ℕ) (ranks after : List (List ℕ)) (heap put new : List (Option ℕ)) (u k : ℕ) (users : List NodeId) (x : ℕ → ℕ) → Visit ws floor ranks after heap put new u k users x → (l : ℕ) → l < 16 → is_live ws l ≡ true → key_in_lane ws ranks u l ≡ k → work_left (world_of ws l) (lane l after) + (2 + user_count ws.rows u) ≤ work_left (world_of ws l) (lane l ranks)
own-work ws floor ranks after heap put new u k users x v l lt live own =
    subst
    (λ (rs : List ℕ). work_left (world_of ws l) rs + (2 + user_count ws.rows u) ≤ work_left (world_of ws l) (lane l ranks))
    (sym (v.lanes l))
    (work_left-after
    (world_of ws l)
    (record { barred = v.whole.barred; granted = v.whole.granted })
    (2 ^ 32 - 1)
    (lane l ranks)
    heap
    u
    k
    (x l)
    (v.holds.each l lt live)
    v.least
    (own-key ws floor ranks after heap put new u k users x v l own)
    (own-next ws floor ranks after heap put new u k users x v l lt own))

pub lane-work : (ws : Worlds) (floor : List ℕ) (ranks after : List (List ℕ)) (heap put new : List (Option ℕ)) (u k : ℕ) (users : List NodeId) (x : ℕ → ℕ) → Visit ws floor ranks after heap put new u k users x → (l : ℕ) → l < 16 → is_live ws l ≡ true → work_left (world_of ws l) (lane l after) ≤ work_left (world_of ws l) (lane l ranks)
lane-work ws floor ranks after heap put new u k users x v l lt live =
    elim (cases_eq (key_in_lane ws ranks u l) k) [
      | inl own ↦ omega (arith, own-work ws floor ranks after heap put new u k users x v l lt live own)
      | inr other ↦
          let same : lane l after ≡ lane l ranks = v.lanes l ∙ still-lane ws floor ranks after heap put new u k users x v l lt other in
          omega (arith, ap (λ (rs : List ℕ). work_left (world_of ws l) rs) same)
    ]

pub work-after : (ws : Worlds) (floor : List ℕ) (ranks after : List (List ℕ)) (heap put new : List (Option ℕ)) (u k : ℕ) (users : List NodeId) (x : ℕ → ℕ) → Visit ws floor ranks after heap put new u k users x → lane_work ws after + (2 + user_count ws.rows u) ≤ lane_work ws ranks
unfolding lane_work
work-after ws floor ranks after heap put new u k users x v =
    let at = least-at (key_in_lane ws ranks u) 16 k v.right v.positive in
    let live : is_live ws at.place ≡ true = lane_key-is_live (is_live ws at.place) (get_or (lane at.place ranks) u 0) (given (world_of ws at.place) (2 ^ 32 - 1) (lane at.place ranks) u) k at.here v.positive in
    sum-drop
    (λ l. cond (is_live ws l) (work_left (world_of ws l) (lane l ranks)) 0)
    (λ l. cond (is_live ws l) (work_left (world_of ws l) (lane l after)) 0)
    at.place
    (2 + user_count ws.rows u)
    16
    at.below
    (λ l lt. cond-le (is_live ws l) (work_left (world_of ws l) (lane l after)) (work_left (world_of ws l) (lane l ranks)) (λ is. lane-work ws floor ranks after heap put new u k users x v l lt is))
    (cond-drop
    (is_live ws at.place)
    (work_left (world_of ws at.place) (lane at.place after))
    (work_left (world_of ws at.place) (lane at.place ranks))
    (2 + user_count ws.rows u)
    live
    (own-work ws floor ranks after heap put new u k users x v at.place at.below live at.here))

-- right keys after the visit

pub right-elsewhere : (ws : Worlds) (floor : List ℕ) (ranks after : List (List ℕ)) (heap put new : List (Option ℕ)) (u k : ℕ) (users : List NodeId) (x : ℕ → ℕ) → Visit ws floor ranks after heap put new u k users x → (n : ℕ) → n ≢ u → has_node users n ≡ false → right_key ws after n ≡ right_key ws ranks n
unfolding right_key
right-elsewhere ws floor ranks after heap put new u k users x v n other no_user =
    ap (λ i. as_key i) (least-same (key_in_lane ws after n) (key_in_lane ws ranks n) 16 (λ l lt.
    ap₂
    (λ a b. lane_key (is_live ws l) a b)
    (ap (λ (rs : List ℕ). get_or rs n 0) (v.lanes l) ∙ get_or-set_other (lane l ranks) u n (x l) 0 other)
    (ap (λ (rs : List ℕ). given (world_of ws l) (2 ^ 32 - 1) rs n) (v.lanes l) ∙ given-same (world_of ws l) (2 ^ 32 - 1) (lane l ranks) u (x l) n (not_user ws.rows u users n v.are no_user))))

pub right-here : (ws : Worlds) (floor : List ℕ) (ranks after : List (List ℕ)) (heap put new : List (Option ℕ)) (u k : ℕ) (users : List NodeId) (x : ℕ → ℕ) → Visit ws floor ranks after heap put new u k users x → has_node users u ≡ false → right_key ws after u ≡ key_at put u
unfolding right_key
right-here ws floor ranks after heap put new u k users x v no_user =
    ap (λ i. as_key i) (least-same (key_in_lane ws after u) (λ l. lane_key (is_live ws l) (x l) (given (world_of ws l) (2 ^ 32 - 1) (lane l ranks) u)) 16 (λ l lt.
    ap₂
    (λ a b. lane_key (is_live ws l) a b)
    (ap (λ (rs : List ℕ). get_or rs u 0) (v.lanes l) ∙ get_or-set_same (lane l ranks) u (x l) 0 (omega (arith, lane-long ranks l, v.holds.ranks_long, inside-of ws floor ranks after heap put new u k users x v)))
    (ap (λ (rs : List ℕ). given (world_of ws l) (2 ^ 32 - 1) rs u) (v.lanes l) ∙ given-same (world_of ws l) (2 ^ 32 - 1) (lane l ranks) u (x l) u (not_user ws.rows u users u v.are no_user))))
    ∙ sym v.put_here

pub early-after : (ws : Worlds) (floor : List ℕ) (ranks after : List (List ℕ)) (heap put new : List (Option ℕ)) (u k : ℕ) (users : List NodeId) (x : ℕ → ℕ) → Visit ws floor ranks after heap put new u k users x → early_keys ws after new ≤ early_keys ws ranks heap + user_count ws.rows u
unfolding early_keys
early-after ws floor ranks after heap put new u k users x v =
    let before : ℕ → ℕ = λ n. cond (is_same_key (key_at heap n) (right_key ws ranks n)) 0 1 in
    let now : ℕ → ℕ = λ n. cond (is_same_key (key_at new n) (right_key ws after n)) 0 1 in
    let each : (n : ℕ) → n < length ws.rows → now n ≤ before n + cond (has_node users n) 1 0 =
    λ n in_n. elim (cases_Bool (has_node users n)) [
      | inl user ↦ rw user (omega (arith, bit-le (is_same_key (key_at new n) (right_key ws after n))))
      | inr no_user ↦ elim (cases_eq n u) [
        | inl is_u ↦
            let here : key_at new n ≡ right_key ws after n =
            v.others n no_user ∙ subst (λ m. has_node users m ≡ false → key_at put m ≡ right_key ws after m) (sym is_u) (λ none. sym (right-here ws floor ranks after heap put new u k users x v none)) no_user in
            let right : is_same_key (key_at new n) (right_key ws after n) ≡ true = ap (λ a. is_same_key a (right_key ws after n)) here ∙ same_key-refl (right_key ws after n) in
            rw right (omega arith)
        | inr other ↦
            let same : now n ≡ before n =
            ap₂ (λ a b. cond (is_same_key a b) 0 1) (v.others n no_user ∙ v.put_other n other) (right-elsewhere ws floor ranks after heap put new u k users x v n other no_user) in
            omega (arith, same)
      ]
    ] in
    omega (
      arith,
      sum_below-le_added now before (λ n. cond (has_node users n) 1 0) (length ws.rows) each,
      sum_below-members users (length ws.rows),
      v.are.count,
    )

-- the visit, from what the parts of the code say

pub record Visited (ws : Worlds) (floor : List ℕ) (ranks after : List (List ℕ)) (heap new : List (Option ℕ)) : Type 0 where
  pub keys : HoldsLanes ws after new
  pub above : AreLanesAbove ws floor after
  pub fewer : left_in_lanes ws after new + 2 ≤ left_in_lanes ws ranks heap

pub key-tells : (right k : ℕ) → is_same_key (as_key right) (Some k) ≡ true → (0 < k) × (right ≡ k)
key-tells right k h = (grind (arith, nat_tests), grind (arith, nat_tests))

pub visited : (ws : Worlds) (floor : List ℕ) (ranks : List (List ℕ)) (heap popped put new : List (Option ℕ)) (u k : ℕ) (users : List NodeId) (live : List Bool) (kept by_row next : List ℕ) (right least : ℕ) → IsWhole (world ws.rows ws.barred ws.granted None) → ((l : ℕ) → l < 16 → get_or live l false ≡ is_live ws l) → HoldsLanes ws ranks heap → IsLaneFloor ws floor → AreLanesAbove ws floor ranks → IsLeastAt heap (length heap) u k → ((l : ℕ) → l < 16 → get_or kept l 0 ≡ get_or (lane l ranks) u 0) → ((l : ℕ) → l < 16 → get_or by_row l 0 ≡ given (world_of ws l) (2 ^ 32 - 1) (lane l ranks) u) → right ≡ least_below (λ l. lane_key (get_or live l false) (get_or kept l 0) (get_or by_row l 0)) 16 → is_same_key (as_key right) (Some k) ≡ true → ((l : ℕ) → l < 16 → get_or next l 0 ≡ next_in_lane (lane_key (get_or live l false) (get_or kept l 0) (get_or by_row l 0)) (get_or kept l 0) k) → ((l : ℕ) → get_or next l 0 ≤ 2 ^ 32 - 1) → least ≡ least_below (λ l. lane_key (get_or live l false) (get_or next l 0) (get_or by_row l 0)) 16 → popped ≡ set heap u None → put ≡ set popped u (as_key least) → AreUsers ws.rows u users → GivesLaneKeys k floor (set ranks u next) kept next users put new → Visited ws floor ranks (set ranks u next) heap new
visited ws floor ranks heap popped put new u k users live kept by_row next right least whole lives holds floors above is kept_is given_is right_is is_key next_is small least_is popped_is put_is are marks =
    let tells = key-tells right k is_key in
    let own_is : (l : ℕ) → l < 16 → lane_key (get_or live l false) (get_or kept l 0) (get_or by_row l 0) ≡ key_in_lane ws ranks u l =
    λ l lt. ap (λ b. lane_key b (get_or kept l 0) (get_or by_row l 0)) (lives l lt) ∙ ap₂ (λ a b. lane_key (is_live ws l) a b) (kept_is l lt) (given_is l lt) in
    let whole_put : put ≡ set (set heap u None) u (as_key least) = put_is ∙ ap (λ (h : List (Option ℕ)). set h u (as_key least)) popped_is in
    let inside : u < length heap = is.inside in
    let v : Visit ws floor ranks (set ranks u next) heap put new u k users (λ l. get_or next l 0) = record {
      whole = whole;
      holds = holds;
      floors = floors;
      above = above;
      least = is;
      positive = tells.0;
      right = sym (least-same (λ l. lane_key (get_or live l false) (get_or kept l 0) (get_or by_row l 0)) (key_in_lane ws ranks u) 16 own_is) ∙ (sym right_is ∙ tells.1);
      next = λ l lt. next_is l lt ∙ ap₂ (λ a b. next_in_lane a b k) (own_is l lt) (kept_is l lt);
      small = small;
      lanes = λ l. lane-set ranks l u next;
      as_long = length-set ranks u next;
      put_here = ap (λ (h : List (Option ℕ)). key_at h u) whole_put
          ∙ (put-here heap u (as_key least) inside
          ∙ ap (λ i. as_key i) (least_is
          ∙ least-same
          (λ l. lane_key (get_or live l false) (get_or next l 0) (get_or by_row l 0))
          (λ l. lane_key (is_live ws l) (get_or next l 0) (given (world_of ws l) (2 ^ 32 - 1) (lane l ranks) u))
          16
          (λ l lt. ap₂ (λ b g. lane_key b (get_or next l 0) g) (lives l lt) (given_is l lt))));
      put_other = λ n other. ap (λ (h : List (Option ℕ)). key_at h n) whole_put ∙ put-other heap u n (as_key least) other;
      put_long = ap length whole_put ∙ put-long heap u (as_key least);
      are = are;
      new_long = marks.as_long;
      lower = marks.lower;
      others = marks.others;
      marks = λ l lt differs. marks.each l lt (ap (λ a. eqb a (get_or next l 0)) (kept_is l lt) ∙ differs);
    } in
    record {
      keys = holds-after ws floor ranks (set ranks u next) heap put new u k users (λ l. get_or next l 0) v;
      above = lanes_above-after ws floor ranks (set ranks u next) heap put new u k users (λ l. get_or next l 0) v;
      fewer = omega (
        arith,
        work-after ws floor ranks (set ranks u next) heap put new u k users (λ l. get_or next l 0) v,
        early-after ws floor ranks (set ranks u next) heap put new u k users (λ l. get_or next l 0) v,
      );
    }

-- a key that isn't right, from what the parts of the code say

pub record PutRight (ws : Worlds) (ranks : List (List ℕ)) (heap new : List (Option ℕ)) : Type 0 where
  pub keys : HoldsLanes ws ranks new
  pub fewer : left_in_lanes ws ranks new + 1 ≤ left_in_lanes ws ranks heap

pub put-right : (ws : Worlds) (ranks : List (List ℕ)) (heap popped new : List (Option ℕ)) (u k : ℕ) (live : List Bool) (kept by_row : List ℕ) (right : ℕ) → ((l : ℕ) → l < 16 → get_or live l false ≡ is_live ws l) → HoldsLanes ws ranks heap → IsLeastAt heap (length heap) u k → ((l : ℕ) → l < 16 → get_or kept l 0 ≡ get_or (lane l ranks) u 0) → ((l : ℕ) → l < 16 → get_or by_row l 0 ≡ given (world_of ws l) (2 ^ 32 - 1) (lane l ranks) u) → right ≡ least_below (λ l. lane_key (get_or live l false) (get_or kept l 0) (get_or by_row l 0)) 16 → is_same_key (as_key right) (Some k) ≡ false → popped ≡ set heap u None → new ≡ set popped u (as_key right) → PutRight ws ranks heap new
put-right ws ranks heap popped new u k live kept by_row right lives holds is kept_is given_is right_is not_key popped_is new_is =
    let key_is : as_key right ≡ right_key ws ranks u = ap (λ i. as_key i) right_is ∙ right_key-is ws ranks u live kept by_row lives kept_is given_is in
    let whole_put : new ≡ set (set heap u None) u (as_key right) = new_is ∙ ap (λ (h : List (Option ℕ)). set h u (as_key right)) popped_is in
    let here : key_at new u ≡ right_key ws ranks u = ap (λ (h : List (Option ℕ)). key_at h u) whole_put ∙ (put-here heap u (as_key right) is.inside ∙ key_is) in
    let others : (n : ℕ) → n ≢ u → key_at new n ≡ key_at heap n = λ n other. ap (λ (h : List (Option ℕ)). key_at h n) whole_put ∙ put-other heap u n (as_key right) other in
    let long : length new ≡ length heap = ap length whole_put ∙ put-long heap u (as_key right) in
    record {
      keys = holds-put ws ranks heap new u holds long here others;
      fewer = omega (arith, early-put ws ranks heap new u k (omega (arith, is.inside, holds.heap_long)) is.here (ap (λ a. is_same_key a (Some k)) (sym key_is) ∙ not_key) here others);
    }
