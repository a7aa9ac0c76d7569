-- The ranks that a row gives in each lane, the right keys, and how the keys of users follow.
use Rattle.std.proofs.Common.{◌≡◌, ◌≢◌, ℕ, suc, ◌+◌, ◌-◌, ◌^◌, ◌<◌, ◌≤◌, ◌||◌, ◌&&◌, not, Bool, true, false, cond, eqb, List, Option, None, length, slice_get, get_or, set, take, sym, ◌∙◌, ap, ap₂, subst, arith, inl, inr, length-set, get_or-set_same, get_or-set_other}
use Rattle.std.proofs.lemmas.Bool.{cases_eq, cases_Bool, or_parts, ne_eqb, eqb-false}
use Rattle.plan_base.specs.declared.NodeId.{NodeId}
use Rattle.graph_store.specs.Rows.{has_node}
use Rattle.index_heap.specs.Keys.{key_at}
use Rattle.reach_ranks.specs.Rounds.{World, is_node, is_barred, is_granted, has_groups, admits}
use Rattle.reach_ranks.specs.Ranks.{is_one_to, within}
use Rattle.reach_ranks.specs.Given.{given, key_of, key_after, is_by}
use Rattle.reach_ranks.proofs.GivenLemmas.{given-is, given-barred, is_by-trans}
use Rattle.reach_ranks.proofs.RepairLemmas.{has_node-more, or-first}
use Rattle.reach_incremental.specs.Lanes.{Worlds, world_of, is_live, lane}
use Rattle.reach_incremental.specs.Keys.{least_below, lane_key, as_key, key_in_lane, right_key, RefreshesLanes, GivesLaneKeys}
use Rattle.reach_incremental.proofs.LaneLemmas.{least-same, least_key-by}

-- the rank that a row gives in one lane

pub given-free : (w : World) (limit : ℕ) (ranks : List ℕ) (n r : ℕ) → r ≤ limit → is_barred w n ≡ false → ((k : ℕ) → k < limit → is_one_to (k + 1) r ≡ (is_granted w n || has_groups (within ranks k) (slice_get w.rows n))) → r ≡ given w limit ranks n
unfolding admits
given-free w limit ranks n r le b tests =
    given-is w limit ranks n r le (λ k lt.
    let e : suc k ≡ k + 1 = omega arith in
    ap (λ i. is_one_to i r) e ∙ (tests k lt ∙ sym (ap (λ x. not x && (is_granted w n || has_groups (within ranks k) (slice_get w.rows n))) b)))

pub given-marked : (w : World) (limit : ℕ) (ranks : List ℕ) (n : ℕ) → get_or w.barred n false ≡ true → 0 ≡ given w limit ranks n
given-marked w limit ranks n b = given-barred w limit ranks n (ap (λ x. x || is_node w.extra n) b)

pub given-lane : (w : World) (limit : ℕ) (ranks : List ℕ) (n r s : ℕ) → s ≤ limit → get_or w.barred n false ≡ false → ((k : ℕ) → k < limit → is_one_to (k + 1) s ≡ (is_granted w n || has_groups (within ranks k) (slice_get w.rows n))) → r ≡ cond (is_node w.extra n) 0 s → r ≡ given w limit ranks n
given-lane w limit ranks n r s le b tests is =
    elim (cases_Bool (is_node w.extra n)) [
      | inl extra ↦ is ∙ (ap (λ x. cond x 0 s) extra ∙ given-barred w limit ranks n (ap₂ (λ x y. x || y) b extra))
      | inr other ↦ is ∙ (ap (λ x. cond x 0 s) other ∙ given-free w limit ranks n s le (ap₂ (λ x y. x || y) b other) tests)
    ]

-- right keys

pub right_key-is : (ws : Worlds) (ranks : List (List ℕ)) (n : ℕ) (live : List Bool) (kept by_row : List ℕ) → ((l : ℕ) → l < 16 → get_or live l false ≡ is_live ws l) → ((l : ℕ) → l < 16 → get_or kept l 0 ≡ get_or (lane l ranks) n 0) → ((l : ℕ) → l < 16 → get_or by_row l 0 ≡ given (world_of ws l) (2 ^ 32 - 1) (lane l ranks) n) → as_key (least_below (λ l. lane_key (get_or live l false) (get_or kept l 0) (get_or by_row l 0)) 16) ≡ right_key ws ranks n
unfolding right_key
right_key-is ws ranks n live kept by_row lives kept_is given_is =
    ap
    (λ k. as_key k)
    (least-same
    (λ l. lane_key (get_or live l false) (get_or kept l 0) (get_or by_row l 0))
    (key_in_lane ws ranks n)
    16
    (λ l lt. ap (λ b. lane_key b (get_or kept l 0) (get_or by_row l 0)) (lives l lt) ∙ ap₂ (λ a b. lane_key (is_live ws l) a b) (kept_is l lt) (given_is l lt)))

pub right_key-by : (ws : Worlds) (ranks : List (List ℕ)) (n l : ℕ) → l < 16 → is_live ws l ≡ true → is_by (right_key ws ranks n) (key_of (get_or (lane l ranks) n 0) (given (world_of ws l) (2 ^ 32 - 1) (lane l ranks) n)) ≡ true
unfolding right_key
right_key-by ws ranks n l lt live =
    least_key-by (λ i. is_live ws i) (λ i. get_or (lane i ranks) n 0) (λ i. given (world_of ws i) (2 ^ 32 - 1) (lane i ranks) n) l lt live

-- one node more is given its key

pub refresh_lanes-more : (ws : Worlds) (ranks : List (List ℕ)) (nodes : List NodeId) (i : ℕ) (d : NodeId) (old heap new : List (Option ℕ)) → i < length nodes → length old ≡ length ws.rows → RefreshesLanes ws ranks (take i nodes) old heap → new ≡ set heap (get_or nodes i d).0 (right_key ws ranks (get_or nodes i d).0) → RefreshesLanes ws ranks (take (i + 1) nodes) old new
refresh_lanes-more ws ranks nodes i d old heap new lt long r e =
    let u : ℕ = (get_or nodes i d).0 in
    let k : Option ℕ = right_key ws ranks (get_or nodes i d).0 in
    record {
      as_long = ap length e ∙ (length-set heap u k ∙ r.as_long);
      at_nodes = λ n inside h. elim (cases_eq n u) [
        | inl same ↦ ap (λ (xs : List (Option ℕ)). get_or xs n None) e
            ∙ subst
            (λ m. get_or (set heap u k) m None ≡ right_key ws ranks m)
            (sym same)
            (get_or-set_same heap u k None (omega (arith, r.as_long)))
        | inr other ↦ ap (λ (xs : List (Option ℕ)). get_or xs n None) e
            ∙ (get_or-set_other heap u n k None other
            ∙ r.at_nodes n inside (or-first (has_node (take i nodes) n) (eqb u n) (sym (has_node-more nodes i n d lt) ∙ h) (ne_eqb u n (λ q. other (sym q)))))
      ];
      others = λ n h.
          let parts = or_parts (has_node (take i nodes) n) (eqb u n) (sym (has_node-more nodes i n d lt) ∙ h) in
          let other : n ≢ u = λ q. eqb-false u n parts.1 (sym q) in
          ap (λ (xs : List (Option ℕ)). get_or xs n None) e ∙ (get_or-set_other heap u n k None other ∙ r.others n parts.0);
    }

-- one user more is given its key

pub marks_lanes-more : (by : ℕ) (floor : List ℕ) (ranks : List (List ℕ)) (was is : List ℕ) (nodes : List NodeId) (i : ℕ) (d : NodeId) (old heap new : List (Option ℕ)) → i < length nodes → (get_or nodes i d).0 < length old → GivesLaneKeys by floor ranks was is (take i nodes) old heap → new ≡ set heap (get_or nodes i d).0 (key_at new (get_or nodes i d).0) → is_by (key_at new (get_or nodes i d).0) (key_at heap (get_or nodes i d).0) ≡ true → ((l : ℕ) → l < 16 → eqb (get_or was l 0) (get_or is l 0) ≡ false → is_by (key_at new (get_or nodes i d).0) (key_after (eqb (get_or is l 0) by) by (get_or floor (get_or nodes i d).0 1) (key_at heap (get_or nodes i d).0) (get_or (lane l ranks) (get_or nodes i d).0 0)) ≡ true) → GivesLaneKeys by floor ranks was is (take (i + 1) nodes) old new
marks_lanes-more by floor ranks was is nodes i d old heap new lt inside m e lower each =
    let u : ℕ = (get_or nodes i d).0 in
    let key : Option ℕ = key_at new (get_or nodes i d).0 in
    let elsewhere : (n : ℕ) → n ≢ u → key_at new n ≡ key_at heap n =
    λ n other. ap (λ (xs : List (Option ℕ)). key_at xs n) e ∙ get_or-set_other heap u n key None other in
    let long : length new ≡ length old = ap length e ∙ (length-set heap u key ∙ m.as_long) in
    record {
      as_long = long;
      lower = λ n. elim (cases_eq n u) [
        | inl same ↦ subst (λ j. is_by (key_at new j) (key_at old j) ≡ true) (sym same) (is_by-trans (key_at new u) (key_at heap u) (key_at old u) lower (m.lower u))
        | inr other ↦ ap (λ y. is_by y (key_at old n)) (elsewhere n other) ∙ m.lower n
      ];
      others = λ n h.
          let parts = or_parts (has_node (take i nodes) n) (eqb u n) (sym (has_node-more nodes i n d lt) ∙ h) in
          elsewhere n (λ q. eqb-false u n parts.1 (sym q)) ∙ m.others n parts.0;
      each = λ l in_l differs.
          let ml = m.each l in_l differs in
          let here : is_by key (key_after (eqb (get_or is l 0) by) by (get_or floor u 1) (key_at old u) (get_or (lane l ranks) u 0)) ≡ true = elim (cases_Bool (has_node (take i nodes) u)) [
            | inl before ↦ is_by-trans key (key_at heap u) (key_after (eqb (get_or is l 0) by) by (get_or floor u 1) (key_at old u) (get_or (lane l ranks) u 0)) lower (ml.at_nodes u before)
            | inr first ↦ subst (λ y. is_by key (key_after (eqb (get_or is l 0) by) by (get_or floor u 1) y (get_or (lane l ranks) u 0)) ≡ true) (ml.others u first) (each l in_l differs)
          ] in
          record {
            as_long = long;
            at_nodes = λ n h. elim (cases_eq n u) [
              | inl same ↦ subst
                  (λ j. is_by (key_at new j) (key_after (eqb (get_or is l 0) by) by (get_or floor j 1) (key_at old j) (get_or (lane l ranks) j 0)) ≡ true)
                  (sym same)
                  here
              | inr other ↦ ap (λ y. is_by y (key_after (eqb (get_or is l 0) by) by (get_or floor n 1) (key_at old n) (get_or (lane l ranks) n 0))) (elsewhere n other)
                  ∙ ml.at_nodes n (or-first (has_node (take i nodes) n) (eqb u n) (sym (has_node-more nodes i n d lt) ∙ h) (ne_eqb u n (λ q. other (sym q))))
            ];
            others = λ n h.
                let parts = or_parts (has_node (take i nodes) n) (eqb u n) (sym (has_node-more nodes i n d lt) ∙ h) in
                elsewhere n (λ q. eqb-false u n parts.1 (sym q)) ∙ ml.others n parts.0;
          };
    }
