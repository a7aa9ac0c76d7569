-- Floors: the ranks of a world that bars less, or none.
use Rattle.std.proofs.Common.{◌≡◌, ℕ, zero, suc, ◌<◌, ◌≤◌, Bool, true, false, eqb, not, ◌&&◌, ◌||◌, List, [], ◌∷◌, Option, None, length, slice_get, get_or, refl, sym, ◌∙◌, ap, subst, arith, inl, inr}
use Rattle.std.proofs.Math.ListN.{get_or-eq_default}
use Rattle.std.proofs.lemmas.Bool.{cases_eq, cases_lt, cases_Bool, and_parts, false≢true, ne_eqb}
use Rattle.std.proofs.lemmas.Bool.Decides.{nat_tests}
use Rattle.std.specs.List.{list_all}
use Rattle.plan_base.specs.declared.NodeId.{NodeId}
use Rattle.graph_store.specs.declared.Row.{Row}
use Rattle.graph_store.specs.Rows.{has_node}
use Rattle.graph_store.proofs.ReplaceLemmas.{get_or_inside}
use Rattle.reach_ranks.specs.Rounds.{World, Nodes, world, has_groups, is_granted, is_node, admits, IsWithin, IsWhole}
use Rattle.reach_ranks.specs.Ranks.{AreRanks, is_one_to, within, Agrees}
use Rattle.reach_ranks.specs.Given.{given}
use Rattle.reach_ranks.specs.Floors.{is_above, AreAbove, IsFloor}
use Rattle.reach_ranks.proofs.RoundLemmas.{admits-within}
use Rattle.reach_ranks.proofs.RankLemmas.{one_to_zero, one_to_yes, within-next, within-past, agrees-admits}
use Rattle.reach_ranks.proofs.GivenLemmas.{one_to-given, given-le}

-- without a floor each rank is above it

pub above-one : (r : ℕ) → is_above 1 r ≡ true
above-one r = grind (arith, nat_tests)

pub above_none : (ranks : List ℕ) → AreAbove [] ranks
above_none ranks = λ n. above-one (get_or ranks n 0)

pub no_floor : (w : World) (limit : ℕ) → IsFloor w limit []
no_floor w limit = record { keeps = λ ranks n inside long above. above-one (given w limit ranks n) }

-- a world that bars less admits at least as much

pub fewer_bars : (b e r : Bool) → (not (b || e) && r) ≡ true → (not (b || false) && r) ≡ true
fewer_bars true e r h = absurd (false≢true h)
fewer_bars false true r h = absurd (false≢true h)
fewer_bars false false r h = h

pub admits-fewer : (rows : List Row) (barred granted : List Bool) (e : Option NodeId) (s : Nodes) (n : ℕ) → admits (world rows barred granted e) s n ≡ true → admits (world rows barred granted None) s n ≡ true
unfolding admits
admits-fewer rows barred granted e s n h =
    fewer_bars (get_or barred n false) (is_node e n) (is_granted (world rows barred granted e) n || has_groups s (slice_get rows n)) h

-- numbers and tests

pub above-tells : (floor r k : ℕ) → is_above floor r ≡ true → is_one_to k r ≡ true → is_one_to k floor ≡ true
above-tells floor r k h is = grind (arith, nat_tests)

pub above-from : (floor r : ℕ) → (0 < r → is_one_to r floor ≡ true) → is_above floor r ≡ true
above-from floor zero f = refl
above-from floor (suc k) f =
    let is : is_one_to (suc k) floor ≡ true = f (omega arith) in
    grind (arith, nat_tests)

pub either_default : (xs : List ℕ) (n : ℕ) → n < length xs → get_or xs n 1 ≡ get_or xs n 0
either_default xs n lt = get_or_inside xs n 1 0 lt

-- the ranks of the world that bars less are a floor

pub within-floor : (w : World) (floor ranks : List ℕ) → length floor ≡ length w.rows → length ranks ≡ length w.rows → AreAbove floor ranks → (k : ℕ) → IsWithin (within ranks k) (within floor k)
within-floor w floor ranks long ranks_long above k m is =
    elim (cases_lt m (length w.rows)) [
      | inl inside ↦ ap (λ r. is_one_to k r) (sym (either_default floor m (omega arith))) ∙ above-tells (get_or floor m 1) (get_or ranks m 0) k (above m) is
      | inr past ↦ absurd (false≢true (sym (within-past w ranks ranks_long k m past) ∙ is))
    ]

pub floor-given : (rows : List Row) (barred granted : List Bool) (e : Option NodeId) (limit : ℕ) (floor ranks : List ℕ) (n g : ℕ) → IsWhole (world rows barred granted None) → AreRanks (world rows barred granted None) floor → length ranks ≡ length rows → AreAbove floor ranks → n < length rows → g ≤ limit → g ≡ given (world rows barred granted e) limit ranks n → is_above (get_or floor n 1) g ≡ true
floor-given rows barred granted e limit floor ranks n zero whole are long above inside le is = refl
floor-given rows barred granted e limit floor ranks n (suc k) whole are long above inside le is =
    let w : World = world rows barred granted e in
    let w0 : World = world rows barred granted None in
    let admitted : admits w (within ranks k) n ≡ true =
    sym (one_to-given w limit ranks n k (omega arith)) ∙ (ap (λ r. is_one_to (suc k) r) (sym is) ∙ one_to_yes (suc k) (suc k) (omega arith) (omega arith)) in
    let below : admits w0 (within floor k) n ≡ true =
    admits-within w0 (within ranks k) (within floor k) (within-floor w0 floor ranks are.as_long long above k) n (admits-fewer rows barred granted e (within ranks k) n admitted) in
    let early : is_one_to (suc k) (get_or floor n 1) ≡ true =
    ap (λ r. is_one_to (suc k) r) (either_default floor n (omega (arith, are.as_long))) ∙ (sym (within-next w0 whole floor are k n) ∙ below) in
    above-from (get_or floor n 1) (suc k) (λ pos. early)

pub floor-from_ranks : (rows : List Row) (barred granted : List Bool) (e : Option NodeId) (limit : ℕ) (floor : List ℕ) → IsWhole (world rows barred granted None) → AreRanks (world rows barred granted None) floor → IsFloor (world rows barred granted e) limit floor
floor-from_ranks rows barred granted e limit floor whole are = record {
  keeps = λ ranks n inside long above. floor-given rows barred granted e limit floor ranks n (given (world rows barred granted e) limit ranks n) whole are long above inside (given-le (world rows barred granted e) limit ranks n) refl;
}

-- ranks that agree but for some that are above the floor are all above it

pub within-agreeing : (rows : List Row) (barred granted : List Bool) (e : Option NodeId) (floor ranks : List ℕ) (changed : List NodeId) → IsWhole (world rows barred granted None) → AreRanks (world rows barred granted None) floor → length ranks ≡ length rows → ((n : ℕ) → n < length rows → has_node changed n ≡ false → Agrees (world rows barred granted e) ranks n) → ((n : ℕ) → has_node changed n ≡ true → is_above (get_or floor n 1) (get_or ranks n 0) ≡ true) → (k : ℕ) → IsWithin (within ranks k) (within floor k)
within-agreeing rows barred granted e floor ranks changed whole are long agree checked zero n is = absurd (false≢true (sym (one_to_zero (get_or ranks n 0)) ∙ is))
within-agreeing rows barred granted e floor ranks changed whole are long agree checked (suc k) n is =
    let w : World = world rows barred granted e in
    let w0 : World = world rows barred granted None in
    elim (cases_lt n (length rows)) [
      | inl inside ↦ elim (cases_Bool (has_node changed n)) [
        | inl changes ↦ ap (λ r. is_one_to (suc k) r) (sym (either_default floor n (omega (arith, are.as_long)))) ∙ above-tells (get_or floor n 1) (get_or ranks n 0) (suc k) (checked n changes) is
        | inr kept ↦ sym (within-next w0 whole floor are k n)
            ∙ admits-within w0 (within ranks k) (within floor k) (within-agreeing rows barred granted e floor ranks changed whole are long agree checked k) n
            (admits-fewer rows barred granted e (within ranks k) n (sym (agrees-admits w ranks k n (agree n inside kept)) ∙ is))
      ]
      | inr past ↦ absurd (false≢true (sym (within-past w0 ranks long (suc k) n past) ∙ is))
    ]

pub above-agreeing : (rows : List Row) (barred granted : List Bool) (e : Option NodeId) (floor ranks : List ℕ) (changed : List NodeId) → IsWhole (world rows barred granted None) → AreRanks (world rows barred granted None) floor → length ranks ≡ length rows → ((n : ℕ) → n < length rows → has_node changed n ≡ false → Agrees (world rows barred granted e) ranks n) → ((n : ℕ) → has_node changed n ≡ true → is_above (get_or floor n 1) (get_or ranks n 0) ≡ true) → AreAbove floor ranks
above-agreeing rows barred granted e floor ranks changed whole are long agree checked n =
    above-from (get_or floor n 1) (get_or ranks n 0) (λ pos.
    elim (cases_lt n (length rows)) [
      | inl inside ↦ ap (λ r. is_one_to (get_or ranks n 0) r) (either_default floor n (omega (arith, are.as_long)))
          ∙ within-agreeing rows barred granted e floor ranks changed whole are long agree checked (get_or ranks n 0) n (one_to_yes (get_or ranks n 0) (get_or ranks n 0) pos (omega arith))
      | inr past ↦ let none : get_or ranks n 0 ≡ 0 = get_or-eq_default ranks 0 (omega (arith, long)) in absurd (omega arith)
    ])

-- a test of each node of a list

pub above-default : (floor ranks : List ℕ) (n : ℕ) → length ranks ≡ length floor → is_above (get_or floor n 0) (get_or ranks n 0) ≡ true → is_above (get_or floor n 1) (get_or ranks n 0) ≡ true
above-default floor ranks n long h =
    elim (cases_lt n (length floor)) [
      | inl inside ↦ ap (λ f. is_above f (get_or ranks n 0)) (either_default floor n inside) ∙ h
      | inr past ↦ ap (λ r. is_above (get_or floor n 1) r) (get_or-eq_default ranks 0 (omega arith))
    ]

pub rest-true : (a b : Bool) → a ≡ false → (a || b) ≡ true → b ≡ true
rest-true true b e h = absurd (false≢true (sym e))
rest-true false b e h = h

pub above-checked : (floor ranks : List ℕ) (nodes : List NodeId) → length ranks ≡ length floor → list_all (λ n. is_above (get_or floor n.0 0) (get_or ranks n.0 0)) nodes ≡ true → (n : ℕ) → has_node nodes n ≡ true → is_above (get_or floor n 1) (get_or ranks n 0) ≡ true
above-checked floor ranks [] long all n is = absurd (false≢true is)
above-checked floor ranks (m ∷ ms) long all n is =
    let parts = and_parts (is_above (get_or floor m.0 0) (get_or ranks m.0 0)) (list_all (λ (x : NodeId). is_above (get_or floor x.0 0) (get_or ranks x.0 0)) ms) all in
    elim (cases_eq m.0 n) [
      | inl same ↦ above-default floor ranks n long (subst (λ (k : ℕ). is_above (get_or floor k 0) (get_or ranks k 0) ≡ true) same parts.0)
      | inr other ↦ above-checked floor ranks ms long parts.1 n (rest-true (eqb m.0 n) (has_node ms n) (ne_eqb m.0 n other) is)
    ]
