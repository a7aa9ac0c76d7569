-- The worlds of the blocks while the first of them have been repaired, and of the milestones in them.
use Rattle.std.proofs.Common.{◌≡◌, ◌≢◌, ℕ, zero, suc, ◌+◌, ◌<◌, ◌≤◌, ◌&&◌, Bool, true, false, cond, eqb, List, [], ◌∷◌, Option, Some, None, All, length, slice_get, get_or, map, take, refl, sym, ◌∙◌, ap, ap₂, subst, arith, inl, inr, add-one}
use Rattle.std.proofs.lemmas.Bool.{cases_eq, false≢true, eq-eqb, ne_eqb}
use Rattle.std.proofs.lemmas.Option.{slice_get-get_or}
use Rattle.std.proofs.lemmas.List.{length-set, length-map, get_or-map, take_all}
use Rattle.std.proofs.lemmas.List.Elements.{All-map}
use Rattle.std.proofs.lemmas.List.Sums.{sum_by-cons, sum_by_more}
use Rattle.std.proofs.Math.ListN.{set}
use Rattle.std.specs.List.{sum_by}
use Rattle.plan_base.specs.declared.NodeId.{NodeId}
use Rattle.graph_store.specs.declared.Row.{Row}
use Rattle.graph_store.proofs.TidyLemmas.{any-then}
use Rattle.reach_ranks.specs.Rounds.{world}
use Rattle.reach_ranks.specs.Ranks.{AgreeBut, AreRanks, Agrees}
use Rattle.reach_ranks.specs.Given.{size_of, sum_below}
use Rattle.reach_ranks.proofs.SizeLemmas.{only_at, only_at-same, sum_below-le, sum_below-le_add, sum_below-only, sum_below-zero, cond-or}
use Rattle.reach_incremental.specs.Lanes.{AgreeInLanes, is_one, worlds, AreLaneRanks, AreSmall}
use Rattle.reach_incremental.specs.Keys.{lane_sizes}
use Rattle.milestone_masks.specs.declared.worlds.Milestone.{Milestone}
use Rattle.milestone_masks.specs.declared.slots.Slot.{Slot}
use Rattle.milestone_masks.specs.declared.blocks.Block.{Block}
use Rattle.milestone_masks.specs.Worlds.{ranks_of, size_in_world}
use Rattle.milestone_masks.specs.Held.{rows_of, extras_of, ranks_at, extra_at, milestone_of, milestones_in, has_slot, size_in_block, AreBlocks, AreRepaired, AreSlots}
use Rattle.milestone_masks.proofs.SlotLemmas.{get-set_same, get-set_other}
use Rattle.milestone_masks.proofs.OwnedLemmas.{both-tell}

pub blocks_repaired-none : (rows : List Row) (barred granted : List Bool) (blocks : List Block) → AreBlocks (length rows) blocks → AreRepaired rows barred granted 0 blocks blocks
blocks_repaired-none rows barred granted blocks are = record {
  as_long = refl;
  extras = λ b lt. refl;
  left = λ b le lt. refl;
  done = λ b lt inside. absurd (omega arith);
  blocks_are = are;
}

pub blocks_repaired-more : (rows : List Row) (barred granted : List Bool) (k : ℕ) (old new : List Block) (was after : Block) → k < length old → AreRepaired rows barred granted k old new → slice_get new k ≡ Some was → after.extras ≡ was.extras → AreLaneRanks (worlds rows barred granted after.extras) after.ranks.items → length after.ranks.items ≡ length rows → AreSmall after.ranks.items → AreRepaired rows barred granted (k + 1) old (set new k after)
blocks_repaired-more rows barred granted k old new was after lt are at extras ranks long small =
    let inside : k < length new = omega (arith, are.as_long) in
    let here : slice_get (set new k after) k ≡ Some after = get-set_same new k after inside in
    let same_extras : after.extras ≡ extras_of (slice_get old k) = extras ∙ (sym (ap (λ (o : Option Block). extras_of o) at) ∙ are.extras k lt) in
    record {
      as_long = length-set new k after ∙ are.as_long;
      extras = λ b in_b. elim (cases_eq b k) [
        | inl same ↦ subst (λ i. extras_of (slice_get (set new k after) i) ≡ extras_of (slice_get old i)) (sym same) (ap (λ (o : Option Block). extras_of o) here ∙ same_extras)
        | inr other ↦ ap (λ (o : Option Block). extras_of o) (get-set_other new k b after other) ∙ are.extras b in_b
      ];
      left = λ b le in_b. let other : b ≢ k = omega arith in get-set_other new k b after other ∙ are.left b (omega arith) in_b;
      done = λ b below in_b. elim (cases_eq b k) [
        | inl same ↦ subst
            (λ i. AreLaneRanks (worlds rows barred granted (extras_of (slice_get old i))) (rows_of (slice_get (set new k after) i)))
            (sym same)
            (subst
            (λ (o : Option Block). AreLaneRanks (worlds rows barred granted (extras_of (slice_get old k))) (rows_of o))
            (sym here)
            (subst (λ (es : List (Option NodeId)). AreLaneRanks (worlds rows barred granted es) after.ranks.items) same_extras ranks))
        | inr other ↦ subst
            (λ (o : Option Block). AreLaneRanks (worlds rows barred granted (extras_of (slice_get old b))) (rows_of o))
            (sym (get-set_other new k b after other))
            (are.done b (omega arith) in_b)
      ];
      blocks_are = record {
        long = λ b in_b. elim (cases_eq b k) [
          | inl same ↦ subst (λ i. length (rows_of (slice_get (set new k after) i)) ≡ length rows) (sym same) (ap (λ (o : Option Block). length (rows_of o)) here ∙ long)
          | inr other ↦ ap (λ (o : Option Block). length (rows_of o)) (get-set_other new k b after other) ∙ are.blocks_are.long b (omega (arith, length-set new k after))
        ];
        small = λ b in_b. elim (cases_eq b k) [
          | inl same ↦ subst (λ i. AreSmall (rows_of (slice_get (set new k after) i))) (sym same) (subst (λ (o : Option Block). AreSmall (rows_of o)) (sym here) small)
          | inr other ↦ subst (λ (o : Option Block). AreSmall (rows_of o)) (sym (get-set_other new k b after other)) (are.blocks_are.small b (omega (arith, length-set new k after)))
        ];
      };
    }

pub sum_below-same : (f g : ℕ → ℕ) (k : ℕ) → ((i : ℕ) → i < k → f i ≡ g i) → sum_below f k ≡ sum_below g k
sum_below-same f g zero e = refl
sum_below-same f g (suc k) e = omega (arith, e k (omega arith), sum_below-same f g k (λ i lt. e i (omega arith)))

pub block_sizes-more : (rows : List Row) (barred granted : List Bool) (changed : List NodeId) (k : ℕ) (old new : List Block) (was after : Block) → k < length old → AreRepaired rows barred granted k old new → slice_get new k ≡ Some was → sum_below (size_in_block rows barred granted changed old (set new k after)) (k + 1) ≡ lane_sizes (worlds rows barred granted was.extras) changed was.ranks.items after.ranks.items + sum_below (size_in_block rows barred granted changed old new) k
block_sizes-more rows barred granted changed k old new was after lt are at =
    let before : slice_get old k ≡ Some was = sym (are.left k (omega arith) lt) ∙ at in
    let here : slice_get (set new k after) k ≡ Some after = get-set_same new k after (omega (arith, are.as_long)) in
    rw (add-one k) (omega (
      arith,
      ap₂ (λ (p q : Option Block). lane_sizes (worlds rows barred granted (extras_of p)) changed (rows_of p) (rows_of q)) before here,
      sum_below-same (size_in_block rows barred granted changed old (set new k after)) (size_in_block rows barred granted changed old new) k (λ i below.
          ap (λ (o : Option Block). lane_sizes (worlds rows barred granted (extras_of (slice_get old i))) changed (rows_of (slice_get old i)) (rows_of o)) (get-set_other new k i after (λ e. omega arith))),
    ))

-- each live lane agrees as its milestone does

pub slot-agrees : (rows : List Row) (barred granted : List Bool) (changed : List NodeId) (blocks : List Block) (slots : List Slot) → All (λ m. AgreeBut (world rows barred granted (Some m.node)) changed m.ranks) (milestones_in blocks slots) → (i : ℕ) (d : Slot) → i < length slots → AgreeBut (world rows barred granted (Some (get_or slots i d).node)) changed (ranks_at blocks (get_or slots i d).block (get_or slots i d).lane)
slot-agrees rows barred granted changed blocks slots agree i d lt =
    subst
    (λ (m : Milestone). AgreeBut (world rows barred granted (Some m.node)) changed m.ranks)
    (get_or-map (milestone_of blocks) slots i d (milestone_of blocks d) lt)
    (agree i (milestone_of blocks d) (omega (arith, length-map slots (milestone_of blocks))))

pub lanes-agree : (rows : List Row) (barred granted : List Bool) (changed : List NodeId) (blocks : List Block) (slots : List Slot) → AreSlots (length rows) blocks slots → All (λ m. AgreeBut (world rows barred granted (Some m.node)) changed m.ranks) (milestones_in blocks slots) → (b : ℕ) → b < length blocks → AgreeInLanes (worlds rows barred granted (extras_of (slice_get blocks b))) changed (rows_of (slice_get blocks b))
lanes-agree rows barred granted changed blocks slots are agree b in_b = λ l in_l live n in_n outside.
    any-then
    (λ (s : Slot). eqb s.block b && eqb s.lane l)
    slots
    (Agrees (world rows barred granted (extra_at blocks b l)) (ranks_at blocks b l) n)
    (are.owned b l in_b in_l live)
    (λ i d lt holds.
    let s : Slot = get_or slots i d in
    let same = both-tell s.block b s.lane l holds in
    let extra : Some s.node ≡ extra_at blocks b l = sym (are.extras i d lt) ∙ ap₂ (λ c m. extra_at blocks c m) same.0 same.1 in
    subst
    (λ (e : Option NodeId). Agrees (world rows barred granted e) (ranks_at blocks b l) n)
    extra
    (subst
    (λ (ranks : List ℕ). Agrees (world rows barred granted (Some s.node)) ranks n)
    (ap₂ (λ c m. ranks_at blocks c m) same.0 same.1)
    ((slot-agrees rows barred granted changed blocks slots agree i d lt).each n in_n outside)))

-- the milestones after all blocks have been repaired

pub slots-repaired : (rows : List Row) (barred granted : List Bool) (old new : List Block) (slots : List Slot) → AreSlots (length rows) old slots → AreRepaired rows barred granted (length old) old new → AreSlots (length rows) new slots
slots-repaired rows barred granted old new slots are r = record {
  blocks_are = r.blocks_are;
  inside = λ i d lt. (omega (arith, (are.inside i d lt).0, r.as_long), (are.inside i d lt).1);
  extras = λ i d lt. ap (λ (es : List (Option NodeId)). get_or es (get_or slots i d).lane None) (r.extras (get_or slots i d).block (are.inside i d lt).0) ∙ are.extras i d lt;
  owned = λ b l in_b in_l live. are.owned b l (omega (arith, r.as_long)) in_l (ap (λ (es : List (Option NodeId)). is_one (get_or es l None)) (sym (r.extras b (omega (arith, r.as_long)))) ∙ live);
}

pub slot-ranks : (rows : List Row) (barred granted : List Bool) (old new : List Block) (slots : List Slot) → AreSlots (length rows) old slots → AreRepaired rows barred granted (length old) old new → All (λ m. AreRanks (world rows barred granted (Some m.node)) m.ranks) (milestones_in new slots)
slot-ranks rows barred granted old new slots are r =
    All-map (λ (m : Milestone). AreRanks (world rows barred granted (Some m.node)) m.ranks) (milestone_of new) slots (λ i d lt.
    let s : Slot = get_or slots i d in
    let in_b = (are.inside i d lt).0 in
    subst
    (λ (e : Option NodeId). AreRanks (world rows barred granted e) (ranks_at new s.block s.lane))
    (are.extras i d lt)
    (r.done s.block in_b in_b s.lane (are.inside i d lt).1 (ap (λ (x : Option NodeId). is_one x) (are.extras i d lt))))

pub slot-nodes : (old new : List Block) (slots : List Slot) → map (λ m. m.node) (milestones_in new slots) ≡ map (λ m. m.node) (milestones_in old slots)
slot-nodes old new [] = refl
slot-nodes old new (s ∷ ss) = ap (λ (ns : List NodeId). s.node ∷ ns) (slot-nodes old new ss)

-- the sizes over the live lanes are at most those over the milestones

pub lane-only : (f : ℕ → ℕ → ℕ) (c m b : ℕ) → sum_below (λ l. cond (eqb c b && eqb m l) (f b l) 0) 16 ≤ only_at (λ b. f b m) c b
lane-only f c m b =
    elim (cases_eq c b) [
      | inl same ↦ omega (arith, only_at-same (λ b. f b m) c b same, sum_below-le (λ l. cond (eqb c b && eqb m l) (f b l) 0) (only_at (f b) m) 16 (λ l lt. rw (eq-eqb c b same) (omega arith)), sum_below-only (f b) m 16)
      | inr other ↦ omega (arith, sum_below-zero (λ l. cond (eqb c b && eqb m l) (f b l) 0) 16 (λ l lt. rw (ne_eqb c b other) refl))
    ]

pub lanes-entries : (f : ℕ → ℕ → ℕ) (slots : List Slot) (k : ℕ) → sum_below (λ b. sum_below (λ l. cond (has_slot slots b l) (f b l) 0) 16) k ≤ sum_by (λ s. f s.block s.lane) slots
lanes-entries f [] k =
    omega (arith, sum_below-zero (λ b. sum_below (λ l. cond (has_slot [] b l) (f b l) 0) 16) k (λ b lt. sum_below-zero (λ l. cond (has_slot [] b l) (f b l) 0) 16 (λ l in_l. refl)))
lanes-entries f (s ∷ ss) k =
    let more : sum_by (λ (t : Slot). f t.block t.lane) (s ∷ ss) ≡ f s.block s.lane + sum_by (λ (t : Slot). f t.block t.lane) ss = sum_by-cons (λ (t : Slot). f t.block t.lane) s ss in
    omega (
      arith,
      sum_below-le_add
          (λ b. sum_below (λ l. cond (has_slot (s ∷ ss) b l) (f b l) 0) 16)
          (only_at (λ b. f b s.lane) s.block)
          (λ b. sum_below (λ l. cond (has_slot ss b l) (f b l) 0) 16)
          k
          (λ b. omega (
            arith,
            sum_below-le_add
                (λ l. cond (has_slot (s ∷ ss) b l) (f b l) 0)
                (λ l. cond (eqb s.block b && eqb s.lane l) (f b l) 0)
                (λ l. cond (has_slot ss b l) (f b l) 0)
                16
                (λ l. cond-or (eqb s.block b && eqb s.lane l) (has_slot ss b l) (f b l)),
            lane-only f s.block s.lane b,
          )),
      sum_below-only (λ b. f b s.lane) s.block k,
      lanes-entries f ss k,
    )

pub entries-sum : (rows : List Row) (changed : List NodeId) (old new : List Block) (slots : List Slot) (i : ℕ) → i ≤ length slots → sum_below (size_in_world rows changed (milestones_in old slots) (milestones_in new slots)) i ≡ sum_by (λ s. size_of rows changed (ranks_at old s.block s.lane) (ranks_at new s.block s.lane)) (take i slots)
entries-sum rows changed old new slots zero le = refl
entries-sum rows changed old new slots (suc i) le =
    let none : NodeId = record { 0 = 0 } in
    let d : Slot = record { node = none; block = 0; lane = 0 } in
    let s : Slot = get_or slots i d in
    let at : (blocks : List Block) → ranks_of (slice_get (milestones_in blocks slots) i) ≡ ranks_at blocks s.block s.lane =
    λ blocks. ap (λ (o : Option Milestone). ranks_of o) (slice_get-get_or (milestones_in blocks slots) i (milestone_of blocks d) (omega (arith, length-map slots (milestone_of blocks))))
    ∙ ap (λ (m : Milestone). m.ranks) (get_or-map (milestone_of blocks) slots i d (milestone_of blocks d) (omega arith)) in
    let next : i + 1 ≡ suc i = omega arith in
    omega (
      arith,
      ap₂ (λ (a b : List ℕ). size_of rows changed a b) (at old) (at new),
      entries-sum rows changed old new slots i (omega arith),
      sum_by_more (λ (t : Slot). size_of rows changed (ranks_at old t.block t.lane) (ranks_at new t.block t.lane)) slots i d (omega arith),
      ap (λ j. sum_by (λ (t : Slot). size_of rows changed (ranks_at old t.block t.lane) (ranks_at new t.block t.lane)) (take j slots)) next,
    )

pub cond-more : (a b : Bool) (x : ℕ) → (a ≡ true → b ≡ true) → cond a x 0 ≤ cond b x 0
cond-more true true x h = omega arith
cond-more true false x h = absurd (false≢true (h refl))
cond-more false b x h = omega arith

pub block-size : (rows : List Row) (barred granted : List Bool) (changed : List NodeId) (old new : List Block) (slots : List Slot) → AreSlots (length rows) old slots → (b : ℕ) → b < length old → size_in_block rows barred granted changed old new b ≤ sum_below (λ l. cond (has_slot slots b l) (size_of rows changed (ranks_at old b l) (ranks_at new b l)) 0) 16
unfolding lane_sizes
block-size rows barred granted changed old new slots are b in_b =
    sum_below-le
    (λ l. cond (is_one (extra_at old b l)) (size_of rows changed (ranks_at old b l) (ranks_at new b l)) 0)
    (λ l. cond (has_slot slots b l) (size_of rows changed (ranks_at old b l) (ranks_at new b l)) 0)
    16
    (λ l in_l. cond-more (is_one (extra_at old b l)) (has_slot slots b l) (size_of rows changed (ranks_at old b l) (ranks_at new b l)) (are.owned b l in_b in_l))

pub sizes-fit : (rows : List Row) (barred granted : List Bool) (changed : List NodeId) (old new : List Block) (slots : List Slot) → AreSlots (length rows) old slots → sum_below (size_in_block rows barred granted changed old new) (length old) ≤ sum_below (size_in_world rows changed (milestones_in old slots) (milestones_in new slots)) (length (milestones_in old slots))
sizes-fit rows barred granted changed old new slots are =
    let g : Slot → ℕ = λ s. size_of rows changed (ranks_at old s.block s.lane) (ranks_at new s.block s.lane) in
    omega (
      arith,
      sum_below-le
          (size_in_block rows barred granted changed old new)
          (λ b. sum_below (λ l. cond (has_slot slots b l) (size_of rows changed (ranks_at old b l) (ranks_at new b l)) 0) 16)
          (length old)
          (block-size rows barred granted changed old new slots are),
      lanes-entries (λ b l. size_of rows changed (ranks_at old b l) (ranks_at new b l)) slots (length old),
      entries-sum rows changed old new slots (length slots) (omega arith),
      ap (λ (xs : List Slot). sum_by g xs) (take_all (length slots) slots (omega arith)),
      ap (λ k. sum_below (size_in_world rows changed (milestones_in old slots) (milestones_in new slots)) k) (length-map slots (milestone_of old)),
    )
