-- A milestone is added or dropped: slots and lanes follow.
use Rattle.std.specs.Prelude.{insert, remove}
use Rattle.std.proofs.Common.{◌≡◌, ℕ, zero, suc, ◌+◌, ◌<◌, ◌≤◌, ◌&&◌, Bool, true, false, eqb, List, [], ◌∷◌, ◌++◌, Option, Some, None, All, length, slice_get, get_or, map, take, drop, refl, sym, ◌∙◌, ap, ap₂, subst, arith, inl, inr}
use Rattle.std.proofs.lemmas.Bool.{cases_lt, cases_eq, cases_Bool, false≢true, eq-eqb, ne_eqb, and_parts}
use Rattle.std.proofs.lemmas.List.Elements.{All-head, All-tail}
use Rattle.std.proofs.lemmas.List.Edits.{length-insert, get_or-insert_at, get_or-insert_below, get_or-insert_above, length-remove, get_or-remove_below, get_or-remove_above}
use Rattle.std.proofs.lemmas.List.Folds.{list_any_at}
use Rattle.std.specs.List.{list_any}
use Rattle.plan_base.specs.declared.NodeId.{NodeId}
use Rattle.graph_store.proofs.TidyLemmas.{any-then}
use Rattle.graph_store.proofs.ReplaceLemmas.{get_or_inside}
use Rattle.reach_incremental.specs.Lanes.{is_one, lane, AreSmall}
use Rattle.milestone_masks.specs.declared.worlds.Milestone.{Milestone}
use Rattle.milestone_masks.specs.declared.slots.Slot.{Slot}
use Rattle.milestone_masks.specs.declared.blocks.Block.{Block}
use Rattle.milestone_masks.specs.Held.{rows_of, extras_of, ranks_at, extra_at, milestone_of, milestones_in, has_slot, AreSlots, Grows, Occupies}
use Rattle.milestone_masks.proofs.WorldLemmas.{map-insert, map-both, map-take, map-drop, All-insert}

abbrev pub with_ranks : NodeId → List ℕ → Milestone
with_ranks node ranks = record { node = node; ranks = ranks }

-- the milestones of slots whose ranks are as before

pub milestones-same : (old new : List Block) (slots : List Slot) → All (λ s. ranks_at new s.block s.lane ≡ ranks_at old s.block s.lane) slots → milestones_in new slots ≡ milestones_in old slots
milestones-same old new [] same = refl
milestones-same old new (s ∷ ss) same =
    let P : Slot → Type 0 = λ t. ranks_at new t.block t.lane ≡ ranks_at old t.block t.lane in
    ap₂
    (λ (m : Milestone) (ms : List Milestone). m ∷ ms)
    (ap (λ (ranks : List ℕ). with_ranks s.node ranks) (All-head P s ss same))
    (milestones-same old new ss (All-tail P s ss same))

pub none-some : {X : Type 0} (o : Option X) (x : X) → o ≡ None → o ≡ Some x → ⊥
none-some o x e f = cc

pub both-here : (a b c d : ℕ) → a ≡ b → c ≡ d → (eqb a b && eqb c d) ≡ true
both-here a b c d e f = ap₂ (λ x y. x && y) (eq-eqb a b e) (eq-eqb c d f)

pub both-tell : (a b c d : ℕ) → (eqb a b && eqb c d) ≡ true → (a ≡ b) × (c ≡ d)
both-tell a b c d h =
    elim (cases_eq a b) [
      | inl same ↦ elim (cases_eq c d) [
        | inl as_well ↦ (same, as_well)
        | inr other ↦ absurd (false≢true (sym (ne_eqb c d other) ∙ (and_parts (eqb a b) (eqb c d) h).1))
      ]
      | inr other ↦ absurd (false≢true (sym (ne_eqb a b other) ∙ (and_parts (eqb a b) (eqb c d) h).0))
    ]

-- more blocks

pub grown-extra : (nodes : ℕ) (old new : List Block) (b l : ℕ) → Grows nodes old new → b < length old → extra_at new b l ≡ extra_at old b l
grown-extra nodes old new b l g lt = ap (λ (o : Option Block). get_or (extras_of o) l None) (g.same b lt)

pub slots-grown : (nodes : ℕ) (old new : List Block) (slots : List Slot) → AreSlots nodes old slots → Grows nodes old new → AreSlots nodes new slots
slots-grown nodes old new slots are g = record {
  blocks_are = g.blocks_are;
  inside = λ i d lt. (omega (arith, (are.inside i d lt).0, g.longer), (are.inside i d lt).1);
  extras = λ i d lt. grown-extra nodes old new (get_or slots i d).block (get_or slots i d).lane g (are.inside i d lt).0 ∙ are.extras i d lt;
  owned = λ b l in_b in_l live. elim (cases_lt b (length old)) [
    | inl below ↦ are.owned b l below in_l (ap (λ (o : Option NodeId). is_one o) (sym (grown-extra nodes old new b l g below)) ∙ live)
    | inr past ↦ absurd (false≢true (ap (λ (o : Option NodeId). is_one o) (sym (g.idle b l past)) ∙ live))
  ];
}

pub milestones-grown : (nodes : ℕ) (old new : List Block) (slots : List Slot) → AreSlots nodes old slots → Grows nodes old new → milestones_in new slots ≡ milestones_in old slots
milestones-grown nodes old new slots are g =
    milestones-same old new slots (λ i d lt. ap (λ (o : Option Block). lane (get_or slots i d).lane (rows_of o)) (g.same (get_or slots i d).block (are.inside i d lt).0))

-- a slot more

pub differ-from : (blocks : List Block) (s : Slot) (b l : ℕ) → extra_at blocks s.block s.lane ≡ Some s.node → extra_at blocks b l ≡ None → s.block ≡ b → s.lane ≡ l → ⊥
differ-from blocks s b l some none e f =
    none-some (extra_at blocks b l) s.node none (ap₂ (λ c m. extra_at blocks c m) (sym e) (sym f) ∙ some)

pub any-insert : {X : Type 0} (p : X → Bool) (xs : List X) (i : ℕ) (x : X) → i ≤ length xs → list_any p xs ≡ true → list_any p (insert xs i x) ≡ true
any-insert {X} p xs i x le h =
    any-then p xs (list_any p (insert xs i x) ≡ true) h (λ j d lt holds.
    elim (cases_lt j i) [
      | inl lower ↦ list_any_at p (insert xs i x) j d (omega (arith, length-insert xs i x le)) (ap p (get_or-insert_below xs i x d j lower le) ∙ holds)
      | inr upper ↦ list_any_at p (insert xs i x) (j + 1) d (omega (arith, length-insert xs i x le)) (ap p (get_or-insert_above xs i x d j upper le) ∙ holds)
    ])

pub slots-inserted : (nodes : ℕ) (old new : List Block) (slots : List Slot) (order : ℕ) (s : Slot) (ranks : List ℕ) → AreSlots nodes old slots → order ≤ length slots → s.block < length old → s.lane < 16 → extra_at old s.block s.lane ≡ None → Occupies nodes s.block s.lane s.node ranks old new → AreSlots nodes new (insert slots order s)
slots-inserted nodes old new slots order s ranks are le in_block in_lane idle o = record {
  blocks_are = o.blocks_are;
  inside = All-insert (λ (t : Slot). (t.block < length new) × (t.lane < 16)) slots order s le (λ i d lt. (omega (arith, (are.inside i d lt).0, o.as_long), (are.inside i d lt).1)) (omega (arith, o.as_long), in_lane);
  extras = All-insert
      (λ (t : Slot). extra_at new t.block t.lane ≡ Some t.node)
      slots
      order
      s
      le
      (λ i d lt.
      let t : Slot = get_or slots i d in
      o.extra_others t.block t.lane (differ-from old t s.block s.lane (are.extras i d lt) idle) ∙ are.extras i d lt)
      o.extra_here;
  owned = λ b l in_b in_l live. elim (cases_Bool (eqb s.block b && eqb s.lane l)) [
    | inl here ↦ list_any_at (λ (t : Slot). eqb t.block b && eqb t.lane l) (insert slots order s) order s (omega (arith, length-insert slots order s le)) (ap (λ (t : Slot). eqb t.block b && eqb t.lane l) (get_or-insert_at slots order s s le) ∙ here)
    | inr other ↦
        let apart : b ≡ s.block → l ≡ s.lane → ⊥ = λ e f. false≢true (sym other ∙ both-here s.block b s.lane l (sym e) (sym f)) in
        any-insert
        (λ (t : Slot). eqb t.block b && eqb t.lane l)
        slots
        order
        s
        le
        (are.owned b l (omega (arith, o.as_long)) in_l (ap (λ (x : Option NodeId). is_one x) (sym (o.extra_others b l apart)) ∙ live))
  ];
}

pub milestones-inserted : (nodes : ℕ) (old new : List Block) (slots : List Slot) (order : ℕ) (s : Slot) (ranks : List ℕ) → AreSlots nodes old slots → extra_at old s.block s.lane ≡ None → Occupies nodes s.block s.lane s.node ranks old new → milestones_in new (insert slots order s) ≡ insert (milestones_in old slots) order (record { node = s.node; ranks = ranks })
milestones-inserted nodes old new slots order s ranks are idle o =
    map-insert (milestone_of new) slots order s
    ∙ ap₂
    (λ (ms : List Milestone) (m : Milestone). insert ms order m)
    (milestones-same old new slots (λ i d lt.
    let t : Slot = get_or slots i d in
    o.ranks_others t.block t.lane (differ-from old t s.block s.lane (are.extras i d lt) idle)))
    (ap (λ (rs : List ℕ). with_ranks s.node rs) o.ranks_here)

-- a slot less

pub All-remove : {X : Type 0} (P : X → Type 0) (xs : List X) (i : ℕ) → i < length xs → All P xs → All P (remove xs i)
All-remove {X} P xs i inside all k d lt =
    elim (cases_lt k i) [
      | inl lower ↦ subst P (sym (get_or-remove_below xs i d k lower inside)) (all k d (omega arith))
      | inr upper ↦ subst P (sym (get_or-remove_above xs i d k upper inside)) (all (k + 1) d (omega (arith, length-remove xs i inside)))
    ]

pub any-kept : {X : Type 0} (p : X → Bool) (xs : List X) (i j : ℕ) (d : X) → i < length xs → j < length xs → p (get_or xs i d) ≡ false → p (get_or xs j d) ≡ true → list_any p (remove xs i) ≡ true
any-kept {X} p xs i zero d inside lt not_here holds =
    elim (cases_lt zero i) [
      | inl lower ↦ list_any_at p (remove xs i) zero d (omega (arith, length-remove xs i inside)) (ap p (get_or-remove_below xs i d zero lower inside) ∙ holds)
      | inr upper ↦ let e : i ≡ zero = omega arith in absurd (false≢true (sym not_here ∙ (ap (λ k. p (get_or xs k d)) e ∙ holds)))
    ]
any-kept {X} p xs i (suc j) d inside lt not_here holds =
    elim (cases_lt (suc j) i) [
      | inl lower ↦ list_any_at p (remove xs i) (suc j) d (omega (arith, length-remove xs i inside)) (ap p (get_or-remove_below xs i d (suc j) lower inside) ∙ holds)
      | inr upper ↦ elim (cases_eq (suc j) i) [
        | inl same ↦ absurd (false≢true (sym not_here ∙ (ap (λ k. p (get_or xs k d)) (sym same) ∙ holds)))
        | inr other ↦
            let next : j + 1 ≡ suc j = omega arith in
            list_any_at p (remove xs i) j d (omega (arith, length-remove xs i inside)) (ap p (get_or-remove_above xs i d j (omega arith) inside ∙ ap (λ k. get_or xs k d) next) ∙ holds)
      ]
    ]

pub any-remove : {X : Type 0} (p : X → Bool) (xs : List X) (i : ℕ) (x : X) → i < length xs → x ≡ get_or xs i x → p x ≡ false → list_any p xs ≡ true → list_any p (remove xs i) ≡ true
any-remove {X} p xs i x inside is not_here h =
    any-then p xs (list_any p (remove xs i) ≡ true) h (λ j d lt holds.
    any-kept p xs i j d inside lt (ap p (get_or_inside xs i d x inside ∙ sym is) ∙ not_here) holds)

pub map-remove : {X Y : Type 0} (f : X → Y) (xs : List X) (i : ℕ) → map f (remove xs i) ≡ remove (map f xs) i
map-remove f xs i =
    map-both f (take i xs) (drop (suc i) xs) ∙ ap₂ (λ ys zs. ys ++ zs) (map-take f xs i) (map-drop f xs (suc i))

-- what is left where a lane is made idle that no slot is

pub record IsLeft (old new : List Block) (slots : List Slot) (block at : ℕ) : Type 0 where
  pub as_long : length new ≡ length old
  pub rows_same : (b : ℕ) → rows_of (slice_get new b) ≡ rows_of (slice_get old b)
  pub others : (b l : ℕ) → (b ≡ block → l ≡ at → ⊥) → extra_at new b l ≡ extra_at old b l
  pub kept : has_slot slots block at ≡ true → extra_at new block at ≡ extra_at old block at
  pub idle : has_slot slots block at ≡ false → extra_at new block at ≡ None

pub slots-removed : (nodes : ℕ) (old new : List Block) (slots : List Slot) (order : ℕ) (s : Slot) → AreSlots nodes old slots → order < length slots → s ≡ get_or slots order s → IsLeft old new (remove slots order) s.block s.lane → AreSlots nodes new (remove slots order)
slots-removed nodes old new slots order s are inside is left =
    let before = All-remove (λ (t : Slot). extra_at old t.block t.lane ≡ Some t.node) slots order inside are.extras in
    record {
      blocks_are = record {
        long = λ b lt. ap (λ (rs : List (List ℕ)). length rs) (left.rows_same b) ∙ are.blocks_are.long b (omega (arith, left.as_long));
        small = λ b lt. subst (λ (rs : List (List ℕ)). AreSmall rs) (sym (left.rows_same b)) (are.blocks_are.small b (omega (arith, left.as_long)));
      };
      inside = All-remove (λ (t : Slot). (t.block < length new) × (t.lane < 16)) slots order inside (λ i d lt. (omega (arith, (are.inside i d lt).0, left.as_long), (are.inside i d lt).1));
      extras = λ i d lt.
          let t : Slot = get_or (remove slots order) i d in
          elim (cases_Bool (eqb t.block s.block && eqb t.lane s.lane)) [
            | inl here ↦
                let same = both-tell t.block s.block t.lane s.lane here in
                let has : has_slot (remove slots order) s.block s.lane ≡ true = list_any_at (λ (u : Slot). eqb u.block s.block && eqb u.lane s.lane) (remove slots order) i d lt here in
                ap₂ (λ b l. extra_at new b l) same.0 same.1 ∙ (left.kept has ∙ (ap₂ (λ b l. extra_at old b l) (sym same.0) (sym same.1) ∙ before i d lt))
            | inr other ↦ left.others t.block t.lane (λ e f. false≢true (sym other ∙ both-here t.block s.block t.lane s.lane e f)) ∙ before i d lt
          ];
      owned = λ b l in_b in_l live. elim (cases_Bool (eqb s.block b && eqb s.lane l)) [
        | inl here ↦
            let same = both-tell s.block b s.lane l here in
            elim (cases_Bool (has_slot (remove slots order) s.block s.lane)) [
              | inl has ↦ ap₂ (λ c m. has_slot (remove slots order) c m) (sym same.0) (sym same.1) ∙ has
              | inr none ↦ absurd (false≢true (ap (λ (x : Option NodeId). is_one x) (sym (ap₂ (λ c m. extra_at new c m) (sym same.0) (sym same.1) ∙ left.idle none)) ∙ live))
            ]
        | inr other ↦ any-remove
            (λ (t : Slot). eqb t.block b && eqb t.lane l)
            slots
            order
            s
            inside
            is
            other
            (are.owned b l (omega (arith, left.as_long)) in_l (ap (λ (x : Option NodeId). is_one x) (sym (left.others b l (λ e f. false≢true (sym other ∙ both-here s.block b s.lane l (sym e) (sym f))))) ∙ live))
      ];
    }

pub milestones-removed : (old new : List Block) (slots : List Slot) (order : ℕ) (block at : ℕ) → IsLeft old new (remove slots order) block at → milestones_in new (remove slots order) ≡ remove (milestones_in old slots) order
milestones-removed old new slots order block at left =
    milestones-same old new (remove slots order) (λ i d lt. ap (λ (rs : List (List ℕ)). lane (get_or (remove slots order) i d).lane rs) (left.rows_same (get_or (remove slots order) i d).block))
    ∙ map-remove (milestone_of old) slots order
