-- The lanes of blocks, and the slots.
use Rattle.std.specs.Prelude.{map, position}
use Rattle.std.proofs.Common.{◌≡◌, ◌≢◌, ℕ, zero, suc, ◌+◌, ◌-◌, ◌^◌, ◌<◌, ◌≤◌, Bool, true, false, not, cond, eqb, ltb, List, [], ◌∷◌, ◌++◌, Option, Some, None, length, slice_get, get_or, refl, sym, ◌∙◌, ap, ap₂, subst, arith, inl, inr}
use Rattle.std.proofs.Math.ListN.{replicate, set, get_or-eq_default}
use Rattle.std.proofs.lemmas.Bool.{cases_lt, cases_eq}
use Rattle.std.proofs.lemmas.Option.{slice_get-get_or, slice_get_past}
use Rattle.std.proofs.lemmas.List.{length-set, get_or-set_same, get_or-set_other, set-get_or, get_or-replicate, length-map, ext_get_or}
use Rattle.std.specs.List.{prefix_len}
use Rattle.plan_base.specs.declared.NodeId.{NodeId}
use Rattle.reach_incremental.specs.Lanes.{lane, AreSmall}
use Rattle.reach_incremental.proofs.LaneLemmas.{lane-at, lane-long, lane-set}
use Rattle.milestone_masks.specs.declared.slots.Slot.{Slot}
use Rattle.milestone_masks.specs.declared.blocks.Block.{Block}
use Rattle.milestone_masks.specs.declared.worlds.Milestone.{Milestone}
use Rattle.std.specs.Bool.{OnTrue}
use Rattle.milestone_masks.specs.Held.{rows_of, extras_of, ranks_at, extra_at, milestone_of, milestones_in, AreBlocks, Grows, Occupies}

-- elements of lists

pub get-past : {X : Type 0} (xs : List X) (i : ℕ) → length xs ≤ i → slice_get xs i ≡ None
get-past xs i le = slice_get_past xs i le

pub get-set_same : {X : Type 0} (xs : List X) (i : ℕ) (y : X) → i < length xs → slice_get (set xs i y) i ≡ Some y
get-set_same {X} xs i y lt =
    slice_get-get_or (set xs i y) i y (omega (arith, length-set xs i y)) ∙ ap (λ (x : X). Some x) (get_or-set_same xs i y y lt)

pub get-set_other : {X : Type 0} (xs : List X) (i j : ℕ) (y : X) → j ≢ i → slice_get (set xs i y) j ≡ slice_get xs j
get-set_other {X} xs i j y ne =
    elim (cases_lt j (length xs)) [
      | inl lt ↦ slice_get-get_or (set xs i y) j y (omega (arith, length-set xs i y))
          ∙ (ap (λ (x : X). Some x) (get_or-set_other xs i j y y ne) ∙ sym (slice_get-get_or xs j y lt))
      | inr past ↦ slice_get_past (set xs i y) j (omega (arith, length-set xs i y)) ∙ sym (slice_get_past xs j past)
    ]

pub length-push : {X : Type 0} (xs : List X) (y : X) → length (xs ++ y ∷ []) ≡ length xs + 1
length-push [] y = refl
length-push (x ∷ xs) y = omega (arith, length-push xs y)

pub get_or-push_below : {X : Type 0} (xs : List X) (y d : X) (i : ℕ) → i < length xs → get_or (xs ++ y ∷ []) i d ≡ get_or xs i d
get_or-push_below [] y d i lt = absurd (omega arith)
get_or-push_below (x ∷ xs) y d zero lt = refl
get_or-push_below (x ∷ xs) y d (suc i) lt = get_or-push_below xs y d i (omega arith)

pub get_or-push_at : {X : Type 0} (xs : List X) (y d : X) → get_or (xs ++ y ∷ []) (length xs) d ≡ y
get_or-push_at [] y d = refl
get_or-push_at (x ∷ xs) y d = get_or-push_at xs y d

pub get-push_below : {X : Type 0} (xs : List X) (y : X) (i : ℕ) → i < length xs → slice_get (xs ++ y ∷ []) i ≡ slice_get xs i
get-push_below {X} xs y i lt =
    slice_get-get_or (xs ++ y ∷ []) i y (omega (arith, length-push xs y))
    ∙ (ap (λ (x : X). Some x) (get_or-push_below xs y y i lt) ∙ sym (slice_get-get_or xs i y lt))

pub get-push_at : {X : Type 0} (xs : List X) (y : X) (i : ℕ) → i ≡ length xs → slice_get (xs ++ y ∷ []) i ≡ Some y
get-push_at {X} xs y i e =
    slice_get-get_or (xs ++ y ∷ []) i y (omega (arith, length-push xs y))
    ∙ ap (λ (x : X). Some x) (ap (λ j. get_or (xs ++ y ∷ []) j y) e ∙ get_or-push_at xs y y)

-- one lane is written

pub record IsWritten (l n : ℕ) (from : List ℕ) (old to : List (List ℕ)) : Type 0 where
  pub as_long : length to ≡ length old
  pub done : (i : ℕ) → i < n → get_or (lane l to) i 0 ≡ get_or from i 0
  pub others : (m : ℕ) → (m ≡ l → ⊥) → lane m to ≡ lane m old
  pub small : AreSmall to

pub written-none : (l : ℕ) (from : List ℕ) (to : List (List ℕ)) → AreSmall to → IsWritten l 0 from to to
written-none l from to small = record { as_long = refl; done = λ i lt. absurd (omega arith); others = λ m ne. refl; small = small }

pub row-set : (to : List (List ℕ)) (n m : ℕ) (d row : List ℕ) → n < length to → get_or row m 0 ≡ get_or (get_or to n d) m 0 → lane m (set to n row) ≡ lane m to
row-set to n m d row lt e =
    lane-set to m n row ∙ (ap (λ y. set (lane m to) n y) (e ∙ sym (lane-at to n m d lt)) ∙ set-get_or (lane m to) n 0)

pub row-set_here : (to : List (List ℕ)) (n l x : ℕ) (row : List ℕ) → get_or row l 0 ≡ x → lane l (set to n row) ≡ set (lane l to) n x
row-set_here to n l x row e = lane-set to l n row ∙ ap (λ y. set (lane l to) n y) e

pub set-small : (xs : List ℕ) (n x i limit : ℕ) → n < length xs → x ≤ limit → get_or xs i 0 ≤ limit → get_or (set xs n x) i 0 ≤ limit
set-small xs n x i limit lt le was =
    elim (cases_eq i n) [
      | inl same ↦ subst (λ j. get_or (set xs n x) j 0 ≤ limit) (sym same) (omega (arith, get_or-set_same xs n x 0 lt))
      | inr other ↦ omega (arith, get_or-set_other xs n i x 0 other)
    ]

pub written-more : (l n x : ℕ) (d row : List ℕ) (from : List ℕ) (old to : List (List ℕ)) → n < length to → get_or row l 0 ≡ x → ((m : ℕ) → (m ≡ l → ⊥) → get_or row m 0 ≡ get_or (get_or to n d) m 0) → x ≡ get_or from n 0 → x ≤ 2 ^ 32 - 1 → IsWritten l n from old to → IsWritten l (n + 1) from old (set to n row)
written-more l n x d row from old to lt here elsewhere x_is le is =
    let in_lane : n < length (lane l to) = omega (arith, lane-long to l) in
    record {
      as_long = length-set to n row ∙ is.as_long;
      done = λ i below. ap (λ (xs : List ℕ). get_or xs i 0) (row-set_here to n l x row here)
          ∙ elim (cases_eq i n) [
            | inl same ↦ subst (λ j. get_or (set (lane l to) n x) j 0 ≡ get_or from j 0) (sym same) (get_or-set_same (lane l to) n x 0 in_lane ∙ x_is)
            | inr other ↦ get_or-set_other (lane l to) n i x 0 other ∙ is.done i (omega arith)
          ];
      others = λ m ne. row-set to n m d row lt (elsewhere m ne) ∙ is.others m ne;
      small = λ m i. elim (cases_eq m l) [
        | inl same ↦ subst
            (λ j. get_or (lane j (set to n row)) i 0 ≤ 2 ^ 32 - 1)
            (sym same)
            (subst (λ (xs : List ℕ). get_or xs i 0 ≤ 2 ^ 32 - 1) (sym (row-set_here to n l x row here)) (set-small (lane l to) n x i (2 ^ 32 - 1) in_lane le (is.small l i)))
        | inr other ↦ subst (λ (xs : List ℕ). get_or xs i 0 ≤ 2 ^ 32 - 1) (sym (row-set to n m d row lt (elsewhere m other))) (is.small m i)
      ];
    }

pub written-all : (l n : ℕ) (from : List ℕ) (old to : List (List ℕ)) → length to ≤ n → length old ≡ length from → IsWritten l n from old to → lane l to ≡ from
written-all l n from old to past long is =
    ext_get_or 0 (lane l to) from (lane-long to l ∙ (is.as_long ∙ long)) (λ i lt. is.done i (omega (arith, lane-long to l)))

-- no ranks

abbrev pub no_ranks : List ℕ
no_ranks = replicate 16 0

pub zero-row : (l : ℕ) → get_or no_ranks l 0 ≡ 0
zero-row l =
    elim (cases_lt l 16) [ inl inside ↦ get_or-replicate 16 l 0 0 inside | inr past ↦ get_or-eq_default no_ranks 0 past ]

pub small-none : AreSmall []
small-none l m = omega arith

pub small-more : (rows : List (List ℕ)) → AreSmall rows → AreSmall (rows ++ no_ranks ∷ [])
small-more rows small l m =
    let long : length (rows ++ no_ranks ∷ []) ≡ length rows + 1 = length-push rows no_ranks in
    elim (cases_lt m (length rows)) [
      | inl below ↦ omega (
        arith,
        lane-at (rows ++ no_ranks ∷ []) m l no_ranks (omega arith),
        ap (λ (r : List ℕ). get_or r l 0) (get_or-push_below rows no_ranks no_ranks m below),
        lane-at rows m l no_ranks below,
        small l m,
      )
      | inr over ↦ elim (cases_eq m (length rows)) [
        | inl at ↦ omega (
          arith,
          lane-at (rows ++ no_ranks ∷ []) m l no_ranks (omega arith),
          ap (λ (r : List ℕ). get_or r l 0) (ap (λ k. get_or (rows ++ no_ranks ∷ []) k no_ranks) at ∙ get_or-push_at rows no_ranks no_ranks),
          zero-row l,
        )
        | inr past ↦
            let none : get_or (lane l (rows ++ no_ranks ∷ [])) m 0 ≡ 0 = get_or-eq_default (lane l (rows ++ no_ranks ∷ [])) 0 (omega (arith, lane-long (rows ++ no_ranks ∷ []) l)) in
            omega arith
      ]
    ]

-- an idle lane

pub set-none : (xs : List (Option NodeId)) (l : ℕ) → get_or (set xs l None) l None ≡ None
set-none xs l =
    elim (cases_lt l (length xs)) [
      | inl inside ↦ get_or-set_same xs l None None inside
      | inr past ↦ get_or-eq_default (set xs l None) None (omega (arith, length-set xs l None))
    ]

pub left-idle : (blocks : List Block) (b l : ℕ) (after : Block) (extras : List (Option NodeId)) → b < length blocks → after.extras ≡ set extras l None → extra_at (set blocks b after) b l ≡ None
left-idle blocks b l after extras lt e =
    ap (λ (o : Option Block). get_or (extras_of o) l None) (get-set_same blocks b after lt) ∙ (ap (λ (xs : List (Option NodeId)). get_or xs l None) e ∙ set-none extras l)

-- more blocks

pub extra-past : (blocks : List Block) (b l : ℕ) → length blocks ≤ b → extra_at blocks b l ≡ None
extra-past blocks b l past = ap (λ (o : Option Block). get_or (extras_of o) l None) (slice_get_past blocks b past)

pub grows-none : (nodes : ℕ) (blocks : List Block) → AreBlocks nodes blocks → Grows nodes blocks blocks
grows-none nodes blocks are = record { longer = omega arith; same = λ b lt. refl; idle = extra-past blocks; blocks_are = are }

pub grows-pushed : (nodes : ℕ) (old new : List Block) (block : Block) → AreBlocks nodes old → length block.ranks.items ≡ nodes → AreSmall block.ranks.items → ((l : ℕ) → get_or block.extras l None ≡ None) → new ≡ old ++ block ∷ [] → Grows nodes old new
grows-pushed nodes old new block are long small idle e =
    let last : slice_get (old ++ block ∷ []) (length old) ≡ Some block = get-push_at old block (length old) refl in
    let grown : Grows nodes old (old ++ block ∷ []) = record {
      longer = omega (arith, length-push old block);
      same = λ b lt. get-push_below old block b lt;
      idle = λ b l le. elim (cases_eq b (length old)) [
        | inl same ↦ ap (λ (o : Option Block). get_or (extras_of o) l None) (get-push_at old block b same) ∙ idle l
        | inr other ↦ extra-past (old ++ block ∷ []) b l (omega (arith, length-push old block))
      ];
      blocks_are = record {
        long = λ b lt. elim (cases_lt b (length old)) [
          | inl below ↦ ap (λ (o : Option Block). length (rows_of o)) (get-push_below old block b below) ∙ are.long b below
          | inr at ↦ ap (λ (o : Option Block). length (rows_of o)) (get-push_at old block b (omega (arith, length-push old block))) ∙ long
        ];
        small = λ b lt. elim (cases_lt b (length old)) [
          | inl below ↦ subst (λ (o : Option Block). AreSmall (rows_of o)) (sym (get-push_below old block b below)) (are.small b below)
          | inr at ↦ subst (λ (o : Option Block). AreSmall (rows_of o)) (sym (get-push_at old block b (omega (arith, length-push old block)))) small
        ];
      };
    } in
    subst (λ (bs : List Block). Grows nodes old bs) (sym e) grown

pub pushed-idle : (old new : List Block) (block : Block) (b l : ℕ) → new ≡ old ++ block ∷ [] → b ≡ length old → ((m : ℕ) → get_or block.extras m None ≡ None) → extra_at new b l ≡ None
pushed-idle old new block b l e at idle =
    ap (λ (bs : List Block). extra_at bs b l) e ∙ (ap (λ (o : Option Block). get_or (extras_of o) l None) (get-push_at old block b at) ∙ idle l)

-- a lane is given to a milestone

pub occupied : (nodes b l : ℕ) (node : NodeId) (ranks : List ℕ) (old new : List Block) (before after : Block) → b < length old → slice_get old b ≡ Some before → new ≡ set old b after → AreBlocks nodes old → get_or after.extras l None ≡ Some node → ((m : ℕ) → (m ≡ l → ⊥) → get_or after.extras m None ≡ get_or before.extras m None) → lane l after.ranks.items ≡ ranks → ((m : ℕ) → (m ≡ l → ⊥) → lane m after.ranks.items ≡ lane m before.ranks.items) → length after.ranks.items ≡ nodes → AreSmall after.ranks.items → Occupies nodes b l node ranks old new
occupied nodes b l node ranks old new before after lt was e are extra_is extras_are here others long small =
    let at : slice_get new b ≡ Some after = ap (λ (bs : List Block). slice_get bs b) e ∙ get-set_same old b after lt in
    let elsewhere : (c : ℕ) → c ≢ b → slice_get new c ≡ slice_get old c = λ c ne. ap (λ (bs : List Block). slice_get bs c) e ∙ get-set_other old b c after ne in
    let long_new : length new ≡ length old = ap length e ∙ length-set old b after in
    record {
      as_long = long_new;
      extra_here = ap (λ (o : Option Block). get_or (extras_of o) l None) at ∙ extra_is;
      ranks_here = ap (λ (o : Option Block). lane l (rows_of o)) at ∙ here;
      extra_others = λ c m differ. elim (cases_eq c b) [
        | inl same ↦ subst
            (λ i. extra_at new i m ≡ extra_at old i m)
            (sym same)
            (ap (λ (o : Option Block). get_or (extras_of o) m None) at
            ∙ (extras_are m (differ same) ∙ sym (ap (λ (o : Option Block). get_or (extras_of o) m None) was)))
        | inr other ↦ ap (λ (o : Option Block). get_or (extras_of o) m None) (elsewhere c other)
      ];
      ranks_others = λ c m differ. elim (cases_eq c b) [
        | inl same ↦ subst
            (λ i. ranks_at new i m ≡ ranks_at old i m)
            (sym same)
            (ap (λ (o : Option Block). lane m (rows_of o)) at ∙ (others m (differ same) ∙ sym (ap (λ (o : Option Block). lane m (rows_of o)) was)))
        | inr other ↦ ap (λ (o : Option Block). lane m (rows_of o)) (elsewhere c other)
      ];
      blocks_are = record {
        long = λ c in_c. elim (cases_eq c b) [
          | inl same ↦ subst (λ i. length (rows_of (slice_get new i)) ≡ nodes) (sym same) (ap (λ (o : Option Block). length (rows_of o)) at ∙ long)
          | inr other ↦ ap (λ (o : Option Block). length (rows_of o)) (elsewhere c other) ∙ are.long c (omega arith)
        ];
        small = λ c in_c. elim (cases_eq c b) [
          | inl same ↦ subst (λ i. AreSmall (rows_of (slice_get new i))) (sym same) (subst (λ (o : Option Block). AreSmall (rows_of o)) (sym at) small)
          | inr other ↦ subst (λ (o : Option Block). AreSmall (rows_of o)) (sym (elsewhere c other)) (are.small c (omega arith))
        ];
      };
    }

-- the place of a milestone

pub prefix-same : (blocks : List Block) (slots : List Slot) (n : ℕ) → prefix_len (λ m. not (eqb m.node.0 n)) (milestones_in blocks slots) ≡ prefix_len (λ s. not (eqb s.node.0 n)) slots
prefix-same blocks [] n = refl
prefix-same blocks (s ∷ ss) n = ap (λ k. cond (not (eqb s.node.0 n)) (1 + k) 0) (prefix-same blocks ss n)

pub place-same : (blocks : List Block) (slots : List Slot) (n : ℕ) → position (λ m. eqb m.node.0 n) (milestones_in blocks slots) ≡ position (λ s. eqb s.node.0 n) slots
place-same blocks slots n =
    ap₂ (λ (k l : ℕ). cond (ltb k l) (Some k) None) (prefix-same blocks slots n) (length-map slots (milestone_of blocks))

-- slots of the same milestones

pub record HaveSameNodes (k : ℕ) (left right : List Slot) : Type 0 where
  pub as_long : length left ≡ length right
  pub each : (j : ℕ) → j < k → (s t : Slot) → (get_or left j s).node ≡ (get_or right j t).node

pub same-nodes : (left right : List Slot) (k : ℕ) → length left ≤ k → HaveSameNodes k left right → map (λ s. s.node) left ≡ map (λ s. s.node) right
same-nodes [] [] k le same = refl
same-nodes [] (t ∷ right) k le same = absurd (omega (arith, same.as_long))
same-nodes (s ∷ left) [] k le same = absurd (omega (arith, same.as_long))
same-nodes (s ∷ left) (t ∷ right) zero le same = absurd (omega (arith, le))
same-nodes (s ∷ left) (t ∷ right) (suc k) le same =
    ap₂ (λ (n : NodeId) ns. n ∷ ns) (same.each 0 (omega arith) s t)
    (same-nodes left right k (omega (arith, le)) (record { as_long = omega (arith, same.as_long); each = λ j lt. same.each (suc j) (omega (arith, lt)) }))

slot-nodes : (blocks : List Block) (slots : List Slot) → map (λ m. m.node) (milestones_in blocks slots) ≡ map (λ s. s.node) slots
slot-nodes blocks [] = refl
slot-nodes blocks (s ∷ slots) = ap (λ ns. s.node ∷ ns) (slot-nodes blocks slots)

pub same-held : (b : Bool) (lefts rights : List Block) (left_slots right_slots : List Slot) (left right : List Milestone) → milestones_in lefts left_slots ≡ left → milestones_in rights right_slots ≡ right
    → OnTrue b (map (λ s. s.node) left_slots ≡ map (λ s. s.node) right_slots) → OnTrue b (map (λ m. m.node) left ≡ map (λ m. m.node) right)
same-held false lefts rights left_slots right_slots left right e f same = tt
same-held true lefts rights left_slots right_slots left right e f same =
    ap (map (λ m. m.node)) (sym e)
    ∙ (slot-nodes lefts left_slots ∙ (same ∙ (sym (slot-nodes rights right_slots) ∙ ap (map (λ m. m.node)) f)))
