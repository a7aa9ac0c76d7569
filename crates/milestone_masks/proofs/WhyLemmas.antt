-- The first member, and the nodes that were found.
use Rattle.std.proofs.Common.{◌≡◌, ◌||◌, ◌&&◌, ℕ, zero, suc, ◌+◌, ◌*◌, ◌%◌, ◌<◌, ◌≤◌, min, Bool, true, false, not, cond, eqb, ltb, List, [], ◌∷◌, ◌++◌, None, Some, All, length, get_or, take, refl, sym, ◌∙◌, ap, subst, arith, inl, inr, length-set, get_or-set_same, get_or-set_other}
use Rattle.std.proofs.Math.ListN.{set}
use Rattle.std.proofs.Math.Bool.{or-false, or-true}
use Rattle.std.proofs.lemmas.Bool.{cases_Bool, cases_eq, eq-eqb, ne_eqb, eqb-true, false≢true, and_parts}
use Rattle.std.proofs.lemmas.Bool.Decides.{nat_tests}
use Rattle.std.proofs.lemmas.List.{set-get_or, take_more}
use Rattle.std.proofs.lemmas.List.Elements.{All-push}
use Rattle.std.proofs.lemmas.List.Folds.{list_any-append, list_any_more}
use Rattle.std.proofs.lemmas.List.Sums.{sum_by_push}
use Rattle.std.specs.List.{list_all}
use Rattle.plan_base.specs.declared.NodeId.{NodeId}
use Rattle.graph_store.specs.Rows.{has_node}
use Rattle.graph_store.specs.Replace.{count_of}
use Rattle.graph_store.proofs.ReplaceLemmas.{cond-one, cond-zero, count-none}
use Rattle.graph_store.proofs.TidyLemmas.{any-then, length-from_counts, sum_to}
use Rattle.milestone_masks.specs.Worlds.{ranked}
use Rattle.milestone_masks.specs.Why.{comes_first, is_first_member}
use Rattle.milestone_masks.specs.Found.{no_turn, node_of, turn_of, AreSeen, IsFirstOf, IsLeastTurn}

-- one node more that was found

pub has_node-push : (nodes : List NodeId) (m : NodeId) (n : ℕ) → has_node (nodes ++ m ∷ []) n ≡ (has_node nodes n || eqb m.0 n)
has_node-push nodes m n =
    list_any-append (λ (x : NodeId). eqb x.0 n) nodes (m ∷ []) ∙ ap (λ b. has_node nodes n || b) (or-false (eqb m.0 n))

pub seen-push : (found : List NodeId) (seen : List Bool) (m : NodeId) → AreSeen found seen → m.0 < length seen → get_or seen m.0 false ≡ false → AreSeen (found ++ m ∷ []) (set seen m.0 true)
seen-push found seen m are inside isnt =
    let long : length (set seen m.0 true) ≡ length seen = length-set seen m.0 true in
    record {
      tells = λ n within. elim (cases_eq m.0 n) [
        | inl same ↦ subst (λ (k : ℕ). get_or (set seen m.0 true) k false ≡ has_node (found ++ m ∷ []) k) same (get_or-set_same seen m.0 true false inside ∙ sym (has_node-push found m m.0 ∙ (ap (λ b. has_node found m.0 || b) (eq-eqb m.0 m.0 refl) ∙ or-true (has_node found m.0))))
        | inr other ↦ get_or-set_other seen m.0 n true false (λ e. other (sym e))
            ∙ (are.tells n (omega arith) ∙ sym (has_node-push found m n ∙ (ap (λ b. has_node found n || b) (ne_eqb m.0 n other) ∙ or-false (has_node found n))))
      ];
      once = λ n.
          let more : count_of (found ++ m ∷ []) n ≡ count_of found n + cond {A = ℕ} (eqb m.0 n) 1 0 = sum_by_push (λ (x : NodeId). cond {A = ℕ} (eqb x.0 n) 1 0) found m in
          elim (cases_eq m.0 n) [
            | inl same ↦ omega (
              arith,
              more,
              cond-one (eqb m.0 n) (eq-eqb m.0 n same),
              count-none found n (subst (λ (k : ℕ). has_node found k ≡ false) same (sym (are.tells m.0 inside) ∙ isnt)),
            )
            | inr other ↦ omega (arith, more, cond-zero (eqb m.0 n) (ne_eqb m.0 n other), are.once n)
          ];
      below = All-push (λ (x : NodeId). x.0 < length (set seen m.0 true)) found m (λ k d lt. omega (arith, are.below k d lt)) (omega arith);
    }

-- a node that is added if it wasn't marked

pub seen-again : (found : List NodeId) (seen : List Bool) (m : NodeId) → AreSeen found seen → get_or seen m.0 false ≡ true → AreSeen found (set seen m.0 true)
seen-again found seen m are is = subst (λ (marks : List Bool). AreSeen found marks) (sym (ap (λ b. set seen m.0 b) (sym is) ∙ set-get_or seen m.0 false)) are

pub seen-noted : (found more : List NodeId) (seen : List Bool) (m : NodeId) → AreSeen found seen → m.0 < length seen → more ≡ cond (not (get_or seen m.0 false)) (found ++ m ∷ []) found → AreSeen more (set seen m.0 true)
seen-noted found more seen m are inside is = elim (cases_Bool (get_or seen m.0 false)) [
  | inl again ↦ subst (λ (nodes : List NodeId). AreSeen nodes (set seen m.0 true)) (sym (is ∙ ap (λ b. cond (not b) (found ++ m ∷ []) found) again)) (seen-again found seen m are again)
  | inr new ↦ subst (λ (nodes : List NodeId). AreSeen nodes (set seen m.0 true)) (sym (is ∙ ap (λ b. cond (not b) (found ++ m ∷ []) found) new)) (seen-push found seen m are inside new)
]

-- the order of nodes

pub first-one : (a b x y : ℕ) → (ltb x y || (eqb x y && ltb a b)) ≡ false → (ltb y x || (eqb y x && ltb b a)) ≡ false → a ≡ b
first-one a b x y p q = grind (arith, nat_tests)

pub first-below : (a b x y : ℕ) → a < 4294967296 → b < 4294967296 → (ltb x y || (eqb x y && ltb a b)) ≡ true → x * 4294967296 + a < y * 4294967296 + b
first-below a b x y p q h = elim (cases_Bool (ltb x y)) [
  | inl is ↦ let lt : x < y = grind (arith, nat_tests) in omega arith
  | inr isnt ↦ let both : (x ≡ y) × (a < b) = (grind (arith, nat_tests), grind (arith, nat_tests)) in omega (arith, both.0, both.1)
]

-- one member more

-- a number's remainder gives its node

pub remainder-of : (r m : ℕ) → m < 4294967296 → (r * 4294967296 + m) % 4294967296 ≡ m
remainder-of r m lt = omega arith

pub min-right : {next : ℕ} (a b : ℕ) → next ≡ min a b → ltb b a ≡ true → next ≡ b
min-right {next} a b is lt = let less : b < a = grind (arith, nat_tests) in omega (arith, is)

pub min-left : {next : ℕ} (a b : ℕ) → next ≡ min a b → ltb b a ≡ false → a ≡ next
min-left {next} a b is ge = let le : a ≤ b = grind (arith, nat_tests) in omega (arith, is)

pub All-more : {X : Type 0} (P : X → Type 0) (xs : List X) (i : ℕ) (d : X) → i < length xs → All P (take i xs) → P (get_or xs i d) → All P (take (i + 1) xs)
All-more {X} P xs i d lt all here =
    subst (λ (ys : List X). All P ys) (sym (take_more xs i d lt)) (All-push P (take i xs) (get_or xs i d) all here)

pub here-more : (members : List NodeId) (i : ℕ) (d : NodeId) → i < length members → has_node (take (i + 1) members) (get_or members i d).0 ≡ true
here-more members i d lt =
    let at : ℕ = (get_or members i d).0 in
    list_any_more (λ (m : NodeId). eqb m.0 at) members i d lt
    ∙ (ap (λ b. has_node (take i members) at || b) (eq-eqb at at refl) ∙ or-true (has_node (take i members) at))

pub second-no : (a b : Bool) → a ≡ true → (a && b) ≡ false → b ≡ false
second-no true b e h = h
second-no false b e h = absurd (false≢true e)

-- the least turn of the members so far

pub least-more : (ranks : List ℕ) (members : List NodeId) (i : ℕ) (d : NodeId) (turn next : ℕ) → i < length members → (get_or members i d).0 < length ranks → get_or ranks (get_or members i d).0 0 < 4294967296 → (get_or members i d).0 < 4294967296 → next ≡ min turn (turn_of ranks (get_or members i d).0) → IsLeastTurn turn ranks (take i members) → IsLeastTurn next ranks (take (i + 1) members)
least-more ranks members i d turn next lt inside rank node is so_far =
    let m : NodeId = get_or members i d in
    let own : ℕ = turn_of ranks m.0 in
    let back : own % 4294967296 ≡ m.0 = remainder-of ((get_or ranks m.0 0 + 4294967295) % 4294967296) m.0 node in
    let all = All-more (λ (x : NodeId). next ≤ turn_of ranks x.0) members i d lt (λ k e within. omega (arith, is, so_far.least k e within)) (omega (arith, is)) in
    let ranks_few = All-more (λ (x : NodeId). get_or ranks x.0 0 < 4294967296) members i d lt so_far.few rank in
    let nodes_small = All-more (λ (x : NodeId). x.0 < 4294967296) members i d lt so_far.small node in
    elim (cases_Bool (ltb own turn)) [
      | inl is_less ↦
          let same : next ≡ own = min-right turn own is is_less in
          let at : m.0 ≡ next % 4294967296 = sym (ap (λ (t : ℕ). t % 4294967296) same ∙ back) in
          record {
            least = all;
            few = ranks_few;
            small = nodes_small;
            member = λ _. subst (λ (n : ℕ). has_node (take (i + 1) members) n ≡ true) at (here-more members i d lt);
            own = λ _. subst (λ (n : ℕ). turn_of ranks n ≡ next) at (sym same);
            below = λ _. subst (λ (n : ℕ). n < length ranks) at inside;
          }
      | inr isnt ↦
          let same : turn ≡ next = min-left turn own is isnt in
          record {
            least = all;
            few = ranks_few;
            small = nodes_small;
            member = λ reached. subst (λ (t : ℕ). has_node (take (i + 1) members) (t % 4294967296) ≡ true) same (list_any_more (λ (x : NodeId). eqb x.0 (turn % 4294967296)) members i d lt ∙ rw (so_far.member (omega (arith, same))) refl);
            own = λ reached. subst (λ (t : ℕ). turn_of ranks (t % 4294967296) ≡ t) same (so_far.own (omega (arith, same)));
            below = λ reached. subst (λ (t : ℕ). t % 4294967296 < length ranks) same (so_far.below (omega (arith, same)));
          }
    ]

-- the best of some members: it has a rank, and none that has one comes before it
pub record IsBest (best : NodeId) (ranks : List ℕ) (members : List NodeId) : Type 0 where
  pub member : has_node members best.0 ≡ true
  pub reached : ranked ranks best.0 ≡ true
  pub first : All (λ m. (ranked ranks m.0 && comes_first ranks m.0 best.0) ≡ false) members

-- all members

pub list_all-true : {X : Type 0} (p : X → Bool) (xs : List X) → ((k : ℕ) (d : X) → k < length xs → p (get_or xs k d) ≡ true) → list_all p xs ≡ true
list_all-true p [] f = refl
list_all-true p (x ∷ xs) f = rw (f 0 x (omega arith)) (list_all-true p xs (λ k d lt. f (suc k) d (omega arith)))

pub list_all-at : {X : Type 0} (p : X → Bool) (xs : List X) (k : ℕ) (d : X) → list_all p xs ≡ true → k < length xs → p (get_or xs k d) ≡ true
list_all-at p [] k d h lt = absurd (omega arith)
list_all-at p (x ∷ xs) zero d h lt = (and_parts (p x) (list_all p xs) h).0
list_all-at p (x ∷ xs) (suc k) d h lt = list_all-at p xs k d (and_parts (p x) (list_all p xs) h).1 (omega arith)

pub first-none : (ranks : List ℕ) (members : List NodeId) → All (λ m. ranked ranks m.0 ≡ false) members → (n : ℕ) → is_first_member ranks members n ≡ false
first-none ranks members none n =
    elim (cases_Bool (is_first_member ranks members n)) [
      | inl is ↦
          let parts = and_parts (has_node members n) (ranked ranks n && list_all (λ (m : NodeId). not (ranked ranks m.0 && comes_first ranks m.0 n)) members) is in
          let rest = and_parts (ranked ranks n) (list_all (λ (m : NodeId). not (ranked ranks m.0 && comes_first ranks m.0 n)) members) parts.1 in
          any-then (λ (m : NodeId). eqb m.0 n) members (is_first_member ranks members n ≡ false) parts.0 (λ k d lt same.
          absurd (false≢true (sym (none k d lt) ∙ (ap (ranked ranks) (eqb-true (get_or members k d).0 n same) ∙ rest.0))))
      | inr isnt ↦ isnt
    ]

pub not-true_is : (b : Bool) → not b ≡ true → b ≡ false
not-true_is true h = absurd (false≢true h)
not-true_is false h = refl

pub first-some : (ranks : List ℕ) (members : List NodeId) (b : NodeId) → IsBest b ranks members → (n : ℕ) → is_first_member ranks members n ≡ eqb b.0 n
first-some ranks members b best n =
    elim (cases_eq b.0 n) [
      | inl same ↦
          subst
          (λ (k : ℕ). is_first_member ranks members k ≡ eqb b.0 k)
          same
          (rw (best.member, best.reached, list_all-true (λ (m : NodeId). not (ranked ranks m.0 && comes_first ranks m.0 b.0)) members (λ k d lt. rw (best.first k d lt) refl)) (sym (eq-eqb b.0 b.0 refl)))
      | inr other ↦ elim (cases_Bool (is_first_member ranks members n)) [
        | inl is ↦
            let parts = and_parts (has_node members n) (ranked ranks n && list_all (λ (m : NodeId). not (ranked ranks m.0 && comes_first ranks m.0 n)) members) is in
            let rest = and_parts (ranked ranks n) (list_all (λ (m : NodeId). not (ranked ranks m.0 && comes_first ranks m.0 n)) members) parts.1 in
            any-then (λ (m : NodeId). eqb m.0 b.0) members (is_first_member ranks members n ≡ eqb b.0 n) best.member (λ j e within at_b.
            any-then (λ (m : NodeId). eqb m.0 n) members (is_first_member ranks members n ≡ eqb b.0 n) parts.0 (λ k d lt at_n.
            let n_not_first : (ranked ranks n && comes_first ranks n b.0) ≡ false = subst (λ (x : ℕ). (ranked ranks x && comes_first ranks x b.0) ≡ false) (eqb-true (get_or members k d).0 n at_n) (best.first k d lt) in
            let b_not_first : (ranked ranks b.0 && comes_first ranks b.0 n) ≡ false = subst (λ (x : ℕ). (ranked ranks x && comes_first ranks x n) ≡ false) (eqb-true (get_or members j e).0 b.0 at_b) (not-true_is _ (list_all-at (λ (m : NodeId). not (ranked ranks m.0 && comes_first ranks m.0 n)) members j e rest.1 within)) in
            absurd (other (first-one b.0 n (get_or ranks b.0 0) (get_or ranks n 0) (second-no (ranked ranks b.0) (comes_first ranks b.0 n) best.reached b_not_first) (second-no (ranked ranks n) (comes_first ranks n b.0) rest.0 n_not_first)))))
        | inr isnt ↦ isnt ∙ sym (ne_eqb b.0 n other)
      ]
    ]

-- the turn past all others is that of a node without a rank, and the lesser of two turns comes first

pub rank-none : (r m turn : ℕ) → r < 4294967296 → m < 4294967296 → no_turn ≤ turn → turn ≤ (r + 4294967295) % 4294967296 * 4294967296 + m → ltb 0 r ≡ false
rank-none r m turn few small past le = let none : r ≡ 0 = omega arith in rw none refl

pub rank-some : (r m turn : ℕ) → r < 4294967296 → turn < no_turn → (r + 4294967295) % 4294967296 * 4294967296 + m ≡ turn → ltb 0 r ≡ true
rank-some r m turn few reached own = let some : 0 < r = omega arith in grind (arith, nat_tests)

pub turn-first : (r m q b turn : ℕ) → r < 4294967296 → m < 4294967296 → b < 4294967296 → (q + 4294967295) % 4294967296 * 4294967296 + b ≡ turn → turn ≤ (r + 4294967295) % 4294967296 * 4294967296 + m → q < 4294967296 → turn < no_turn → (ltb 0 r && (ltb r q || (eqb r q && ltb m b))) ≡ false
turn-first r m q b turn few small back own le q_few reached = elim (cases_Bool (ltb 0 r)) [
  | inl is ↦ elim (cases_Bool (ltb r q || (eqb r q && ltb m b))) [
    | inl first ↦
        let some : 0 < r = grind (arith, nat_tests) in
        let below : r * 4294967296 + m < q * 4294967296 + b = first-below m b r q small back first in
        let after : 0 < q = omega arith in
        let r_less : (r + 4294967295) % 4294967296 + 1 ≡ r = omega arith in
        let q_less : (q + 4294967295) % 4294967296 + 1 ≡ q = omega arith in
        absurd (omega arith)
    | inr isnt ↦ rw (is, isnt) refl
  ]
  | inr isnt ↦ rw isnt refl
]

pub first-of_least : (ranks : List ℕ) (members : List NodeId) (turn : ℕ) → IsLeastTurn turn ranks members → turn < no_turn → IsFirstOf (Some (node_of turn)) ranks members
first-of_least ranks members turn is reached =
    let at : ℕ = turn % 4294967296 in
    let small : at < 4294967296 = omega arith in
    let few : get_or ranks at 0 < 4294967296 = any-then (λ (m : NodeId). eqb m.0 at) members (get_or ranks at 0 < 4294967296) (is.member reached) (λ k d lt same. subst (λ (n : ℕ). get_or ranks n 0 < 4294967296) (eqb-true (get_or members k d).0 at same) (is.few k d lt)) in (
      is.below reached,
      first-some ranks members (node_of turn) record {
        member = is.member reached;
        reached = rank-some (get_or ranks at 0) at turn few reached (is.own reached);
        first = λ k d lt.
            let m : ℕ = (get_or members k d).0 in
            turn-first (get_or ranks m 0) m (get_or ranks at 0) at turn (is.few k d lt) (is.small k d lt) small (is.own reached) (is.least k d lt) few reached;
      },
    )

pub none-of_least : (ranks : List ℕ) (members : List NodeId) (turn : ℕ) → IsLeastTurn turn ranks members → no_turn ≤ turn → IsFirstOf None ranks members
none-of_least ranks members turn is past = first-none ranks members (λ k d lt. rank-none (get_or ranks (get_or members k d).0 0) (get_or members k d).0 turn (is.few k d lt) (is.small k d lt) past (is.least k d lt))

-- there are no more of them than nodes

pub sum_to-few : (f : ℕ → ℕ) (m : ℕ) → ((n : ℕ) → f n ≤ 1) → sum_to f m ≤ m
sum_to-few f zero few = omega arith
sum_to-few f (suc m) few = omega (arith, few m, sum_to-few f m few)

pub found-few : (found : List NodeId) (seen : List Bool) → AreSeen found seen → length found ≤ length seen
found-few found seen are =
    omega (arith, length-from_counts found (length seen) are.below, sum_to-few (count_of found) (length seen) are.once)
