-- Taking users out, list by list.
use Rattle.std.proofs.Common.{◌≡◌, ◌≢◌, ◌&&◌, ◌⊎◌, not, Vec, ℕ, ◌+◌, ◌<◌, ◌≤◌, Bool, true, false, eqb, List, [], ◌∷◌, length, get_or, take, refl, sym, ◌∙◌, ap, subst, arith, inl, inr}
use Rattle.std.proofs.lemmas.Bool.{cases_eq, cases_Bool, eq-eqb, ne_eqb, eqb-true}
use Rattle.std.proofs.lemmas.List.{length-set}
use Rattle.std.proofs.lemmas.List.Folds.{list_any_at}
use Rattle.std.proofs.Math.ListN.{set}
use Rattle.std.specs.Global.{Global}
use Rattle.std.specs.List.{list_any}
use Rattle.plan_base.specs.declared.NodeId.{NodeId}
use Rattle.graph_store.specs.declared.Group.{Group}
use Rattle.graph_store.specs.declared.Row.{Row}
use Rattle.graph_store.specs.Rows.{has_node, has_member}
use Rattle.graph_store.specs.Users.{users_at}
use Rattle.graph_store.specs.Replace.{count_of, is_unmarked, pair_of, without, Drops}
use Rattle.graph_store.proofs.UsersLemmas.{users_at-inside}
use Rattle.graph_store.proofs.ReplaceLemmas.{count_of-cons, cond-zero, by_list, pair-other, there-more, group-none, pair-weaker}

-- a list without a user

pub without-same : (user : ℕ) (users : List NodeId) → count_of (without user users) user ≡ 0
without-same user [] = refl
without-same user (u ∷ us) =
    elim (cases_eq u.0 user) [
      | inl same ↦ rw (eq-eqb u.0 user same) (without-same user us)
      | inr other ↦ rw (ne_eqb u.0 user other) (omega (arith, count_of-cons u (without user us) user, cond-zero (eqb u.0 user) (ne_eqb u.0 user other), without-same user us))
    ]

pub without-other : (user other : ℕ) → other ≢ user → (users : List NodeId) → count_of (without user users) other ≡ count_of users other
without-other user other ne [] = refl
without-other user other ne (u ∷ us) =
    elim (cases_eq u.0 user) [
      | inl same ↦
          let isnt : u.0 ≢ other = λ e. ne (sym e ∙ same) in
          rw (eq-eqb u.0 user same) (omega (arith, count_of-cons u us other, cond-zero (eqb u.0 other) (ne_eqb u.0 other isnt), without-other user other ne us))
      | inr differs ↦ rw (ne_eqb u.0 user differs) (omega (arith, count_of-cons u us other, count_of-cons u (without user us) other, without-other user other ne us))
    ]

-- what is taken out in several steps

pub drops-trans : (extra : ℕ → ℕ → Bool) (a b c : List (Vec NodeId Global)) → Drops extra a b → Drops extra b c → Drops extra a c
drops-trans extra a b c p q = record {
  as_long = q.as_long ∙ p.as_long;
  others = λ u n h. q.others u n h ∙ p.others u n h;
  fewer = λ u n. omega (arith, p.fewer u n, q.fewer u n);
}

pub drops-wider : (first second : ℕ → ℕ → Bool) (a b : List (Vec NodeId Global)) → ((u n : ℕ) → second u n ≡ false → first u n ≡ false) → Drops first a b → Drops second a b
drops-wider first second a b le p = record { as_long = p.as_long; others = λ u n h. p.others u n (le u n h); fewer = p.fewer }

-- of a pair that isn't one of a user and an unmarked member: the node is marked, or the user is another

pub unmarked-other : (user u n : ℕ) (marks : List Bool) (wanted : ℕ → Bool) → pair_of user (is_unmarked marks wanted) u n ≡ false → wanted n ≡ true → (u ≢ user) ⊎ (get_or marks n false ≡ true)
unmarked-other user u n marks wanted h is =
    elim (cases_Bool (get_or marks n false)) [
      | inl marked ↦ inr marked
      | inr isnt ↦ inl (pair-other user u n (is_unmarked marks wanted) h (rw (is, isnt) refl))
    ]

pub drops-set : (user m : ℕ) (marks : List Bool) (wanted : ℕ → Bool) (users : List (Vec NodeId Global)) (v : Vec NodeId Global) → m < length users → wanted m ≡ true → ((u : ℕ) → u ≢ user → count_of v.items u ≡ count_of (users_at users m) u) → (get_or marks m false ≡ true → count_of v.items user ≡ count_of (users_at users m) user) → (get_or marks m false ≡ false → count_of v.items user ≡ 0) → Drops (pair_of user (is_unmarked marks wanted)) users (set users m v)
drops-set user m marks wanted users v lt is others kept gone = record {
  as_long = length-set users m v;
  others = λ u n h. by_list (λ (us : List NodeId). count_of us u ≡ count_of (users_at users n) u) users m n v lt (λ e. subst (λ (i : ℕ). count_of v.items u ≡ count_of (users_at users i) u) e (elim (cases_eq u user) [
    | inl same ↦ elim (unmarked-other user u m marks wanted (subst (λ (i : ℕ). pair_of user (is_unmarked marks wanted) u i ≡ false) (sym e) h) is) [
      | inl ne ↦ absurd (ne same)
      | inr marked ↦ subst (λ (i : ℕ). count_of v.items i ≡ count_of (users_at users m) i) (sym same) (kept marked)
    ]
    | inr other ↦ others u other
  ])) (λ _. refl);
  fewer = λ u n. by_list (λ (us : List NodeId). count_of us u ≤ count_of (users_at users n) u) users m n v lt (λ e. subst (λ (i : ℕ). count_of v.items u ≤ count_of (users_at users i) u) e (elim (cases_eq u user) [
    | inl same ↦ subst (λ (i : ℕ). count_of v.items i ≤ count_of (users_at users m) i) (sym same) (elim (cases_Bool (get_or marks m false)) [
      | inl marked ↦ omega (arith, kept marked)
      | inr isnt ↦ omega (arith, gone isnt)
    ])
    | inr other ↦ omega (arith, others u other)
  ])) (λ _. omega arith);
}

-- one member more

pub drops-member : (members : List NodeId) (i user : ℕ) (marks : List Bool) (old mid : List (Vec NodeId Global)) (m : NodeId) (d v : Vec NodeId Global) → i < length members → (get_or members i m).0 < length mid → Drops (pair_of user (is_unmarked marks (λ n. has_node members n))) old mid → ((u : ℕ) → u ≢ user → count_of v.items u ≡ count_of (get_or mid (get_or members i m).0 d).items u) → (get_or marks (get_or members i m).0 false ≡ true → count_of v.items user ≡ count_of (get_or mid (get_or members i m).0 d).items user) → (get_or marks (get_or members i m).0 false ≡ false → count_of v.items user ≡ 0) → Drops (pair_of user (is_unmarked marks (λ n. has_node members n))) old (set mid (get_or members i m).0 v)
drops-member members i user marks old mid m d v lt inside before others kept gone =
    let at : ℕ = (get_or members i m).0 in
    let list : users_at mid at ≡ (get_or mid at d).items = users_at-inside mid at d inside in
    drops-trans (pair_of user (is_unmarked marks (λ n. has_node members n))) old mid (set mid at v) before (drops-set
    user
    at
    marks
    (λ n. has_node members n)
    mid
    v
    inside
    (list_any_at (λ (x : NodeId). eqb x.0 at) members i m lt (eq-eqb at at refl))
    (λ u ne. subst (λ (us : List NodeId). count_of v.items u ≡ count_of us u) (sym list) (others u ne))
    (subst (λ (us : List NodeId). get_or marks at false ≡ true → count_of v.items user ≡ count_of us user) (sym list) kept)
    gone)

pub gone-member : (members : List NodeId) (i user : ℕ) (marks : List Bool) (mid : List (Vec NodeId Global)) (m : NodeId) (v : Vec NodeId Global) → i < length members → (get_or members i m).0 < length mid → (get_or marks (get_or members i m).0 false ≡ false → count_of v.items user ≡ 0) → ((n : ℕ) → has_node (take i members) n ≡ true → get_or marks n false ≡ false → count_of (users_at mid n) user ≡ 0) → (n : ℕ) → has_node (take (i + 1) members) n ≡ true → get_or marks n false ≡ false → count_of (users_at (set mid (get_or members i m).0 v) n) user ≡ 0
gone-member members i user marks mid m v lt inside gone before =
    let at : ℕ = (get_or members i m).0 in
    there-more
    (λ (x : NodeId) n. eqb x.0 n)
    members
    i
    m
    (λ n. get_or marks n false ≡ false → count_of (users_at mid n) user ≡ 0)
    (λ n. get_or marks n false ≡ false → count_of (users_at (set mid at v) n) user ≡ 0)
    lt
    (λ n held isnt. by_list (λ (us : List NodeId). count_of us user ≡ 0) mid at n v inside (λ e. gone (subst (λ (j : ℕ). get_or marks j false ≡ false) (sym e) isnt)) (λ _. held isnt))
    before
    (λ n is isnt. by_list (λ (us : List NodeId). count_of us user ≡ 0) mid at n v inside (λ e. gone (subst (λ (j : ℕ). get_or marks j false ≡ false) (sym e) isnt)) (λ ne. absurd (ne (eqb-true at n is))))

-- one group more

pub unmarked-weaker : (marks : List Bool) (n : ℕ) (a b : Bool) → (b ≡ false → a ≡ false) → (b && not (get_or marks n false)) ≡ false → (a && not (get_or marks n false)) ≡ false
unmarked-weaker marks n a true le h = elim (cases_Bool a) [
  | inl is ↦ rw is h
  | inr isnt ↦ rw isnt refl
]
unmarked-weaker marks n a false le h = rw (le refl) refl

pub drops-group : (row : Row) (groups : List Group) (i user : ℕ) (marks : List Bool) (group : Group) (members : List NodeId) (old mid new : List (Vec NodeId Global)) → groups ≡ row.groups → i < length groups → group ≡ get_or groups i group → members ≡ group.members → Drops (pair_of user (is_unmarked marks (λ n. has_member row n))) old mid → Drops (pair_of user (is_unmarked marks (λ n. has_node members n))) mid new → Drops (pair_of user (is_unmarked marks (λ n. has_member row n))) old new
drops-group row groups i user marks group members old mid new these lt at listed before here =
    drops-trans
    (pair_of user (is_unmarked marks (λ n. has_member row n)))
    old
    mid
    new
    before
    (drops-wider
    (pair_of user (is_unmarked marks (λ n. has_node members n)))
    (pair_of user (is_unmarked marks (λ n. has_member row n)))
    mid
    new
    (λ u n. pair-weaker user u n (is_unmarked marks (λ k. has_node members k) n) (is_unmarked marks (λ k. has_member row k) n) (unmarked-weaker marks n (has_node members n) (has_member row n) (group-none row groups i n group members these lt at listed)))
    here)

pub gone-group : (groups : List Group) (i user : ℕ) (marks : List Bool) (group : Group) (members : List NodeId) (mid new : List (Vec NodeId Global)) → i < length groups → group ≡ get_or groups i group → members ≡ group.members → ((u n : ℕ) → count_of (users_at new n) u ≤ count_of (users_at mid n) u) → ((n : ℕ) → list_any (λ g. has_node g.members n) (take i groups) ≡ true → get_or marks n false ≡ false → count_of (users_at mid n) user ≡ 0) → ((n : ℕ) → has_node members n ≡ true → get_or marks n false ≡ false → count_of (users_at new n) user ≡ 0) → (n : ℕ) → list_any (λ g. has_node g.members n) (take (i + 1) groups) ≡ true → get_or marks n false ≡ false → count_of (users_at new n) user ≡ 0
gone-group groups i user marks group members mid new lt at listed fewer before here =
    there-more
    (λ (g : Group) n. has_node g.members n)
    groups
    i
    group
    (λ n. get_or marks n false ≡ false → count_of (users_at mid n) user ≡ 0)
    (λ n. get_or marks n false ≡ false → count_of (users_at new n) user ≡ 0)
    lt
    (λ n held isnt. omega (arith, held isnt, fewer user n))
    before
    (λ n is. here n (ap (λ (ms : List NodeId). has_node ms n) (listed ∙ ap (λ (g : Group). g.members) at) ∙ is))
