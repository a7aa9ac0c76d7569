-- Adding and taking out users, list by list.
use Rattle.std.specs.Prelude.{◌==◌}
use Rattle.std.proofs.Common.{◌≡◌, ◌≢◌, ◌||◌, ◌&&◌, ◌⊎◌, Vec, ℕ, ◌+◌, ◌<◌, ◌≤◌, Bool, true, false, cond, eqb, List, [], ◌∷◌, ◌++◌, length, get_or, take, refl, sym, ◌∙◌, ap, subst, arith, inl, inr}
use Rattle.std.proofs.lemmas.Bool.{cases_lt, cases_eq, cases_Bool, eq-eqb, ne_eqb, eqb-true, false≢true, or_parts}
use Rattle.std.proofs.lemmas.List.{length-set, get_or-set_same, get_or-set_other}
use Rattle.std.proofs.lemmas.List.Sums.{sum_by-cons, sum_by_push}
use Rattle.std.proofs.lemmas.List.Folds.{list_any_more, list_any_at}
use Rattle.std.proofs.lemmas.Option.{get_or_from_slice_get, slice_get-get_or}
use Rattle.std.proofs.Math.ListN.{set}
use Rattle.std.specs.Global.{Global}
use Rattle.std.specs.List.{list_any}
use Rattle.plan_base.specs.declared.NodeId.{NodeId}
use Rattle.graph_store.specs.declared.Group.{Group}
use Rattle.graph_store.specs.declared.Row.{Row}
use Rattle.graph_store.specs.Rows.{has_node, has_member}
use Rattle.graph_store.specs.Users.{users_at}
use Rattle.graph_store.specs.Replace.{Change, count_of, is_changed_user, pair_of, Adds}
use Rattle.graph_store.proofs.UsersLemmas.{users_at-inside, users_at-past}

-- how often a node is there

pub count_of-cons : (x : NodeId) (xs : List NodeId) (u : ℕ) → count_of (x ∷ xs) u ≡ cond {A = ℕ} (eqb x.0 u) 1 0 + count_of xs u
count_of-cons x xs u = sum_by-cons (λ (m : NodeId). cond {A = ℕ} (eqb m.0 u) 1 0) x xs

pub cond-one : (b : Bool) → b ≡ true → cond {A = ℕ} b 1 0 ≡ 1
cond-one b e = rw e refl

pub cond-zero : (b : Bool) → b ≡ false → cond {A = ℕ} b 1 0 ≡ 0
cond-zero b e = rw e refl

pub count-some : (xs : List NodeId) (u : ℕ) → has_node xs u ≡ true → 0 < count_of xs u
count-some [] u h = absurd (false≢true h)
count-some (x ∷ xs) u h =
    elim (cases_eq x.0 u) [
      | inl same ↦ omega (arith, count_of-cons x xs u, cond-one (eqb x.0 u) (eq-eqb x.0 u same))
      | inr other ↦ omega (arith, count_of-cons x xs u, count-some xs u (rw (ne_eqb x.0 u other) at h))
    ]

pub count-none : (xs : List NodeId) (u : ℕ) → has_node xs u ≡ false → count_of xs u ≡ 0
count-none [] u h = refl
count-none (x ∷ xs) u h =
    let parts = or_parts (eqb x.0 u) (has_node xs u) h in
    omega (arith, count_of-cons x xs u, cond-zero (eqb x.0 u) parts.0, count-none xs u parts.1)

-- one list in the place of another

pub users_at-set_same : (users : List (Vec NodeId Global)) (m : ℕ) (v : Vec NodeId Global) → m < length users → users_at (set users m v) m ≡ v.items
users_at-set_same users m v lt =
    users_at-inside (set users m v) m v (omega (arith, length-set users m v))
    ∙ ap (λ (w : Vec NodeId Global). w.items) (get_or-set_same users m v v lt)

pub users_at-set_other : (users : List (Vec NodeId Global)) (m n : ℕ) (v : Vec NodeId Global) → n ≢ m → n < length users → users_at (set users m v) n ≡ users_at users n
users_at-set_other users m n v ne lt =
    users_at-inside (set users m v) n v (omega (arith, length-set users m v))
    ∙ (ap (λ (w : Vec NodeId Global). w.items) (get_or-set_other users m n v v ne) ∙ sym (users_at-inside users n v lt))

pub count-push_same : (xs : List NodeId) (u : NodeId) → count_of (xs ++ u ∷ []) u.0 ≡ count_of xs u.0 + 1
count-push_same xs u =
    sum_by_push (λ (m : NodeId). cond {A = ℕ} (eqb m.0 u.0) 1 0) xs u
    ∙ ap (λ (k : ℕ). count_of xs u.0 + k) (cond-one (eqb u.0 u.0) (eq-eqb u.0 u.0 refl))

-- what one step adds, and what several add

pub pair-other : (user u n : ℕ) (wanted : ℕ → Bool) → pair_of user wanted u n ≡ false → wanted n ≡ true → u ≢ user
pair-other user u n wanted h is e =
    false≢true (sym h ∙ rw (eq-eqb u user e) is)

pub adds-trans : (extra : ℕ → ℕ → Bool) (a b c : List (Vec NodeId Global)) → Adds extra a b → Adds extra b c → Adds extra a c
adds-trans extra a b c p q = record {
  as_long = q.as_long ∙ p.as_long;
  others = λ u n h. q.others u n h ∙ p.others u n h;
  kept = λ u n. omega (arith, p.kept u n, q.kept u n);
  once = λ u n h. q.once u n (p.once u n h);
}

pub adds-wider : (first second : ℕ → ℕ → Bool) (a b : List (Vec NodeId Global)) → ((u n : ℕ) → second u n ≡ false → first u n ≡ false) → Adds first a b → Adds second a b
adds-wider first second a b le p = record {
  as_long = p.as_long;
  others = λ u n h. p.others u n (le u n h);
  kept = p.kept;
  once = p.once;
}

-- a list that was put in the place of another, as a function of the list

pub by_list : (P : List NodeId → Type 0) (users : List (Vec NodeId Global)) (m n : ℕ) (v : Vec NodeId Global) → m < length users → (m ≡ n → P v.items) → (m ≢ n → P (users_at users n)) → P (users_at (set users m v) n)
by_list P users m n v lt here there =
    elim (cases_eq m n) [
      | inl same ↦ subst P (sym (ap (λ i. users_at (set users m v) i) (sym same) ∙ users_at-set_same users m v lt)) (here same)
      | inr other ↦ elim (cases_lt n (length users)) [
        | inl inside ↦ subst P (sym (users_at-set_other users m n v (λ e. other (sym e)) inside)) (there other)
        | inr past ↦ subst P (users_at-past users n past ∙ sym (users_at-past (set users m v) n (omega (arith, length-set users m v)))) (there other)
      ]
    ]

pub adds-set : (user m : ℕ) (wanted : ℕ → Bool) (users : List (Vec NodeId Global)) (v : Vec NodeId Global) → m < length users → wanted m ≡ true → ((u : ℕ) → u ≢ user → count_of v.items u ≡ count_of (users_at users m) u) → count_of (users_at users m) user ≤ count_of v.items user → (count_of (users_at users m) user ≤ 1 → count_of v.items user ≤ 1) → Adds (pair_of user wanted) users (set users m v)
adds-set user m wanted users v lt is others kept once = record {
  as_long = length-set users m v;
  others = λ u n h. by_list (λ (us : List NodeId). count_of us u ≡ count_of (users_at users n) u) users m n v lt (λ e. subst (λ (i : ℕ). count_of v.items u ≡ count_of (users_at users i) u) e (others u (pair-other user u m wanted (subst (λ (i : ℕ). pair_of user wanted u i ≡ false) (sym e) h) is))) (λ _. refl);
  kept = λ u n. by_list (λ (us : List NodeId). count_of (users_at users n) u ≤ count_of us u) users m n v lt (λ e. subst (λ (i : ℕ). count_of (users_at users i) u ≤ count_of v.items u) e (elim (cases_eq u user) [
    | inl same ↦ subst (λ (i : ℕ). count_of (users_at users m) i ≤ count_of v.items i) (sym same) kept
    | inr other ↦ omega (arith, others u other)
  ])) (λ _. omega arith);
  once = λ u n. by_list (λ (us : List NodeId). count_of (users_at users n) u ≤ 1 → count_of us u ≤ 1) users m n v lt (λ e. subst (λ (i : ℕ). count_of (users_at users i) u ≤ 1 → count_of v.items u ≤ 1) e (elim (cases_eq u user) [
    | inl same ↦ subst (λ (i : ℕ). count_of (users_at users m) i ≤ 1 → count_of v.items i ≤ 1) (sym same) once
    | inr other ↦ λ h. omega (arith, others u other)
  ])) (λ _ h. h);
}

pub or_true : (a b : Bool) → (a || b) ≡ true → (a ≡ true) ⊎ (b ≡ true)
or_true true b h = inl refl
or_true false b h = inr h

pub get_or_inside : {X : Type 0} (xs : List X) (i : ℕ) (d e : X) → i < length xs → get_or xs i d ≡ get_or xs i e
get_or_inside xs i d e lt = get_or_from_slice_get xs i (get_or xs i e) d (slice_get-get_or xs i e lt)

-- what holds of the nodes of the first entries, and of one entry more

pub there-more : {X : Type 0} (has : X → ℕ → Bool) (xs : List X) (i : ℕ) (d : X) (P Q : ℕ → Type 0) → i < length xs → ((n : ℕ) → P n → Q n) → ((n : ℕ) → list_any (λ x. has x n) (take i xs) ≡ true → P n) → ((n : ℕ) → has (get_or xs i d) n ≡ true → Q n) → (n : ℕ) → list_any (λ x. has x n) (take (i + 1) xs) ≡ true → Q n
there-more {X} has xs i d P Q lt more before here n h =
    elim (or_true (list_any (λ (x : X). has x n) (take i xs)) (has (get_or xs i d) n) (sym (list_any_more (λ (x : X). has x n) xs i d lt) ∙ h)) [
      | inl old ↦ more n (before n old)
      | inr new ↦ here n new
    ]

-- of an entry and of the list

pub any-at : {X : Type 0} (p : X → Bool) (xs : List X) (i : ℕ) (d : X) → i < length xs → list_any p xs ≡ false → p (get_or xs i d) ≡ false
any-at p xs i d lt h =
    elim (cases_Bool (p (get_or xs i d))) [
      | inl is ↦ absurd (false≢true (sym h ∙ list_any_at p xs i d lt is))
      | inr isnt ↦ isnt
    ]

-- one member more

pub adds-member : (members : List NodeId) (i user : ℕ) (old mid : List (Vec NodeId Global)) (m : NodeId) (d v : Vec NodeId Global) → i < length members → (get_or members i m).0 < length mid → Adds (pair_of user (λ n. has_node members n)) old mid → ((u : ℕ) → u ≢ user → count_of v.items u ≡ count_of (get_or mid (get_or members i m).0 d).items u) → count_of (get_or mid (get_or members i m).0 d).items user ≤ count_of v.items user → (count_of (get_or mid (get_or members i m).0 d).items user ≤ 1 → count_of v.items user ≤ 1) → Adds (pair_of user (λ n. has_node members n)) old (set mid (get_or members i m).0 v)
adds-member members i user old mid m d v lt inside before others kept once =
    let at : ℕ = (get_or members i m).0 in
    let list : users_at mid at ≡ (get_or mid at d).items = users_at-inside mid at d inside in
    adds-trans (pair_of user (λ n. has_node members n)) old mid (set mid at v) before (adds-set
    user
    at
    (λ n. has_node members n)
    mid
    v
    inside
    (list_any_at (λ (x : NodeId). eqb x.0 at) members i m lt (eq-eqb at at refl))
    (λ u ne. subst (λ (us : List NodeId). count_of v.items u ≡ count_of us u) (sym list) (others u ne))
    (subst (λ (us : List NodeId). count_of us user ≤ count_of v.items user) (sym list) kept)
    (subst (λ (us : List NodeId). count_of us user ≤ 1 → count_of v.items user ≤ 1) (sym list) once))

pub there-member : (members : List NodeId) (i user : ℕ) (mid : List (Vec NodeId Global)) (m : NodeId) (v : Vec NodeId Global) → i < length members → (get_or members i m).0 < length mid → 0 < count_of v.items user → ((n : ℕ) → has_node (take i members) n ≡ true → 0 < count_of (users_at mid n) user) → (n : ℕ) → has_node (take (i + 1) members) n ≡ true → 0 < count_of (users_at (set mid (get_or members i m).0 v) n) user
there-member members i user mid m v lt inside there before =
    let at : ℕ = (get_or members i m).0 in
    there-more
    (λ (x : NodeId) n. eqb x.0 n)
    members
    i
    m
    (λ n. 0 < count_of (users_at mid n) user)
    (λ n. 0 < count_of (users_at (set mid at v) n) user)
    lt
    (λ n held. by_list (λ (us : List NodeId). 0 < count_of us user) mid at n v inside (λ _. there) (λ _. held))
    before
    (λ n is. by_list (λ (us : List NodeId). 0 < count_of us user) mid at n v inside (λ _. there) (λ ne. absurd (ne (eqb-true at n is))))

-- one group more

pub pair-weaker : (user u n : ℕ) (a b : Bool) → (b ≡ false → a ≡ false) → ((u == user) && b) ≡ false → ((u == user) && a) ≡ false
pair-weaker user u n a b le h =
    elim (cases_eq u user) [
      | inl same ↦ rw (eq-eqb u user same) (le (rw (eq-eqb u user same) at h))
      | inr other ↦ rw (ne_eqb u user other) refl
    ]

pub group-none : (row : Row) (groups : List Group) (i n : ℕ) (group : Group) (members : List NodeId) → groups ≡ row.groups → i < length groups → group ≡ get_or groups i group → members ≡ group.members → has_member row n ≡ false → has_node members n ≡ false
group-none row groups i n group members these lt at listed h =
    ap (λ (ms : List NodeId). has_node ms n) (listed ∙ ap (λ (g : Group). g.members) at)
    ∙ any-at (λ (g : Group). has_node g.members n) groups i group lt (ap (λ (gs : List Group). list_any (λ (g : Group). has_node g.members n) gs) these ∙ h)

pub adds-group : (row : Row) (groups : List Group) (i user : ℕ) (group : Group) (members : List NodeId) (old mid new : List (Vec NodeId Global)) → groups ≡ row.groups → i < length groups → group ≡ get_or groups i group → members ≡ group.members → Adds (pair_of user (λ n. has_member row n)) old mid → Adds (pair_of user (λ n. has_node members n)) mid new → Adds (pair_of user (λ n. has_member row n)) old new
adds-group row groups i user group members old mid new these lt at listed before here =
    adds-trans
    (pair_of user (λ n. has_member row n))
    old
    mid
    new
    before
    (adds-wider
    (pair_of user (λ n. has_node members n))
    (pair_of user (λ n. has_member row n))
    mid
    new
    (λ u n. pair-weaker user u n (has_node members n) (has_member row n) (group-none row groups i n group members these lt at listed))
    here)

pub there-group : (groups : List Group) (i user : ℕ) (group : Group) (members : List NodeId) (mid new : List (Vec NodeId Global)) → i < length groups → group ≡ get_or groups i group → members ≡ group.members → ((u n : ℕ) → count_of (users_at mid n) u ≤ count_of (users_at new n) u) → ((n : ℕ) → list_any (λ g. has_node g.members n) (take i groups) ≡ true → 0 < count_of (users_at mid n) user) → ((n : ℕ) → has_node members n ≡ true → 0 < count_of (users_at new n) user) → (n : ℕ) → list_any (λ g. has_node g.members n) (take (i + 1) groups) ≡ true → 0 < count_of (users_at new n) user
there-group groups i user group members mid new lt at listed kept before here =
    there-more
    (λ (g : Group) n. has_node g.members n)
    groups
    i
    group
    (λ n. 0 < count_of (users_at mid n) user)
    (λ n. 0 < count_of (users_at new n) user)
    lt
    (λ n held. omega (arith, kept user n))
    before
    (λ n is. here n (ap (λ (ms : List NodeId). has_node ms n) (listed ∙ ap (λ (g : Group). g.members) at) ∙ is))

-- one change more

pub change-none : (changes : List Change) (i u n : ℕ) (change : Change) → i < length changes → change ≡ get_or changes i change → is_changed_user changes u n ≡ false → pair_of change.0.0 (λ m. has_member change.1 m) u n ≡ false
change-none changes i u n change lt at h =
    elim (cases_eq u change.0.0) [
      | inl same ↦
          let here : (eqb change.0.0 u && has_member change.1 n) ≡ false = ap (λ (d : Change). eqb d.0.0 u && has_member d.1 n) at ∙ any-at (λ (d : Change). eqb d.0.0 u && has_member d.1 n) changes i change lt h in
          rw (eq-eqb u change.0.0 same) (rw (eq-eqb change.0.0 u (sym same)) at here)
      | inr other ↦ rw (ne_eqb u change.0.0 other) refl
    ]

pub adds-change : (changes : List Change) (i : ℕ) (change : Change) (old mid new : List (Vec NodeId Global)) → i < length changes → change ≡ get_or changes i change → Adds (is_changed_user changes) old mid → Adds (pair_of change.0.0 (λ n. has_member change.1 n)) mid new → Adds (is_changed_user changes) old new
adds-change changes i change old mid new lt at before here =
    adds-trans
    (is_changed_user changes)
    old
    mid
    new
    before
    (adds-wider
    (pair_of change.0.0 (λ n. has_member change.1 n))
    (is_changed_user changes)
    mid
    new
    (λ u n. change-none changes i u n change lt at)
    here)

pub there-change : (changes : List Change) (i : ℕ) (change : Change) (mid new : List (Vec NodeId Global)) → i < length changes → change ≡ get_or changes i change → ((u n : ℕ) → count_of (users_at mid n) u ≤ count_of (users_at new n) u) → ((k : ℕ) (d : Change) → k < i → (n : ℕ) → has_member (get_or changes k d).1 n ≡ true → 0 < count_of (users_at mid n) (get_or changes k d).0.0) → ((n : ℕ) → has_member change.1 n ≡ true → 0 < count_of (users_at new n) change.0.0) → (k : ℕ) (d : Change) → k < i + 1 → (n : ℕ) → has_member (get_or changes k d).1 n ≡ true → 0 < count_of (users_at new n) (get_or changes k d).0.0
there-change changes i change mid new lt at kept before here k d below n is =
    elim (cases_lt k i) [
      | inl lower ↦ omega (arith, before k d lower n is, kept (get_or changes k d).0.0 n)
      | inr upper ↦
          let e : k ≡ i = omega arith in
          let same : get_or changes k d ≡ change = ap (λ j. get_or changes j d) e ∙ (get_or_inside changes i d change lt ∙ sym at) in
          subst (λ (x : Change). 0 < count_of (users_at new n) x.0.0) (sym same) (here n (subst (λ (x : Change). has_member x.1 n ≡ true) same is))
    ]
