-- Rows and ranks settled after a change.
use Rattle.std.proofs.Common.{◌≡◌, ◌≢◌, ◌∙◌, ℕ, ◌+◌, ◌*◌, ◌<◌, ◌≤◌, ◌||◌, zero, suc, Bool, false, true, List, [], ◌∷◌, Some, Result, Ok, Err, OnOk, length, map, get_or, refl, sym, ap, subst, arith, All}
use Rattle.std.specs.Prelude.{AllPairs, ◌==◌, slice_get, sum_by}
use Rattle.std.proofs.lemmas.List.{same_lists}
use Rattle.std.proofs.lemmas.List.Elements.{All-head, All-map, All-tail}
use Rattle.std.proofs.lemmas.List.Sums.{sum_by-cons}
use Rattle.std.proofs.lemmas.Option.{get_or_from_slice_get}
use Rattle.plan_base.specs.Shape.{node_count}
use Rattle.plan_base.specs.declared.ids.NodeId.{NodeId}
use Rattle.graph_store.specs.declared.Row.{Row}
use Rattle.graph_store.specs.Rows.{HasMembersBelow, has_node, user_count}
use Rattle.graph_store.specs.Replace.{AreForDifferentNodes, Replaces, has_change}
use Rattle.reach_ranks.specs.Given.{size_of}
use Rattle.game_types.specs.Nodes.{shape_of}
use Rattle.game_types.specs.declared.games.Game.{Game}
use Rattle.data_edit.specs.declared.books.Book.{Book}
use Rattle.data_edit.specs.Books.{IsSoundBook}
use Rattle.depend_rows.specs.Rows.{row_beside, row_of, rows_of}
use Rattle.depend_rows.proofs.Below.{length-rows_of, row_members_below}
use Rattle.milestone_masks.specs.Worlds.{Kept, size_of_all}
use Rattle.planning_state.specs.Books.{AreRowsBut}
use Rattle.planning_state.proofs.Kept.{row-at}

-- ---- what the replacement of rows asks
pub nodes-below : (book : Book) (nodes : List NodeId) (changes : List (NodeId × Row)) (count : ℕ) → count ≡ node_count (shape_of book.game) → changes ≡ map (row_beside book.game) nodes → All (λ (n : NodeId). n.0 < node_count (shape_of book.game)) nodes → All (λ (c : NodeId × Row). c.0.0 < count) changes
nodes-below book nodes changes count e f all =
    subst (All (λ (c : NodeId × Row). c.0.0 < count)) (sym f)
    (All-map (λ (c : NodeId × Row). c.0.0 < count) (row_beside book.game) nodes (subst (λ (k : ℕ). All (λ (n : NodeId). n.0 < k) nodes) (sym e) all))

length-of : {X Y : Type 0} (f : X → Y) (xs : List X) → length (map f xs) ≡ length xs
length-of f [] = refl
length-of f (x ∷ xs) = ap suc (length-of f xs)

at-map : {X Y : Type 0} (f : X → Y) (xs : List X) (i : ℕ) (d : Y) (e : X) → i < length xs → get_or (map f xs) i d ≡ f (get_or xs i e)
at-map f [] i d e inside = absurd (omega (arith, inside))
at-map f (x ∷ xs) zero d e inside = refl
at-map f (x ∷ xs) (suc i) d e inside = at-map f xs i d e (omega (arith, inside))

pub nodes-differ : (book : Book) (nodes : List NodeId) (changes : List (NodeId × Row)) → changes ≡ map (row_beside book.game) nodes → AllPairs (λ (m n : NodeId). m.0 ≢ n.0) nodes → AreForDifferentNodes changes
nodes-differ book nodes changes f once =
    subst AreForDifferentNodes (sym f)
    (λ i j d less inside.
    let within : j < length nodes = omega (arith, inside, length-of (row_beside book.game) nodes) in
    let before : i < length nodes = omega (arith, less, within) in
    let first : get_or (map (row_beside book.game) nodes) i d ≡ row_beside book.game (get_or nodes i d.0) = at-map (row_beside book.game) nodes i d d.0 before in
    let second : get_or (map (row_beside book.game) nodes) j d ≡ row_beside book.game (get_or nodes j d.0) = at-map (row_beside book.game) nodes j d d.0 within in
    λ same. once i j d.0 less within (sym (ap (λ (c : NodeId × Row). c.0.0) first) ∙ (same ∙ ap (λ (c : NodeId × Row). c.0.0) second)))

pub rows-below : (book : Book) (nodes : List NodeId) (changes : List (NodeId × Row)) (count : ℕ) → IsSoundBook book → count ≡ node_count (shape_of book.game) → changes ≡ map (row_beside book.game) nodes → All (λ (n : NodeId). n.0 < node_count (shape_of book.game)) nodes → All (λ (c : NodeId × Row). HasMembersBelow count c.1) changes
rows-below book nodes changes count sound e f all =
    subst (All (λ (c : NodeId × Row). HasMembersBelow count c.1)) (sym f)
    (All-map (λ (c : NodeId × Row). HasMembersBelow count c.1) (row_beside book.game) nodes
    (λ k d inside. subst (λ (m : ℕ). HasMembersBelow m (row_of book.game (get_or nodes k d).0)) (sym e)
    (row_members_below book.game sound.game (get_or nodes k d).0 (all k d inside) (row_of book.game (get_or nodes k d).0) refl)))

-- ---- the rows afterwards
same-change : (g : Game) (nodes : List NodeId) (n : ℕ) → has_change (map (row_beside g) nodes) n ≡ has_node nodes n
same-change g [] n = refl
same-change g (m ∷ nodes) n = ap (λ b. (m.0 == n) || b) (same-change g nodes n)

at-node : (g : Game) (rows : List Row) (nodes : List NodeId) (n : ℕ) → All (λ (m : NodeId). slice_get rows m.0 ≡ Some (row_of g m.0)) nodes → has_node nodes n ≡ true → slice_get rows n ≡ Some (row_of g n)
at-node g rows [] n all h = absurd cc
at-node g rows (m ∷ nodes) n all h = here (m.0 == n) refl (at-node g rows nodes n (All-tail (λ (m : NodeId). slice_get rows m.0 ≡ Some (row_of g m.0)) m nodes all)) (All-head (λ (m : NodeId). slice_get rows m.0 ≡ Some (row_of g m.0)) m nodes all) h
  where
    here : (b : Bool) → (m.0 == n) ≡ b → (has_node nodes n ≡ true → slice_get rows n ≡ Some (row_of g n)) → slice_get rows m.0 ≡ Some (row_of g m.0) → ((m.0 == n) || has_node nodes n) ≡ true → slice_get rows n ≡ Some (row_of g n)
    here true is later first h = let same : m.0 ≡ n = grind (arith, is) in subst (λ (k : ℕ). slice_get rows k ≡ Some (row_of g k)) same first
    here false is later first h = later (sym (ap (λ b. b || has_node nodes n) is) ∙ h)

puts-at : (g : Game) (rows : List Row) (nodes : List NodeId) → All (λ (c : NodeId × Row). slice_get rows c.0.0 ≡ Some c.1) (map (row_beside g) nodes) → All (λ (m : NodeId). slice_get rows m.0 ≡ Some (row_of g m.0)) nodes
puts-at g rows nodes all k d inside =
    subst (λ (c : NodeId × Row). slice_get rows c.0.0 ≡ Some c.1) (at-map (row_beside g) nodes k (row_beside g d) d inside)
    (all k (row_beside g d) (omega (arith, inside, length-of (row_beside g) nodes)))

pub rows-settled : (book : Book) (nodes : List NodeId) (changes : List (NodeId × Row)) (old new : List Row) → length old ≡ node_count (shape_of book.game) → changes ≡ map (row_beside book.game) nodes → AreRowsBut nodes book old → Replaces changes old new → new ≡ rows_of book.game
rows-settled book nodes changes old new long f but puts =
    same_lists new (rows_of book.game) (puts.as_long ∙ (long ∙ sym (length-rows_of book.game)))
    (λ k d inside.
    let within : k < node_count (shape_of book.game) = omega (arith, inside, puts.as_long, long) in
    get_or_from_slice_get new k (row_of book.game k) d (at k (omega (arith, inside, puts.as_long)))
    ∙ sym (get_or_from_slice_get (rows_of book.game) k (row_of book.game k) d (row-at book.game k within)))
  where
    put : All (λ (m : NodeId). slice_get new m.0 ≡ Some (row_of book.game m.0)) nodes
    put = puts-at book.game new nodes (subst (All (λ (c : NodeId × Row). slice_get new c.0.0 ≡ Some c.1)) f puts.put)

    at : (k : ℕ) → k < length old → slice_get new k ≡ Some (row_of book.game k)
    at k inside = chosen (has_node nodes k) refl
      where
        chosen : (b : Bool) → has_node nodes k ≡ b → slice_get new k ≡ Some (row_of book.game k)
        chosen true is = at-node book.game new nodes k put is
        chosen false is = puts.others k (ap (λ cs. has_change cs k) f ∙ (same-change book.game nodes k ∙ is)) ∙ but.others k inside is

pub rows-same : (book : Book) (nodes : List NodeId) (rows : List Row) → length nodes ≡ 0 → length rows ≡ node_count (shape_of book.game) → AreRowsBut nodes book rows → rows ≡ rows_of book.game
rows-same book [] rows none long but = rows-settled book [] [] rows rows long refl but (record { as_long = refl; put = λ k d inside. absurd (omega (arith, inside)); others = λ n outside. refl })
rows-same book (m ∷ nodes) rows none long but = absurd (omega (arith, none))

-- ---- what the nodes amount to
longest : (rows : List Row) (nodes : List NodeId) → length nodes ≤ sum_by (λ (node : NodeId). 1 + user_count rows node.0) nodes
longest rows [] = omega arith
longest rows (n ∷ nodes) = omega (arith, longest rows nodes, sum_by-cons (λ (node : NodeId). 1 + user_count rows node.0) n nodes)

pub length-size : (rows : List Row) (nodes : List NodeId) (before after : List ℕ) → length nodes ≤ size_of rows nodes before after
length-size rows nodes before after = omega (arith, longest rows nodes)

pub length-all : (rows : List Row) (nodes : List NodeId) (before after : Kept) → length nodes ≤ size_of_all rows nodes before after
length-all rows nodes before after = omega (arith, length-size rows nodes before.base after.base)

pub work-settled : {E : Type 0} (result : Result (Unit {0}) E) (rows : List Row) (others nodes own : List NodeId) (before after : Kept) (old new : ℕ) → nodes ≡ own → length others ≤ length nodes → OnOk result (new ≤ old + length others + 6 * size_of_all rows nodes before after) → OnOk result (new ≤ old + 8 * size_of_all rows own before after)
work-settled (Ok u) rows others nodes own before after old new e few h =
    let size : ℕ = size_of_all rows nodes before after in
    let same : size ≡ size_of_all rows own before after = ap (λ ns. size_of_all rows ns before after) e in
    more (length others) (length nodes) size (size_of_all rows own before after) same few (length-all rows nodes before after) h
  where
    more : (m l a b : ℕ) → a ≡ b → m ≤ l → l ≤ a → new ≤ old + m + 6 * a → new ≤ old + 8 * b
    more m l a b e f g h = omega (arith, e, f, g, h)
work-settled (Err fault) rows others nodes own before after old new e few h = tt
