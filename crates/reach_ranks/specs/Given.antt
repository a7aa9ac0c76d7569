-- The rank that a node's row gives it, and the key of a node whose rank is another.
use Rattle.std.specs.Prelude.{ℕ, zero, suc, ◌+◌, ◌*◌, ◌<◌, ◌≤◌, ◌==◌, ◌≡◌, ◌^◌, ◌-◌, Bool, true, false, List, Option, None, Some, max, min, if◌then◌else◌, length, nat_le, nat_lt, slice_index, slice_index_or, sum_by, ◌||◌}
use Rattle.plan_base.specs.declared.NodeId.{NodeId}
use Rattle.graph_store.specs.declared.Row.{Row}
use Rattle.graph_store.specs.Rows.{user_count, has_node}
use Rattle.index_heap.specs.Keys.{key_at}
use Rattle.reach_ranks.specs.Rounds.{World, admits}
use Rattle.reach_ranks.specs.Ranks.{rank, is_one_to, within}

-- one more than the least number below m that passes the test; 0 where none does
unfoldable pub one_above_least : (ℕ → Bool) → ℕ → ℕ
one_above_least test zero = 0
one_above_least test (suc k) = if nat_lt 0 (one_above_least test k) then one_above_least test k else (if test k then suc k else 0)

-- the rank that its row and marks give the node by these ranks, where it is at most the limit, and else 0
unfoldable pub given : World → ℕ → List ℕ → ℕ → ℕ
given w limit ranks n = one_above_least (λ k. admits w (within ranks k) n) limit

-- the lesser of two ranks, where 0 is above all others
abbrev pub lesser : ℕ → ℕ → ℕ
lesser a b = if a == 0 then b else (if b == 0 then a else min a b)

-- a node whose kept rank is not the given one has the lesser of the two as its key
abbrev pub key_of : ℕ → ℕ → Option ℕ
key_of kept by_row = if kept == by_row then None else Some (lesser kept by_row)

-- the heap holds the nodes whose kept rank is not the given one, each under its key
pub record HoldsKeys (w : World) (limit : ℕ) (ranks : List ℕ) (heap : List (Option ℕ)) : Type 0 where
  pub ranks_long : length ranks ≡ length w.rows
  pub heap_long : length heap ≡ length w.rows
  pub small : (n : ℕ) → n < length w.rows → slice_index ranks n ≤ limit
  pub keys : (n : ℕ) → n < length w.rows → key_at heap n ≡ key_of (slice_index ranks n) (given w limit ranks n)

-- whether the first key is no later than the second, where no key is later than all others
abbrev pub is_by : Option ℕ → Option ℕ → Bool
is_by key None = true
is_by None (Some k) = false
is_by (Some j) (Some k) = nat_le j k

-- whether the two keys are one
abbrev pub is_same_key : Option ℕ → Option ℕ → Bool
is_same_key None None = true
is_same_key None (Some k) = false
is_same_key (Some j) None = false
is_same_key (Some j) (Some k) = j == k

-- each node whose kept rank is not the given one has a key, which may be earlier than the lesser of the two; others may have one too
pub record HoldsBounds (w : World) (limit : ℕ) (ranks : List ℕ) (heap : List (Option ℕ)) : Type 0 where
  pub ranks_long : length ranks ≡ length w.rows
  pub heap_long : length heap ≡ length w.rows
  pub small : (n : ℕ) → n < length w.rows → slice_index ranks n ≤ limit
  pub keys : (n : ℕ) → n < length w.rows → is_by (key_at heap n) (key_of (slice_index ranks n) (given w limit ranks n)) ≡ true

-- where a node gets its rank: a user that has no key and a rank of 1 to next keeps both, and any other has a key of next at most
abbrev pub key_when_comes : Option ℕ → ℕ → ℕ → Option ℕ
key_when_comes None rank next = if is_one_to next rank then None else Some next
key_when_comes (Some key) rank next = Some (min key next)

-- where a node loses its rank k: a user of a later rank has a key of that rank at most, and any other keeps its own
abbrev pub key_when_goes : Option ℕ → ℕ → ℕ → Option ℕ
key_when_goes None rank k = if nat_le rank k then None else Some rank
key_when_goes (Some key) rank k = if nat_le rank k then Some key else Some (min key rank)

-- the same for a user with a floor: it is not looked at before it, and not at all where that is 0
abbrev pub key_at_floor : Option ℕ → ℕ → ℕ → ℕ → Option ℕ
key_at_floor key rank next floor = if floor == 0 then key else key_when_comes key rank (max next floor)

-- the key of a user after a node got its rank k, or lost it
abbrev pub key_after : Bool → ℕ → ℕ → Option ℕ → ℕ → Option ℕ
key_after comes k floor key rank = if comes then key_at_floor key rank (min (k + 1) (2 ^ 32 - 1)) floor else key_when_goes key rank k

-- how often a node may still be taken out: not at all where its rank is right, once where it has none, else twice
abbrev pub visits_left : ℕ → ℕ → ℕ
visits_left kept right = if kept == right then 0 else (if kept == 0 then 1 else 2)

-- the sum over the numbers below m
abbrev pub sum_below : (ℕ → ℕ) → ℕ → ℕ
sum_below f zero = 0
sum_below f (suc n) = f n + sum_below f n

-- how many nodes have a key that isn't the right one
unfoldable pub early_keys : World → ℕ → List ℕ → List (Option ℕ) → ℕ
early_keys w limit ranks heap =
    sum_below (λ n. if is_same_key (key_at heap n) (key_of (slice_index ranks n) (given w limit ranks n)) then 0 else 1) (length w.rows)

-- the steps that are still to be taken: for each time that a node may be taken out, one for its row, one for its users and one for the row of each user
unfoldable pub work_left : World → List ℕ → ℕ
work_left w ranks =
    sum_below (λ n. visits_left (slice_index ranks n) (rank w n) * (2 + user_count w.rows n)) (length w.rows)

-- the steps that are still to be taken, where each key that isn't right takes one more
abbrev pub left_to_do : World → List ℕ → List (Option ℕ) → ℕ
left_to_do w ranks heap = work_left w ranks + early_keys w (2 ^ 32 - 1) ranks heap

-- each of the nodes has a key no later than it gets after a node got its rank k or lost it, and the other nodes keep theirs
pub record GivesKeys (comes : Bool) (k : ℕ) (floor ranks : List ℕ) (nodes : List NodeId) (old new : List (Option ℕ)) : Type 0 where
  pub as_long : length new ≡ length old
  pub at_nodes : (n : ℕ) → has_node nodes n ≡ true → is_by (key_at new n) (key_after comes k (slice_index_or floor n 1) (key_at old n) (slice_index ranks n)) ≡ true
  pub others : (n : ℕ) → has_node nodes n ≡ false → key_at new n ≡ key_at old n

-- the nodes have the keys that these ranks give them, and the other nodes keep theirs
pub record Refreshes (w : World) (limit : ℕ) (ranks : List ℕ) (nodes : List NodeId) (old new : List (Option ℕ)) : Type 0 where
  pub as_long : length new ≡ length old
  pub at_nodes : (n : ℕ) → n < length w.rows → has_node nodes n ≡ true → key_at new n ≡ key_of (slice_index ranks n) (given w limit ranks n)
  pub others : (n : ℕ) → has_node nodes n ≡ false → key_at new n ≡ key_at old n

-- what a node that was taken out gets: the key where that is another, and else none
abbrev pub next_kept : ℕ → ℕ → ℕ
next_kept kept key = if kept == key then 0 else key

-- what a change costs: for each entry of the list, and each other node whose rank is another, one and its users
abbrev pub size_of : List Row → List NodeId → List ℕ → List ℕ → ℕ
size_of rows changed before after =
    sum_by (λ node. 1 + user_count rows node.0) changed
    + sum_below (λ n. if has_node changed n || (slice_index before n == slice_index after n) then 0 else 1 + user_count rows n) (length rows)
