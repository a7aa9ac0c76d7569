-- Lists of nodes by number: the nodes of the things that are about each number.
use Rattle.std.specs.Prelude.{ℕ, ◌≡◌, ◌<◌, ◌≤◌, ◌==◌, Bool, List, [], ◌∷◌, ◌++◌, Vec, length, map, slice_index, slice_index_or, true}
use Rattle.std.specs.Global.{Global}
use Rattle.std.specs.List.{list_all, list_any}
use Rattle.std.specs.List.Sorted.{IsStrictlyIncreasing}
use Rattle.plan_base.specs.declared.ids.NodeId.{NodeId}
use Rattle.graph_store.specs.Members.{those}

-- what lists hold
abbrev pub contents : List (Vec NodeId Global) → List (List NodeId)
contents lists = map (λ list. list.items) lists

-- whether a number is among these
abbrev pub is_among : List ℕ → ℕ → Bool
is_among numbers k = list_any (λ j. j == k) numbers

-- the list of a number
abbrev pub list_at : List (Vec NodeId Global) → ℕ → List NodeId
list_at lists k = slice_index_or (contents lists) k []

-- each list has more at its end
pub record Extends (more : ℕ → List NodeId) (old new : List (Vec NodeId Global)) : Type 0 where
  pub as_long : length new ≡ length old
  pub each : (k : ℕ) → k < length old → list_at new k ≡ list_at old k ++ more k

-- there are so many lists, and each is this one
pub record AreLists (of : ℕ → List NodeId) (count : ℕ) (lists : List (Vec NodeId Global)) : Type 0 where
  pub as_long : length lists ≡ count
  pub each : (k : ℕ) → k < count → list_at lists k ≡ of k

-- each list is this one; there is none where there is no list
abbrev pub AreAllLists : (ℕ → List NodeId) → List (Vec NodeId Global) → Type 0
AreAllLists of lists = (k : ℕ) → list_at lists k ≡ of k

-- the nodes have these numbers, in order and each once
pub record HoldInOrder (numbers : List ℕ) (nodes : List NodeId) : Type 0 where
  pub rise : IsStrictlyIncreasing (map (λ n. n.0) nodes)
  pub same : (k : ℕ) → is_among (map (λ n. n.0) nodes) k ≡ is_among numbers k

-- the numbers of the nodes in the lists of some numbers
unfoldable pub numbers_at : List (Vec NodeId Global) → List ℕ → List ℕ
numbers_at lists [] = []
numbers_at lists (k ∷ ks) = map (λ n. n.0) (list_at lists k) ++ numbers_at lists ks

-- ---- what lists have in common
-- the numbers of the nodes rise
abbrev pub Rise : List NodeId → Type 0
Rise nodes = IsStrictlyIncreasing (map (λ n. n.0) nodes)

-- whether a number is that of a node in a list
abbrev pub has_node : List NodeId → ℕ → Bool
has_node nodes k = is_among (map (λ n. n.0) nodes) k

abbrev pub number_at : List NodeId → ℕ → ℕ
number_at nodes i = slice_index (map (λ n. n.0) nodes) i

-- the nodes before a place are below a number, and the others are not
pub record IsPlaceOf (number : ℕ) (nodes : List NodeId) (place : ℕ) : Type 0 where
  pub within : place ≤ length nodes
  pub below : (i : ℕ) → i < place → number_at nodes i < number
  pub from : (i : ℕ) → place ≤ i → i < length nodes → number ≤ number_at nodes i

-- whether a node is in the lists of all these numbers
abbrev pub is_in_all : List (Vec NodeId Global) → List ℕ → ℕ → Bool
is_in_all lists numbers k = list_all (λ j. has_node (list_at lists j) k) numbers

-- the nodes are those in the lists of all these numbers, in order
pub record AreCommon (lists : List (Vec NodeId Global)) (numbers : List ℕ) (nodes : List NodeId) : Type 0 where
  pub rise : Rise nodes
  pub same : (k : ℕ) → has_node nodes k ≡ is_in_all lists numbers k

-- There are so many lists, and each rises and holds the nodes, numbered from the first on, of all things that are about its
-- number. It may hold other nodes too; where the lists are said to be exact it holds none.
pub record HoldThose {A : Type 0} (exact : Bool) (about : A → ℕ → Bool) (first : ℕ) (things : List A) (count : ℕ) (lists : List (Vec NodeId Global)) : Type 0 where
  pub as_long : length lists ≡ count
  pub rise : (k : ℕ) → k < count → Rise (list_at lists k)
  pub all : (k n : ℕ) → k < count → has_node (those (λ thing. about thing k) first things) n ≡ true → has_node (list_at lists k) n ≡ true
  pub exactly : exact ≡ true → (k : ℕ) → k < count → list_at lists k ≡ those (λ thing. about thing k) first things

-- there are as many lists; what rose rises still, and what was in a list is there still
pub record Widen (old new : List (Vec NodeId Global)) : Type 0 where
  pub as_long : length new ≡ length old
  pub rise : (k : ℕ) → k < length old → Rise (list_at old k) → Rise (list_at new k)
  pub kept : (k n : ℕ) → has_node (list_at old k) n ≡ true → has_node (list_at new k) n ≡ true
