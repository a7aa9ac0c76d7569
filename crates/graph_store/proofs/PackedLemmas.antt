-- Rows as lists of numbers.
use Rattle.std.proofs.Common.{◌≡◌, ◌∙◌, ◌/◌, ◌≤◌, ◌++◌, ℕ, Bool, true, false, List, [], ◌∷◌, length, map, ap, sym, arith}
use Rattle.std.proofs.lemmas.List.{length-map, length-append}
use Rattle.plan_base.specs.declared.NodeId.{NodeId}
use Rattle.graph_store.specs.declared.Group.{Group}
use Rattle.graph_store.specs.Packed.{head_of, packed_groups}

half : (all : Bool) (count : ℕ) → head_of all count / 2 ≡ count
half true count = omega arith
half false count = omega arith

head-same : (a b : ℕ) (xs ys : List ℕ) → a ∷ xs ≡ b ∷ ys → a ≡ b
head-same a b xs ys e = cc

tail-same : (a b : ℕ) (xs ys : List ℕ) → a ∷ xs ≡ b ∷ ys → xs ≡ ys
tail-same a b xs ys e = cc

-- behind a head there are as many numbers as it says
pub enough-behind : (groups : List Group) (words behind : List ℕ) (head : ℕ) → words ≡ head ∷ behind → words ≡ packed_groups groups → head / 2 ≤ length behind
enough-behind [] words behind head are is = absurd (omega (arith, ap (λ (l : List ℕ). length l) (sym are ∙ is)))
enough-behind (group ∷ others) words behind head are is =
    let numbers : List ℕ = map (λ m. m.0) group.members ++ packed_groups others in
    let count : head / 2 ≡ length group.members =
    ap (λ n. n / 2) (head-same head (head_of group.all (length group.members)) behind numbers (sym are ∙ is)) ∙ half group.all (length group.members) in
    let rest : behind ≡ numbers = tail-same head (head_of group.all (length group.members)) behind numbers (sym are ∙ is) in
    omega (arith, count, ap (λ (l : List ℕ). length l) rest, length-append (map (λ m. m.0) group.members) (packed_groups others), length-map group.members (λ (m : NodeId). m.0))
