-- The masks, milestone by milestone, and milestones by their places.
use Rattle.std.specs.Prelude.{option_map, remove}
use Rattle.std.proofs.Common.{◌≡◌, ℕ, ◌+◌, ◌<◌, Bool, true, false, not, cond, eqb, List, [], ◌∷◌, ◌++◌, Option, Some, None, All, length, slice_get, get_or, map, take, refl, sym, ◌∙◌, ap, ap₂, subst, arith}
use Rattle.std.proofs.lemmas.Option.{slice_get-get_or, slice_get-map}
use Rattle.std.proofs.lemmas.List.Edits.{length-remove}
use Rattle.std.proofs.lemmas.List.Elements.{filter_more}
use Rattle.std.proofs.lemmas.List.Quantifiers.{position-Some}
use Rattle.std.specs.List.{filter}
use Rattle.plan_base.specs.declared.NodeId.{NodeId}
use Rattle.milestone_masks.specs.declared.worlds.Milestone.{Milestone}
use Rattle.milestone_masks.specs.Worlds.{place_of, ranked}
use Rattle.milestone_masks.specs.Kept.{IsKept}
use Rattle.milestone_masks.proofs.WorldLemmas.{map-both}
use Rattle.milestone_masks.proofs.OwnedLemmas.{All-remove}

abbrev pub nobody : Milestone
nobody = let none : NodeId = record { 0 = 0 } in record { node = none; ranks = [] }

pub node-at : (items : List Milestone) (k : ℕ) (node : NodeId) → k < length items → ((m : Milestone) → slice_get items k ≡ Some m → node ≡ m.node) → slice_get (map (λ m. m.node) items) k ≡ Some node
node-at items k node lt is =
    let at : slice_get items k ≡ Some (get_or items k nobody) = slice_get-get_or items k nobody lt in
    slice_get-map (λ (m : Milestone). m.node) items k
    ∙ (ap (λ (o : Option Milestone). option_map (λ m. m.node) o) at ∙ ap (λ (n : NodeId). Some n) (sym (is (get_or items k nobody) at)))

pub one-node : (r : Bool) (m : Milestone) → map (λ (x : Milestone). x.node) (cond (not r) (m ∷ []) []) ≡ cond r [] (m.node ∷ [])
one-node true m = refl
one-node false m = refl

pub mask-more : (items : List Milestone) (n k : ℕ) (nodes new : List NodeId) → k < length items → nodes ≡ map (λ m. m.node) (filter (λ m. not (ranked m.ranks n)) (take k items)) → ((m : Milestone) → slice_get items k ≡ Some m → new ≡ nodes ++ cond (ranked m.ranks n) [] (m.node ∷ [])) → new ≡ map (λ m. m.node) (filter (λ m. not (ranked m.ranks n)) (take (k + 1) items))
mask-more items n k nodes new lt so_far next =
    let f : Milestone → NodeId = λ m. m.node in
    let p : Milestone → Bool = λ m. not (ranked m.ranks n) in
    let m : Milestone = get_or items k nobody in
    next m (slice_get-get_or items k nobody lt)
    ∙ (ap₂ (λ (xs ys : List NodeId). xs ++ ys) so_far (sym (one-node (ranked m.ranks n) m))
    ∙ (sym (map-both f (filter p (take k items)) (cond (not (ranked m.ranks n)) (m ∷ []) []))
    ∙ ap (λ (ms : List Milestone). map f ms) (sym (filter_more p items k nobody lt))))

abbrev pub mask_of_one : ℕ → Option Milestone → List NodeId
mask_of_one n None = []
mask_of_one n (Some m) = cond (ranked m.ranks n) [] (m.node ∷ [])

pub one-bit : (r : Bool) (node : NodeId) → length (cond r [] (node ∷ [])) ≡ cond r 0 1
one-bit true node = refl
one-bit false node = refl

pub length-both : {X : Type 0} (xs ys : List X) → length (xs ++ ys) ≡ length xs + length ys
length-both [] ys = omega arith
length-both (x ∷ xs) ys = omega (arith, length-both xs ys)

pub count-more : (items : List Milestone) (n k count new : ℕ) → k < length items → count ≡ length (map (λ m. m.node) (filter (λ m. not (ranked m.ranks n)) (take k items))) → ((m : Milestone) → slice_get items k ≡ Some m → new ≡ count + cond (ranked m.ranks n) 0 1) → new ≡ length (map (λ m. m.node) (filter (λ m. not (ranked m.ranks n)) (take (k + 1) items)))
count-more items n k count new lt so_far next =
    let m : Milestone = get_or items k nobody in
    let nodes : List NodeId = map (λ (x : Milestone). x.node) (filter (λ (x : Milestone). not (ranked x.ranks n)) (take k items)) in
    omega (
      arith,
      next m (slice_get-get_or items k nobody lt),
      one-bit (ranked m.ranks n) m.node,
      length-both nodes (cond (ranked m.ranks n) [] (m.node ∷ [])),
      ap (λ (xs : List NodeId). length xs) (mask-more items n k nodes (nodes ++ cond (ranked m.ranks n) [] (m.node ∷ [])) lt refl (λ x at.
          ap (λ (o : Option Milestone). nodes ++ mask_of_one n o) (sym (slice_get-get_or items k nobody lt) ∙ at))),
    )

pub kept-removed : (heap : List (Option ℕ)) (base : List ℕ) (nodes new_nodes node place : ℕ) (items new : List Milestone) → IsKept heap base nodes items → place_of items node ≡ Some place → new_nodes ≡ nodes → new ≡ remove items place → IsKept heap base new_nodes new
kept-removed heap base nodes new_nodes node place items new kept at nodes_is is =
    let inside : place < length items = (position-Some (λ (m : Milestone). eqb m.node.0 node) items place nobody at).0 in
    record {
      few = kept.few;
      nodes_are = nodes_is ∙ kept.nodes_are;
      heap_empty = kept.heap_empty;
      as_long = subst (λ (ms : List Milestone). All (λ m. length m.ranks ≡ length base) ms) (sym is) (All-remove (λ (m : Milestone). length m.ranks ≡ length base) items place inside kept.as_long);
      limited = omega (arith, kept.limited, ap (λ (ms : List Milestone). length ms) is, length-remove items place inside);
    }
