-- The text of each thing is that of its value, and a section of a catalog is the text of the array of its things.
use Rattle.std.proofs.Common.{◌≡◌, ◌∙◌, ◌<◌, ◌≤◌, ℕ, List, [], ◌++◌, inl, inr, ap, arith}
use Rattle.std.specs.Prelude.{◌⊎◌, Option, None, slice_index_or}
use Rattle.std.specs.List.{range_with_len}
use Rattle.std.proofs.lemmas.Bool.{cases_lt}
use Rattle.plan_base.specs.Shape.{count_of}
use Rattle.plan_base.specs.declared.ids.NodeId.{NodeId}
use Rattle.plan_base.specs.declared.shape.Kind.{Kind}
use Rattle.game_types.specs.Nodes.{shape_of}
use Rattle.depend_index.specs.declared.index.Index.{Index}
use Rattle.state_changes.specs.States.{State}
use Rattle.planning_state.specs.Worlds.{rank_of}
use Rattle.planner_core.specs.Told.{mask_of, places_of}
use Rattle.serde_json.specs.Data.{Data}
use Rattle.serde_json.specs.Written.{compact_text}
use Rattle.catalog_members.specs.Members.{id_text, id_value, items_tree}
use Rattle.catalog_members.specs.Texts.{IsTextOf}
use Rattle.catalog_things.specs.Nodes.{thing_node}
use Rattle.catalog_text.specs.declared.fields.Shown.{Shown}
use Rattle.catalog_text.specs.Catalog.{AreTexts, WritesSection, list_text, names}
use Rattle.catalog_text.specs.Things.{value_in}
use Rattle.catalog_laws.specs.Value.{milestones_value, thing_at, things_value}
use Rattle.catalog_laws.proofs.Lists.{names_are_array, texts_are_array}
use Rattle.catalog_laws.proofs.Plain.{Fits, array_fits, tree_fits}
use Rattle.catalog_laws.proofs.Reading.{Good, array_good, good_by, names_good, range_good, text_is}
use Rattle.catalog_laws.proofs.Things.{thing_fits}

pub value_fits : (s : State) (index : Index) (shown : Option Shown) (kind : Kind) (number : ℕ) (node : NodeId) → Fits 4 (value_in s index shown kind number node)
value_fits s index shown kind number node = thing_fits s.book.game index shown kind number node (rank_of s.book node.0) (places_of s.milestones (mask_of s node.0))

-- whatever is shown
pub things_fit : (s : State) (index : Index) (shown : ℕ → Option Shown) (kind : Kind) → Fits 5 (things_value s index shown kind)
unfolding things_value
things_fit s index shown kind =
    let count : ℕ = count_of (shape_of s.book.game) kind in
    array_fits 4 (items_tree (thing_at s index shown kind) (range_with_len 0 count))
    (tree_fits 4 (thing_at s index shown kind) (λ k. value_fits s index (shown k) kind k (thing_node s.book.game kind k)) (range_with_len 0 count))

-- ---- what is shown of the things of a kind, of which these are the texts
record Showing (s : State) (index : Index) (kind : Kind) (count : ℕ) (texts : List (List ℕ)) (k : ℕ) : Type 0 where
  shown : Option Shown
  is_text : k < count → IsTextOf (value_in s index shown kind k (thing_node s.book.game kind k)) (slice_index_or texts k [])

showing_by : (s : State) (index : Index) (kind : Kind) (count : ℕ) (texts : List (List ℕ)) (k : ℕ) → AreTexts s index kind count texts → (k < count) ⊎ (count ≤ k) → Showing s index kind count texts k
showing_by s index kind count texts k are (inl below) = let one = are.each k below in record { shown = one.shown; is_text = λ _. one.is_text }
showing_by s index kind count texts k are (inr past) = record { shown = None; is_text = λ below. absurd (omega (arith, below, past)) }

showing : (s : State) (index : Index) (kind : Kind) (count : ℕ) (texts : List (List ℕ)) → AreTexts s index kind count texts → (k : ℕ) → Showing s index kind count texts k
showing s index kind count texts are k = showing_by s index kind count texts k are (cases_lt k count)

-- ---- sections
-- behind a head the array of the things of a kind was written, which reads back
pub record Section (s : State) (index : Index) (head : List ℕ) (kind : Kind) (old new : List ℕ) : Type 0 where
  pub shown : ℕ → Option Shown
  pub written : new ≡ (old ++ head) ++ compact_text (things_value s index shown kind)
  pub good : Good 5 (things_value s index shown kind)

pub section : (s : State) (index : Index) (head : List ℕ) (kind : Kind) (old new : List ℕ) → WritesSection s index head kind old new → Section s index head kind old new
unfolding things_value
section s index head kind old new w =
    let count : ℕ = count_of (shape_of s.book.game) kind in
    let each : (k : ℕ) → Showing s index kind count w.texts k = showing s index kind count w.texts w.are_texts in
    let shown : ℕ → Option Shown = λ k. (each k).shown in
    let of : ℕ → Data = thing_at s index shown kind in
    let fits : (k : ℕ) → Fits 4 (of k) = λ k. value_fits s index (shown k) kind k (thing_node s.book.game kind k) in
    record {
      shown = shown;
      written = w.written
          ∙ ap (λ l. (old ++ head) ++ l)
          (texts_are_array of w.texts count w.are_texts.long (λ k below. text_is 4 (of k) (slice_index_or w.texts k []) (fits k) ((each k).is_text below)));
      good = array_good 4 (items_tree of (range_with_len 0 count))
          (range_good 4 of 0 count (λ k below. good_by 4 (of k) (slice_index_or w.texts k []) (omega arith) (fits k) ((each k).is_text (omega (arith, below)))));
    }

-- ---- milestones
pub milestones_good : (s : State) → Good 5 (milestones_value s)
unfolding milestones_value
milestones_good s = array_good 4 (items_tree (id_value s.book.game) s.milestones) (names_good 4 (id_text s.book.game) s.milestones)

pub milestones_text : (s : State) → list_text (names s.book.game s.milestones) ≡ compact_text (milestones_value s)
unfolding milestones_value
milestones_text s = names_are_array s.book.game s.milestones
