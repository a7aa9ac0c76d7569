-- The catalog of a state as one value of JSON, and what it is for a text to be it.
use Rattle.std.specs.Prelude.{◌≡◌, ◌==◌, ℕ, Bool, true, not, List, [], ◌∷◌, ◌++◌, Option, Some, codes}
use Rattle.std.specs.List.{list_all, range_with_len}
use Rattle.plan_base.specs.Shape.{count_of}
use Rattle.plan_base.specs.declared.shape.Kind.{Kind}
use Rattle.plan_base.specs.declared.shape.Kind.TheVariants.{Special, Item, Fluid, Recipe, Source, Machine, Tech}
use Rattle.game_types.specs.Nodes.{shape_of}
use Rattle.depend_index.specs.declared.index.Index.{Index}
use Rattle.depend_index.specs.Indexed.{IsIndex}
use Rattle.state_changes.specs.States.{State}
use Rattle.serde_json.specs.Data.{Data, array, member, no_members, number, object, string, unsigned}
use Rattle.serde_json.specs.Read.{read}
use Rattle.serde_json.specs.Written.{compact_text}
use Rattle.catalog_members.specs.Members.{id_value, items_tree}
use Rattle.catalog_things.specs.Nodes.{thing_node}
use Rattle.catalog_text.specs.declared.fields.Shown.{Shown}
use Rattle.catalog_text.specs.Things.{value_in}

-- ---- the object
-- the thing of a kind with a number, of which this is shown
abbrev pub thing_at : State → Index → (ℕ → Option Shown) → Kind → ℕ → Data
thing_at s index shown kind k = value_in s index (shown k) kind k (thing_node s.book.game kind k)

-- all things of a kind, in the order of their numbers
unfoldable pub things_value : State → Index → (ℕ → Option Shown) → Kind → Data
things_value s index shown kind = array (items_tree (thing_at s index shown kind) (range_with_len 0 (count_of (shape_of s.book.game) kind)))

-- the milestones by their names, in their order
unfoldable pub milestones_value : State → Data
milestones_value s = array (items_tree (id_value s.book.game) s.milestones)

-- The catalog of a state: its things kind by kind, and its milestones. What is shown of each thing and no rule reads is given.
unfoldable pub catalog_value : State → Index → (Kind → ℕ → Option Shown) → Data
catalog_value s index shown = object
    (member (codes "fluid") (things_value s index (shown Fluid) Fluid)
    (member (codes "format") (string (codes "factoplan-catalog"))
    (member (codes "item") (things_value s index (shown Item) Item)
    (member (codes "machine") (things_value s index (shown Machine) Machine)
    (member (codes "milestones") (milestones_value s)
    (member (codes "recipe") (things_value s index (shown Recipe) Recipe)
    (member (codes "source") (things_value s index (shown Source) Source)
    (member (codes "special") (things_value s index (shown Special) Special)
    (member (codes "tech") (things_value s index (shown Tech) Tech)
    (member (codes "version") (number (unsigned 1)) no_members))))))))))

-- ---- its text
-- a byte that ends no line
abbrev pub is_inner : ℕ → Bool
is_inner byte = not (byte == 10)

abbrev pub is_one_line : List ℕ → Bool
is_one_line bytes = list_all is_inner bytes

-- a text is a value with no blanks, on one line with its end, and reads back as the value
pub record IsLineOf (value : Data) (text : List ℕ) : Type 0 where
  pub compact : text ≡ compact_text value ++ 10 ∷ []
  pub one_line : is_one_line (compact_text value) ≡ true
  pub reads_back : read text ≡ Some value

-- A text is the catalog of a state, with something shown of its things, and reads back.
pub record ReadsBack (s : State) (text : List ℕ) : Type 0 where
  pub index : Index
  pub is_index : IsIndex s.book.game index
  pub shown : Kind → ℕ → Option Shown
  pub is_line : IsLineOf (catalog_value s index shown) text
