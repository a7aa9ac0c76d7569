-- The text of a catalog: its things' texts, between the brackets and the commas of one object of JSON.
use Rattle.std.specs.Prelude.{◌≡◌, ◌<◌, ℕ, Bool, true, false, List, [], ◌∷◌, ◌++◌, codes, length, map, nat_lt, slice_index_or}
use Rattle.json.specs.Print.{quoted}
use Rattle.plan_base.specs.Shape.{count_of}
use Rattle.plan_base.specs.declared.ids.NodeId.{NodeId}
use Rattle.plan_base.specs.declared.shape.Kind.{Kind}
use Rattle.plan_base.specs.declared.shape.Kind.TheVariants.{Special, Item, Fluid, Recipe, Source, Machine, Tech}
use Rattle.game_types.specs.Nodes.{shape_of}
use Rattle.game_types.specs.declared.games.Game.{Game}
use Rattle.depend_index.specs.declared.index.Index.{Index}
use Rattle.depend_index.specs.Indexed.{IsIndex}
use Rattle.state_changes.specs.States.{State}
use Rattle.serde_json.specs.Written.{comma_if}
use Rattle.catalog_members.specs.Members.{id_text}
use Rattle.catalog_text.specs.Things.{IsThingText}

-- what a catalog is written from, beside the state: an index of its game, and its milestones
pub record AreSources (s : State) (index : Index) (milestones : List NodeId) : Type 0 where
  pub is_index : IsIndex s.book.game index
  pub milestones_are : milestones ≡ s.milestones

-- ---- lists
-- texts with a comma before each but the first, which has one where others come before it
unfoldable pub with_commas : Bool → List (List ℕ) → List ℕ
with_commas later [] = []
with_commas later (t ∷ ts) = (comma_if later ++ t) ++ with_commas true ts

unfoldable pub list_text : List (List ℕ) → List ℕ
list_text texts = (91 ∷ with_commas false texts) ++ 93 ∷ []

-- ---- the things of a kind
-- the texts of so many of the first things of a kind
pub record AreTexts (s : State) (index : Index) (kind : Kind) (count : ℕ) (texts : List (List ℕ)) : Type 0 where
  pub long : length texts ≡ count
  pub each : (k : ℕ) → k < count → IsThingText s index kind k (slice_index_or texts k [])

-- the text of one thing was written behind others
pub record WritesThing (s : State) (index : Index) (kind : Kind) (number : ℕ) (old new : List ℕ) : Type 0 where
  pub text : List ℕ
  pub is_text : IsThingText s index kind number text
  pub written : new ≡ old ++ (comma_if (nat_lt 0 number) ++ text)

-- the texts of so many of the first things were written, with commas between
pub record WritesThings (s : State) (index : Index) (kind : Kind) (count : ℕ) (old new : List ℕ) : Type 0 where
  pub texts : List (List ℕ)
  pub are_texts : AreTexts s index kind count texts
  pub written : new ≡ old ++ with_commas false texts

-- behind a head, all things of a kind were written as a list
pub record WritesSection (s : State) (index : Index) (head : List ℕ) (kind : Kind) (old new : List ℕ) : Type 0 where
  pub texts : List (List ℕ)
  pub are_texts : AreTexts s index kind (count_of (shape_of s.book.game) kind) texts
  pub written : new ≡ (old ++ head) ++ list_text texts

-- ---- milestones
-- the names of nodes as texts of JSON
abbrev pub names : Game → List NodeId → List (List ℕ)
names g nodes = map (λ node. quoted (id_text g node)) nodes

-- ---- all of it
-- the sections up to the milestones, and those behind them
pub record WritesFront (s : State) (index : Index) (old new : List ℕ) : Type 0 where
  pub fluid : List ℕ
  pub item : List ℕ
  pub fluids : WritesSection s index (codes "{\"fluid\":") Fluid old fluid
  pub items : WritesSection s index (codes ",\"format\":\"factoplan-catalog\",\"item\":") Item fluid item
  pub machines : WritesSection s index (codes ",\"machine\":") Machine item new

pub record WritesMilestones (s : State) (old new : List ℕ) : Type 0 where
  pub written : new ≡ (old ++ codes ",\"milestones\":") ++ list_text (names s.book.game s.milestones)

pub record WritesBack (s : State) (index : Index) (old new : List ℕ) : Type 0 where
  pub recipe : List ℕ
  pub source : List ℕ
  pub special : List ℕ
  pub tech : List ℕ
  pub recipes : WritesSection s index (codes ",\"recipe\":") Recipe old recipe
  pub sources : WritesSection s index (codes ",\"source\":") Source recipe source
  pub specials : WritesSection s index (codes ",\"special\":") Special source special
  pub techs : WritesSection s index (codes ",\"tech\":") Tech special tech
  pub end : new ≡ tech ++ codes ",\"version\":1}\n"

-- A text is the catalog of a state: one object of JSON on one line, whose members are the lists of the things of each kind, all in the order
-- of their numbers, and the names of the milestones.
pub record IsCatalog (s : State) (text : List ℕ) : Type 0 where
  pub index : Index
  pub is_index : IsIndex s.book.game index
  pub front : List ℕ
  pub middle : List ℕ
  pub writes_front : WritesFront s index [] front
  pub writes_milestones : WritesMilestones s front middle
  pub writes_back : WritesBack s index middle text
