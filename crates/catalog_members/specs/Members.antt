-- The members of a thing of a catalog. What isn't so has no member: neither what is absent, nor `false`, nor an empty list. Numbers
-- are texts in lowest terms, things are texts `KIND:NAME`.
use Rattle.std.specs.Prelude.{ℕ, ◌-◌, ◌==◌, Bool, true, false, List, [], ◌∷◌, ◌++◌, Option, Some, None, codes, map, if◌then◌else◌}
use Rattle.fractions.specs.Fraction.{Fraction}
use Rattle.fractions.specs.Print.{printed}
use Rattle.plan_base.specs.Shape.{first_of}
use Rattle.plan_base.specs.declared.ids.NodeId.{NodeId}
use Rattle.plan_base.specs.declared.shape.Kind.{Kind}
use Rattle.script_reader.specs.Fields.{kind_word}
use Rattle.game_types.specs.Nodes.{shape_of}
use Rattle.game_types.specs.declared.games.Game.{Game}
use Rattle.plan_report.specs.Nodes.{kind_at, name_at}
use Rattle.serde_json.specs.Data.{Data, array, boolean, item, Items, Members, no_items, no_members, number, object, put, string, unsigned}

-- ---- things by name
abbrev pub name_of_kind : Game → Kind → ℕ → List ℕ
name_of_kind g kind n = kind_word kind ++ 58 ∷ name_at g kind (n - first_of (shape_of g) kind)

-- the word of a node without quotes
unfoldable pub id_text : Game → NodeId → List ℕ
id_text g node = name_of_kind g (kind_at (shape_of g) node.0) node.0

-- what each of a list is written as
abbrev pub items_tree : {A : Type 0} → (A → Data) → List A → Items
items_tree tree [] = no_items
items_tree tree (x ∷ xs) = item (tree x) (items_tree tree xs)

abbrev pub id_value : Game → NodeId → Data
id_value g node = string (id_text g node)

abbrev pub place_value : ℕ → Data
place_value n = number (unsigned n)

abbrev pub word_value : List ℕ → Data
word_value word = string word

-- ---- members
unfoldable pub with_text : List ℕ → List ℕ → Members → Members
with_text key text ms = put key (string text) ms

unfoldable pub with_number : List ℕ → ℕ → Members → Members
with_number key n ms = put key (number (unsigned n)) ms

-- a number that counts only where it isn't 0
unfoldable pub with_count : List ℕ → ℕ → Members → Members
with_count key n ms = if n == 0 then ms else with_number key n ms

unfoldable pub with_true : List ℕ → Bool → Members → Members
with_true key true ms = put key (boolean true) ms
with_true key false ms = ms

unfoldable pub with_amount : List ℕ → Fraction → Members → Members
with_amount key x ms = with_text key (printed x) ms

unfoldable pub with_amount_where : List ℕ → Option Fraction → Members → Members
with_amount_where key None ms = ms
with_amount_where key (Some x) ms = with_amount key x ms

unfoldable pub with_id : List ℕ → Game → NodeId → Members → Members
with_id key g node ms = put key (string (id_text g node)) ms

unfoldable pub with_id_where : List ℕ → Game → Option NodeId → Members → Members
with_id_where key g None ms = ms
with_id_where key g (Some node) ms = with_id key g node ms

unfoldable pub with_items : List ℕ → Items → Members → Members
with_items key no_items ms = ms
with_items key (item d ds) ms = put key (array (item d ds)) ms

unfoldable pub with_ids : List ℕ → Game → List NodeId → Members → Members
with_ids key g nodes ms = with_items key (items_tree (id_value g) nodes) ms

unfoldable pub with_places : List ℕ → List ℕ → Members → Members
with_places key ns ms = with_items key (items_tree place_value ns) ms

unfoldable pub with_words : List ℕ → List (List ℕ) → Members → Members
with_words key ws ms = with_items key (items_tree word_value ws) ms

unfoldable pub with_object : List ℕ → Members → Members → Members
with_object key inner ms = put key (object inner) ms
