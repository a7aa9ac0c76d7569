-- The members that replies are put together from. Each function of this file puts a member into those that are there. What is not so
-- has its member all the same: a list may be empty, and a figure past the limits of fractions is `null`.
use Rattle.std.specs.Prelude.{ℕ, ◌+◌, ◌-◌, ◌==◌, Bool, List, [], ◌∷◌, ◌++◌, Option, Some, None, codes, if◌then◌else◌, map, nat_lt}
use Rattle.fractions.specs.Fraction.{Fraction}
use Rattle.fractions.specs.Print.{printed}
use Rattle.plan_base.specs.declared.ids.GoodId.{GoodId}
use Rattle.plan_base.specs.declared.ids.NodeId.{NodeId}
use Rattle.plan_base.specs.declared.shape.Kind.TheVariants.{Special, Tech}
use Rattle.script_reader.specs.Fields.{kind_word}
use Rattle.game_types.specs.declared.games.Game.{Game}
use Rattle.plan_report.specs.Nodes.{name_at, solid_and_fluid}
use Rattle.serde_json.specs.Data.{array, boolean, Data, Items, Members, no_members, null, number, object, put, string, unsigned}
use Rattle.serde_json.specs.View.{items_of}
use Rattle.catalog_members.specs.Members.{id_text, id_value, with_amount, with_id, with_object, with_text}
use Rattle.report_json.specs.Numbers.{decimal_of}

-- ---- single members
unfoldable pub with_kind : List ℕ → Members → Members
with_kind word ms = with_text (codes "kind") word ms

unfoldable pub with_whole : List ℕ → ℕ → Members → Members
with_whole key n ms = put key (number (unsigned n)) ms

unfoldable pub with_flag : List ℕ → Bool → Members → Members
with_flag key is_so ms = put key (boolean is_so) ms

unfoldable pub with_list : List ℕ → Items → Members → Members
with_list key items ms = put key (array items) ms

-- ---- numbers
-- the exact text in lowest terms, and the decimal
unfoldable pub with_parts : Fraction → Members → Members
with_parts x ms = with_amount (codes "exact") x (with_text (codes "decimal") (decimal_of x) ms)

unfoldable pub with_number : List ℕ → Fraction → Members → Members
with_number key x ms = with_object key (with_parts x no_members) ms

-- a figure that is past the limits of fractions is null
abbrev pub figure_value : Option Fraction → Data
figure_value None = null
figure_value (Some x) = object (with_parts x no_members)

unfoldable pub with_figure : List ℕ → Option Fraction → Members → Members
with_figure key figure ms = put key (figure_value figure) ms

-- ---- nodes and goods
unfoldable pub with_node : Game → NodeId → Members → Members
with_node g node ms = with_id (codes "node") g node ms

unfoldable pub with_nodes : List ℕ → Game → List NodeId → Members → Members
with_nodes key g nodes ms = with_list key (items_of (map (id_value g) nodes)) ms

-- A good of a table by its name. Behind the items and the fluids stands electric power, and behind it each technology.
unfoldable pub good_id : Game → GoodId → List ℕ
good_id g good =
    if nat_lt good.0 (solid_and_fluid g) then id_text g (record { 0 = 3 + good.0 })
    else if good.0 == solid_and_fluid g then kind_word Special ++ 58 ∷ codes "electricity"
    else kind_word Tech ++ 58 ∷ name_at g Tech (good.0 - (solid_and_fluid g + 1))

unfoldable pub with_good : List ℕ → Game → GoodId → Members → Members
with_good key g good ms = with_text key (good_id g good) ms
