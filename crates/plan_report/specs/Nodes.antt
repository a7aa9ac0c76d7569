-- The nodes and the goods of a game as words.
use Rattle.std.specs.Prelude.{ℕ, ◌+◌, ◌-◌, ◌==◌, nat_lt, List, [], codes, length, if◌then◌else◌, slice_index_or}
use Rattle.plan_base.specs.Shape.{first_of}
use Rattle.plan_base.specs.declared.ids.GoodId.{GoodId}
use Rattle.plan_base.specs.declared.ids.NodeId.{NodeId}
use Rattle.plan_base.specs.declared.shape.Shape.{Shape}
use Rattle.plan_base.specs.declared.shape.Kind.{Kind}
use Rattle.plan_base.specs.declared.shape.Kind.TheVariants.{Special, Item, Fluid, Recipe, Source, Machine, Tech}
use Rattle.game_types.specs.Nodes.{names_of, shape_of}
use Rattle.game_types.specs.declared.games.Game.{Game}
use Rattle.plan_report.specs.Words.{object_word}

-- the kind of a node, by its number
abbrev pub kind_at : Shape → ℕ → Kind
kind_at s n =
    if nat_lt n (first_of s Item) then Special
    else if nat_lt n (first_of s Fluid) then Item
    else if nat_lt n (first_of s Recipe) then Fluid
    else if nat_lt n (first_of s Source) then Recipe
    else if nat_lt n (first_of s Machine) then Source
    else if nat_lt n (first_of s Tech) then Machine
    else Tech

-- the name at a place among those of a kind, empty past the last
abbrev pub name_at : Game → Kind → ℕ → List ℕ
name_at g kind place = slice_index_or (names_of g kind) place []

abbrev pub word_at : Game → Kind → ℕ → List ℕ
word_at g kind n = object_word kind (name_at g kind (n - first_of (shape_of g) kind))

-- the word of a node
unfoldable pub node_word : Game → NodeId → List ℕ
node_word g node = word_at g (kind_at (shape_of g) node.0) node.0

-- how many items and fluids there are
abbrev pub solid_and_fluid : Game → ℕ
solid_and_fluid g = length g.items + length g.fluids

-- The word of a good of a table. Behind the items and the fluids stands electric power, and behind it each technology.
unfoldable pub good_word : Game → GoodId → List ℕ
good_word g good =
    if nat_lt good.0 (solid_and_fluid g) then node_word g (record { 0 = 3 + good.0 })
    else if good.0 == solid_and_fluid g then object_word Special (codes "electricity")
    else object_word Tech (name_at g Tech (good.0 - (solid_and_fluid g + 1)))
