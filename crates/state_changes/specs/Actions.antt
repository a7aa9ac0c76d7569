-- What a change means in a game: things in place of names. The words and the order of the refusals are this project's own.
use Rattle.std.specs.Prelude.{ℕ, ◌+◌, Bool, true, false, length, List, [], ◌∷◌, Option, Some, None, Result, Ok, Err, if◌then◌else◌}
pub use Rattle.plan_base.specs.Binds.{◌▸◌}
use Rattle.plan_base.specs.declared.ids.GoodId.{GoodId}
use Rattle.plan_base.specs.declared.ids.NodeId.{NodeId}
use Rattle.plan_base.specs.declared.ids.RecipeId.{RecipeId}
use Rattle.plan_base.specs.declared.ids.TechId.{TechId}
use Rattle.plan_base.specs.declared.shape.Kind.{Kind}
use Rattle.plan_base.specs.declared.shape.Kind.TheVariants.{Item, Fluid, Recipe, Tech}
use Rattle.fractions.specs.Fraction.{Fraction}
use Rattle.name_table.specs.Names.{place_of}
use Rattle.game_types.specs.declared.games.Game.{Game}
use Rattle.game_types.specs.Nodes.{find_node, names_of}
use Rattle.data_edit.specs.declared.edits.Edit.{Edit}
use Rattle.data_edit.specs.declared.edits.Edit.TheVariants as edit
use Rattle.plan_lines.specs.declared.change.Object.{Object}
use Rattle.plan_lines.specs.declared.change.Change.{Change}
use Rattle.plan_lines.specs.declared.change.Change.TheVariants.{Grant, Revoke, Forbid, Permit, Milestone, Unmilestone, Ingredient, Product, Unlock, Time, Enabled}
use Rattle.state_changes.specs.declared.refusals.Refusal.{Refusal}
use Rattle.state_changes.specs.declared.refusals.Refusal.TheVariants.{Unknown}

-- ---- names
abbrev pub known : {A : Type 0} → Object → Option A → Result A Refusal
known object None = Err (Unknown object)
known object (Some value) = Ok value

unfoldable pub node_named : Game → Object → Result NodeId Refusal
node_named g object = known object (find_node g object.kind object.name)

-- the place of a name among those of a kind
unfoldable pub place_named : Game → Kind → Object → Result ℕ Refusal
place_named g kind object = known object (place_of (names_of g kind) object.name)

unfoldable pub recipe_named : Game → Object → Result RecipeId Refusal
recipe_named g object = place_named g Recipe object ▸ λ place. Ok (record { 0 = place })

unfoldable pub tech_named : Game → Object → Result TechId Refusal
tech_named g object = place_named g Tech object ▸ λ place. Ok (record { 0 = place })

-- fluids come behind the items
abbrev pub is_fluid : Kind → Bool
is_fluid Fluid = true
is_fluid kind = false

unfoldable pub good_named : Game → Object → Result GoodId Refusal
good_named g object =
    if is_fluid object.kind then (place_named g Fluid object ▸ λ place. Ok (record { 0 = length g.items + place }))
    else (place_named g Item object ▸ λ place. Ok (record { 0 = place }))

-- ---- changes
abbrev pub ingredient_edit : RecipeId → GoodId → Option Fraction → Edit
ingredient_edit recipe good (Some amount) = edit.SetIngredient recipe good amount
ingredient_edit recipe good None = edit.DropIngredient recipe good

abbrev pub product_edit : RecipeId → GoodId → Option Fraction → Edit
product_edit recipe good (Some amount) = edit.SetProduct recipe good amount
product_edit recipe good None = edit.DropProduct recipe good

-- The edit of the book that a change asks for, or the first of its names that nothing has. Changes of the milestones and of
-- the tables ask for none.
unfoldable pub edit_named : Game → Change → Result (Option Edit) Refusal
edit_named g (Grant object) = node_named g object ▸ λ node. Ok (Some (edit.Grant node))
edit_named g (Revoke object) = node_named g object ▸ λ node. Ok (Some (edit.Revoke node))
edit_named g (Forbid object) = node_named g object ▸ λ node. Ok (Some (edit.Forbid node))
edit_named g (Permit object) = node_named g object ▸ λ node. Ok (Some (edit.Permit node))
edit_named g (Ingredient recipe good amount) = recipe_named g recipe ▸ λ r. good_named g good ▸ λ x. Ok (Some (ingredient_edit r x amount))
edit_named g (Product recipe good amount) = recipe_named g recipe ▸ λ r. good_named g good ▸ λ x. Ok (Some (product_edit r x amount))
edit_named g (Unlock tech recipe on) = tech_named g tech ▸ λ t. recipe_named g recipe ▸ λ r. Ok (Some (edit.SetUnlock t r on))
edit_named g (Time recipe seconds) = recipe_named g recipe ▸ λ r. Ok (Some (edit.SetTime r seconds))
edit_named g (Enabled recipe on) = recipe_named g recipe ▸ λ r. Ok (Some (edit.SetEnabled r on))
edit_named g change = Ok None

-- the edits of the book that changes ask for, in order
abbrev pub edit_and : Result (Option Edit) Refusal → List Edit → List Edit
edit_and (Ok (Some edit)) edits = edit ∷ edits
edit_and (Ok None) edits = edits
edit_and (Err refusal) edits = edits

abbrev pub edits_named : Game → List Change → List Edit
edits_named g [] = []
edits_named g (change ∷ changes) = edit_and (edit_named g change) (edits_named g changes)

-- whether a batch may hold the change: each but those of milestones
abbrev pub can_be_held : Change → Bool
can_be_held (Milestone object) = false
can_be_held (Unmilestone object) = false
can_be_held change = true
