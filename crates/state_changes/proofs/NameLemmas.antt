-- What names mean stays where the names do.
use Rattle.std.proofs.Common.{◌≡◌, ◌∙◌, ℕ, ◌+◌, List, [], ◌∷◌, Option, Some, Result, Ok, length, refl, ap}
use Rattle.std.specs.Prelude.{option_map, if◌then◌else◌}
use Rattle.plan_base.specs.Shape.{first_of}
use Rattle.plan_base.specs.declared.ids.GoodId.{GoodId}
use Rattle.plan_base.specs.declared.ids.NodeId.{NodeId}
use Rattle.plan_base.specs.declared.ids.RecipeId.{RecipeId}
use Rattle.plan_base.specs.declared.ids.TechId.{TechId}
use Rattle.plan_base.specs.declared.shape.Kind.{Kind}
use Rattle.plan_base.specs.declared.shape.Kind.TheVariants as kinds
use Rattle.plan_base.specs.declared.shape.Shape.{Shape}
use Rattle.name_table.specs.Names.{place_of}
use Rattle.game_types.specs.Nodes.{names_of, node_at}
use Rattle.game_types.specs.declared.games.Game.{Game}
use Rattle.data_edit.specs.declared.edits.Edit.{Edit}
use Rattle.data_edit.specs.declared.edits.Edit.TheVariants as edit
use Rattle.data_edit.specs.Names.{KeepsNames}
use Rattle.plan_lines.specs.declared.change.Object.{Object}
use Rattle.plan_lines.specs.declared.change.Change.{Change}
use Rattle.plan_lines.specs.declared.change.Change.TheVariants.{Grant, Revoke, Forbid, Permit, Milestone, Unmilestone, Ingredient, Product, Unlock, Time, Enabled, Table, Untable, Row, Unrow, Price, Want, Import, Surplus, Power}
use Rattle.state_changes.specs.declared.refusals.Refusal.{Refusal}
use Rattle.state_changes.specs.Actions.{◌▸◌, edit_named, good_named, ingredient_edit, is_fluid, known, node_named, place_named, product_edit, recipe_named, tech_named, edit_and, edits_named}

module _ (g h : Game) (names : KeepsNames g h) where
  pub node-same : (object : Object) → node_named h object ≡ node_named g object
  unfolding node_named
  node-same object =
      ap (λ (s : Shape). known object (option_map (λ i. (let n : NodeId = record { 0 = first_of s object.kind + i } in n)) (place_of (names_of h object.kind) object.name))) names.shape
      ∙ ap (λ (ns : List (List ℕ)). known object (option_map (node_at g object.kind) (place_of ns object.name))) (names.names object.kind)

  place-same : (kind : Kind) (object : Object) → place_named h kind object ≡ place_named g kind object
  unfolding place_named
  place-same kind object = ap (λ (ns : List (List ℕ)). known object (place_of ns object.name)) (names.names kind)

  recipe-same : (object : Object) → recipe_named h object ≡ recipe_named g object
  unfolding recipe_named
  recipe-same object = ap (λ (o : Result ℕ Refusal). o ▸ λ place. Ok (let r : RecipeId = record { 0 = place } in r)) (place-same kinds.Recipe object)

  tech-same : (object : Object) → tech_named h object ≡ tech_named g object
  unfolding tech_named
  tech-same object = ap (λ (o : Result ℕ Refusal). o ▸ λ place. Ok (let t : TechId = record { 0 = place } in t)) (place-same kinds.Tech object)

  good-same : (object : Object) → good_named h object ≡ good_named g object
  unfolding good_named
  good-same object =
      ap (λ (o : Result ℕ Refusal). if is_fluid object.kind then (o ▸ λ place. Ok (let x : GoodId = record { 0 = length h.items + place } in x)) else (place_named h kinds.Item object ▸ λ place. Ok (let x : GoodId = record { 0 = place } in x))) (place-same kinds.Fluid object)
      ∙ (ap (λ (s : Shape). if is_fluid object.kind then (place_named g kinds.Fluid object ▸ λ place. Ok (let x : GoodId = record { 0 = s.items + place } in x)) else (place_named h kinds.Item object ▸ λ place. Ok (let x : GoodId = record { 0 = place } in x))) names.shape
      ∙ ap (λ (o : Result ℕ Refusal). if is_fluid object.kind then (place_named g kinds.Fluid object ▸ λ place. Ok (let x : GoodId = record { 0 = length g.items + place } in x)) else (o ▸ λ place. Ok (let x : GoodId = record { 0 = place } in x))) (place-same kinds.Item object))

  pub edit-same : (change : Change) → edit_named h change ≡ edit_named g change
  unfolding edit_named
  edit-same (Grant object) = ap (λ (o : Result NodeId Refusal). o ▸ λ node. Ok (Some (edit.Grant node))) (node-same object)
  edit-same (Revoke object) = ap (λ (o : Result NodeId Refusal). o ▸ λ node. Ok (Some (edit.Revoke node))) (node-same object)
  edit-same (Forbid object) = ap (λ (o : Result NodeId Refusal). o ▸ λ node. Ok (Some (edit.Forbid node))) (node-same object)
  edit-same (Permit object) = ap (λ (o : Result NodeId Refusal). o ▸ λ node. Ok (Some (edit.Permit node))) (node-same object)
  edit-same (Milestone object) = refl
  edit-same (Unmilestone object) = refl
  edit-same (Ingredient recipe good amount) =
      ap (λ (o : Result RecipeId Refusal). o ▸ λ r. good_named h good ▸ λ x. Ok (Some (ingredient_edit r x amount))) (recipe-same recipe)
      ∙ ap (λ (o : Result GoodId Refusal). recipe_named g recipe ▸ λ r. o ▸ λ x. Ok (Some (ingredient_edit r x amount))) (good-same good)
  edit-same (Product recipe good amount) =
      ap (λ (o : Result RecipeId Refusal). o ▸ λ r. good_named h good ▸ λ x. Ok (Some (product_edit r x amount))) (recipe-same recipe)
      ∙ ap (λ (o : Result GoodId Refusal). recipe_named g recipe ▸ λ r. o ▸ λ x. Ok (Some (product_edit r x amount))) (good-same good)
  edit-same (Unlock tech recipe on) =
      ap (λ (o : Result TechId Refusal). o ▸ λ t. recipe_named h recipe ▸ λ r. Ok (Some (edit.SetUnlock t r on))) (tech-same tech)
      ∙ ap (λ (o : Result RecipeId Refusal). tech_named g tech ▸ λ t. o ▸ λ r. Ok (Some (edit.SetUnlock t r on))) (recipe-same recipe)
  edit-same (Time recipe seconds) = ap (λ (o : Result RecipeId Refusal). o ▸ λ r. Ok (Some (edit.SetTime r seconds))) (recipe-same recipe)
  edit-same (Enabled recipe on) = ap (λ (o : Result RecipeId Refusal). o ▸ λ r. Ok (Some (edit.SetEnabled r on))) (recipe-same recipe)
  edit-same (Table table) = refl
  edit-same (Untable table) = refl
  edit-same (Row table label activity machine parts) = refl
  edit-same (Unrow table label) = refl
  edit-same (Price table label price) = refl
  edit-same (Want table good amount) = refl
  edit-same (Import table good price) = refl
  edit-same (Surplus table good price) = refl
  edit-same (Power table on) = refl

  pub edits-same : (changes : List Change) → edits_named h changes ≡ edits_named g changes
  edits-same [] = refl
  edits-same (change ∷ changes) =
      ap (λ (o : Result (Option Edit) Refusal). edit_and o (edits_named h changes)) (edit-same change) ∙ ap (edit_and (edit_named g change)) (edits-same changes)
