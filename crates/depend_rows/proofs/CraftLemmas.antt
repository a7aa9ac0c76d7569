-- Machines, drills and fuels, taken apart by category.
use Rattle.std.proofs.Common.{◌≡◌, ◌∙◌, ◌+◌, ◌++◌, ℕ, Bool, true, false, List, [], ◌∷◌, refl, ap, sym}
use Rattle.std.specs.Prelude.{◌==◌, ◌||◌, ◌&&◌, not, Option, Some, None, slice_get, is_none, is_some}
use Rattle.plan_base.specs.declared.ids.NodeId.{NodeId}
use Rattle.game_types.specs.Making.{holds, kind_crafts, kind_mines}
use Rattle.game_types.specs.declared.machinery.MachineKind.{MachineKind}
use Rattle.game_types.specs.declared.machinery.MachineKind.TheVariants.{Crafter, Drill, Pump, Boiler, Generator, BurnerGenerator, Solar, Reactor, Lab, Beacon}
use Rattle.game_types.specs.declared.machinery.Machine.{Machine}
use Rattle.game_types.specs.declared.recipes.Recipe.{Recipe}
use Rattle.game_types.specs.declared.recipes.Source.{Source}
use Rattle.graph_store.specs.Members.{those}
use Rattle.depend_index.specs.Kinds.{crafts_all_of, crafts_alone, has_category, is_drill_of}
use Rattle.graph_store.specs.Lists.{is_among, HoldInOrder}
use Rattle.depend_index.proofs.KeyLemmas.{is_among-append}
use Rattle.graph_store.proofs.OrderLemmas.{among_either, in_order_those, numbers_of, those_same}

by_fixing : (of same : Bool) → (of && not (not same)) ≡ ((of && false) || (same && of))
by_fixing true true = refl
by_fixing true false = refl
by_fixing false true = refl
by_fixing false false = refl

unfixed : (of : Bool) → (of && true) ≡ ((of && true) || false)
unfixed true = refl
unfixed false = refl

-- a machine crafts a recipe where it crafts all of its category, or it alone
crafts_either : (recipes : List Recipe) (number : ℕ) (recipe : Recipe) → slice_get recipes number ≡ Some recipe → (kind : MachineKind) → kind_crafts kind number recipe ≡ (crafts_all_of kind recipe.category || crafts_alone recipes kind number)
crafts_either recipes number recipe there (Crafter speed categories None) = unfixed (holds categories recipe.category)
crafts_either recipes number recipe there (Crafter speed categories (Some fixed)) =
    by_fixing (holds categories recipe.category) (fixed.0 == number)
    ∙ ap (λ r. (holds categories recipe.category && false) || ((fixed.0 == number) && has_category categories r)) (sym there)
crafts_either recipes number recipe there (Drill speed categories fluid_box) = refl
crafts_either recipes number recipe there (Pump fluid speed) = refl
crafts_either recipes number recipe there (Boiler input output temperature) = refl
crafts_either recipes number recipe there (Generator input effectivity per_tick max_temperature burns output) = refl
crafts_either recipes number recipe there (BurnerGenerator output) = refl
crafts_either recipes number recipe there (Solar production) = refl
crafts_either recipes number recipe there Reactor = refl
crafts_either recipes number recipe there (Lab inputs speed) = refl
crafts_either recipes number recipe there (Beacon effectivity) = refl

-- the machines of a recipe, from those of its category and those of it alone
pub crafters_union : (recipes : List Recipe) (number : ℕ) (recipe : Recipe) (first : ℕ) (machines : List Machine) (numbers : List ℕ) (nodes : List NodeId) → slice_get recipes number ≡ Some recipe
    → numbers ≡ numbers_of (those (λ machine. crafts_all_of machine.kind recipe.category) first machines) ++ numbers_of (those (λ machine. crafts_alone recipes machine.kind number) first machines)
    → HoldInOrder numbers nodes → nodes ≡ those (λ machine. kind_crafts machine.kind number recipe) first machines
crafters_union recipes number recipe first machines numbers nodes there are held =
    in_order_those (λ machine. kind_crafts machine.kind number recipe) first machines numbers nodes held (λ k.
    ap (λ l. is_among l k) are
    ∙ is_among-append (numbers_of (those (λ machine. crafts_all_of machine.kind recipe.category) first machines)) (numbers_of (those (λ machine. crafts_alone recipes machine.kind number) first machines)) k
    ∙ sym (among_either (λ (machine : Machine). crafts_all_of machine.kind recipe.category) (λ (machine : Machine). crafts_alone recipes machine.kind number) k machines first)
    ∙ ap (λ l. is_among (numbers_of l) k) (sym (those_same (λ (machine : Machine). kind_crafts machine.kind number recipe) (λ (machine : Machine). crafts_all_of machine.kind recipe.category || crafts_alone recipes machine.kind number) (λ machine. crafts_either recipes number recipe there machine.kind) machines first)))

-- ---- drills
dry : (of box : Bool) → (of && (true || box)) ≡ (of && (not false || box))
dry of box = refl

-- a drilled source is mined by the drills of its category, with a box where it needs a fluid
mines_by_category : (source : Source) (boxed : Bool) → source.drilled ≡ true → is_none source.fluid ≡ not boxed → (kind : MachineKind) → kind_mines kind source ≡ is_drill_of boxed kind source.category
mines_by_category source boxed drilled fluid (Drill speed categories fluid_box) =
    ap (λ d. d && (holds categories source.category && (is_none source.fluid || fluid_box))) drilled ∙ ap (λ f. holds categories source.category && (f || fluid_box)) fluid
mines_by_category source boxed drilled fluid (Crafter speed categories fixed) = refl
mines_by_category source boxed drilled fluid (Pump fluid' speed) = refl
mines_by_category source boxed drilled fluid (Boiler input output temperature) = refl
mines_by_category source boxed drilled fluid (Generator input effectivity per_tick max_temperature burns output) = refl
mines_by_category source boxed drilled fluid (BurnerGenerator output) = refl
mines_by_category source boxed drilled fluid (Solar production) = refl
mines_by_category source boxed drilled fluid Reactor = refl
mines_by_category source boxed drilled fluid (Lab inputs speed) = refl
mines_by_category source boxed drilled fluid (Beacon effectivity) = refl

pub drills_of_category : (source : Source) (boxed : Bool) (first : ℕ) (machines : List Machine) → source.drilled ≡ true → is_none source.fluid ≡ not boxed
    → those (λ machine. is_drill_of boxed machine.kind source.category) first machines ≡ those (λ machine. kind_mines machine.kind source) first machines
drills_of_category source boxed first machines drilled fluid =
    sym (those_same (λ (machine : Machine). kind_mines machine.kind source) (λ (machine : Machine). is_drill_of boxed machine.kind source.category) (λ machine. mines_by_category source boxed drilled fluid machine.kind) machines first)

-- no machine mines what isn't drilled
mines_nothing : (source : Source) → source.drilled ≡ false → (kind : MachineKind) → kind_mines kind source ≡ false
mines_nothing source drilled (Drill speed categories fluid_box) = ap (λ d. d && (holds categories source.category && (is_none source.fluid || fluid_box))) drilled
mines_nothing source drilled (Crafter speed categories fixed) = refl
mines_nothing source drilled (Pump fluid' speed) = refl
mines_nothing source drilled (Boiler input output temperature) = refl
mines_nothing source drilled (Generator input effectivity per_tick max_temperature burns output) = refl
mines_nothing source drilled (BurnerGenerator output) = refl
mines_nothing source drilled (Solar production) = refl
mines_nothing source drilled Reactor = refl
mines_nothing source drilled (Lab inputs speed) = refl
mines_nothing source drilled (Beacon effectivity) = refl

pub none_of : {A : Type 0} → (xs : List A) (first : ℕ) → those (λ _. false) first xs ≡ []
none_of [] first = refl
none_of (x ∷ xs) first = none_of xs (first + 1)

pub no_drills : (source : Source) (first : ℕ) (machines : List Machine) → source.drilled ≡ false → [] ≡ those (λ machine. kind_mines machine.kind source) first machines
no_drills source first machines drilled = sym (those_same (λ (machine : Machine). kind_mines machine.kind source) (λ _. false) (λ machine. mines_nothing source drilled machine.kind) machines first ∙ none_of machines first)

pub none_or_some : {A : Type 0} → (o : Option A) (b : Bool) → b ≡ is_some o → is_none o ≡ not b
none_or_some None b is = ap not (sym is)
none_or_some (Some x) b is = ap not (sym is)
