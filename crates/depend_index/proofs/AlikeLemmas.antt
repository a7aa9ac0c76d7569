-- What edits leave of a game, and that an index of it, with what the edits name noted, is an index after them.
use Rattle.std.proofs.Common.{◌≡◌, ◌∙◌, ◌<◌, ◌≤◌, ◌+◌, ◌-◌, ℕ, zero, suc, Bool, true, false, List, [], ◌∷◌, ◌++◌, Vec, length, map, refl, ap, sym, subst, arith}
use Rattle.std.specs.Prelude.{◌==◌, ◌&&◌, Option, Some, None, option_map, slice_get, nat_lt, is_none, Result, Ok, Err, OnOk}
use Rattle.std.specs.Global.{Global}
use Rattle.std.specs.List.{list_any}
use Rattle.std.proofs.lemmas.List.Folds.{list_any-append}
use Rattle.plan_base.specs.Shape.{first_of}
use Rattle.plan_base.specs.declared.ids.NodeId.{NodeId}
use Rattle.plan_base.specs.declared.shape.Shape.{Shape}
use Rattle.plan_base.specs.declared.shape.Kind.TheVariants.{Recipe as RecipeKind, Tech as TechKind}
use Rattle.game_types.specs.Nodes.{shape_of}
use Rattle.std.specs.Vec.{with_items}
use Rattle.std.proofs.lemmas.List.{length-map, with_items_is}
use Rattle.std.proofs.lemmas.Bool.Decides.{nat_tests}
use Rattle.std.proofs.lemmas.Bool.{or_parts}
use Rattle.game_types.specs.Making.{gives, holds}
use Rattle.fractions.specs.Signs.{is_positive}
use Rattle.game_types.specs.Temperatures.{is_good}
use Rattle.game_types.specs.declared.games.Game.{Game}
use Rattle.game_types.specs.declared.goods.Fluid.{Fluid}
use Rattle.game_types.specs.declared.goods.Item.{Item}
use Rattle.game_types.specs.declared.machinery.Machine.{Machine}
use Rattle.game_types.specs.declared.machinery.MachineKind.{MachineKind}
use Rattle.game_types.specs.declared.machinery.MachineKind.TheVariants.{Crafter, Drill, Pump, Boiler, Generator, BurnerGenerator, Solar, Reactor, Lab, Beacon}
use Rattle.game_types.specs.declared.recipes.Recipe.{Recipe}
use Rattle.game_types.specs.declared.recipes.Source.{Source}
use Rattle.game_types.specs.declared.research.Character.{Character}
use Rattle.game_types.specs.declared.research.Tech.{Tech}
use Rattle.data_edit.specs.Names.{KeepsGame}
use Rattle.data_edit.specs.declared.edits.Edit.{Edit}
use Rattle.depend_index.specs.Alike.{AlikeBut, is_of_product, is_of_unlock}
use Rattle.depend_index.specs.Indexed.{IsIndex}
use Rattle.depend_index.specs.Machines.{burning_fluids, is_machine, placers}
use Rattle.depend_index.specs.Kinds.{crafts_all_of, crafts_alone, has_category, is_drill_of, is_fuel_of, is_lab, is_recipe, takes}
use Rattle.depend_index.specs.Coolest.{AreSorted}
use Rattle.graph_store.specs.Lists.{has_node, list_at, AreLists, HoldThose, Widen}
use Rattle.depend_index.specs.Marks.{AreMarks}
use Rattle.graph_store.specs.Words.{AreWords}
use Rattle.depend_index.specs.Goods.{first_machine, first_recipe, first_source, first_tech, good_count, leavers, putters, puts_out, variants}
use Rattle.graph_store.specs.Members.{passes, those}
use Rattle.depend_index.specs.declared.index.Index.{Index}
use Rattle.graph_store.proofs.AmongLemmas.{at_those, below_those}
use Rattle.graph_store.proofs.OrderLemmas.{those_same}
use Rattle.data_edit.proofs.GameKept.{same_game}

-- ---- games alike
pub alike_same : (edits : List Edit) (g : Game) → AlikeBut edits g g
alike_same edits g = record {
  kept = record { items = refl; fluids = refl; sources = refl; machines = refl; character = refl; categories = refl; recipes = refl; techs = refl };
  products = λ r x _. refl;
  unlocks = λ t r _. refl;
}

pub alike_back : (edits : List Edit) (old new : Game) → AlikeBut edits old new → AlikeBut edits new old
alike_back edits old new alike = record {
  kept = record {
    items = sym alike.kept.items;
    fluids = sym alike.kept.fluids;
    sources = sym alike.kept.sources;
    machines = sym alike.kept.machines;
    character = sym alike.kept.character;
    categories = sym alike.kept.categories;
    recipes = sym alike.kept.recipes;
    techs = sym alike.kept.techs;
  };
  products = λ r x unnamed. sym (alike.products r x unnamed);
  unlocks = λ t r unnamed. sym (alike.unlocks t r unnamed);
}

apart : (test : Edit → Bool) (first second : List Edit) → list_any test (first ++ second) ≡ false → (list_any test first ≡ false) × (list_any test second ≡ false)
apart test first second none = or_parts (list_any test first) (list_any test second) (sym (list_any-append test first second) ∙ none)

pub alike_more : (first second : List Edit) (old between new : Game) → AlikeBut first old between → AlikeBut second between new → AlikeBut (first ++ second) old new
alike_more first second old between new a b = record {
  kept = record {
    items = b.kept.items ∙ a.kept.items;
    fluids = b.kept.fluids ∙ a.kept.fluids;
    sources = b.kept.sources ∙ a.kept.sources;
    machines = b.kept.machines ∙ a.kept.machines;
    character = b.kept.character ∙ a.kept.character;
    categories = b.kept.categories ∙ a.kept.categories;
    recipes = b.kept.recipes ∙ a.kept.recipes;
    techs = b.kept.techs ∙ a.kept.techs;
  };
  products = λ r x unnamed. b.products r x (apart (is_of_product r x) first second unnamed).1 ∙ a.products r x (apart (is_of_product r x) first second unnamed).0;
  unlocks = λ t r unnamed. b.unlocks t r (apart (is_of_unlock t r) first second unnamed).1 ∙ a.unlocks t r (apart (is_of_unlock t r) first second unnamed).0;
}

-- ---- lists that hold those, of things of which only what is noted may differ
by_named : (old new noted : Bool) (kept : Bool) → (noted ≡ false → new ≡ old) → (old ≡ true → kept ≡ true) → (noted ≡ true → kept ≡ true) → new ≡ true → kept ≡ true
by_named old new true kept same held put is = put refl
by_named old new false kept same held put is = held (sym (same refl) ∙ is)

in_range : {A : Type 0} (test : A → Bool) (xs : List A) (r : ℕ) → passes test (slice_get xs r) ≡ true → r < length xs
in_range test [] r there = absurd (nothing r there)
  where
    nothing : (r : ℕ) → passes test (slice_get [] r) ≡ true → ⊥
    nothing r there = cc
in_range test (x ∷ xs) zero there = omega arith
in_range test (x ∷ xs) (suc r) there = let rest = in_range test xs r there in omega (arith, rest)

module _ {A : Type 0} (about : A → ℕ → Bool) (named : ℕ → ℕ → Bool) (first count : ℕ) (old new : List A) (exact : Bool) (lists now : List (Vec NodeId Global)) where
  held : HoldThose exact about first old count lists → Widen lists now → length new ≡ length old
      → ((r x : ℕ) → named r x ≡ false → passes (λ a. about a x) (slice_get new r) ≡ passes (λ a. about a x) (slice_get old r))
      → ((r x : ℕ) → named r x ≡ true → r < length old → x < length lists → has_node (list_at now x) (first + r) ≡ true)
      → (k n : ℕ) → k < count → has_node (those (λ a. about a k) first new) n ≡ true → has_node (list_at now k) n ≡ true
  held hold widen long same put k n within there = by_order (nat_lt n first) refl
    where
      inside : (r : ℕ) → n ≡ first + r → has_node (list_at now k) n ≡ true
      inside r at =
          let passed : passes (λ (a : A). about a k) (slice_get new r) ≡ true = sym (at_those (λ a. about a k) new first r n at) ∙ there in
          by_named (passes (λ (a : A). about a k) (slice_get old r)) (passes (λ (a : A). about a k) (slice_get new r)) (named r k) (has_node (list_at now k) n)
          (same r k)
          (λ is. widen.kept k n (hold.all k n within (at_those (λ a. about a k) old first r n at ∙ is)))
          (λ is. ap (has_node (list_at now k)) at ∙ put r k is (subst (λ m. r < m) long (in_range (λ (a : A). about a k) new r passed)) (subst (λ m. k < m) (sym hold.as_long) within))
          passed

      by_order : (b : Bool) → nat_lt n first ≡ b → has_node (list_at now k) n ≡ true
      by_order true is =
          let below : n < first = grind (arith, nat_tests, is) in
          let impossible : true ≡ false = sym there ∙ below_those (λ (a : A). about a k) new first n below in
          absurd cc
      by_order false is =
          let above : first ≤ n = grind (arith, nat_tests, is) in
          inside (n - first) (omega (arith, above))

  pub hold_alike : HoldThose exact about first old count lists → Widen lists now → length new ≡ length old
      → ((r x : ℕ) → named r x ≡ false → passes (λ a. about a x) (slice_get new r) ≡ passes (λ a. about a x) (slice_get old r))
      → ((r x : ℕ) → named r x ≡ true → r < length old → x < length lists → has_node (list_at now x) (first + r) ≡ true)
      → HoldThose false about first new count now
  hold_alike hold widen long same put = record {
    as_long = widen.as_long ∙ hold.as_long;
    rise = λ k within. widen.rise k (subst (λ m. k < m) (sym hold.as_long) within) (hold.rise k within);
    all = held hold widen long same put;
    exactly = λ is k within. absurd cc;
  }

-- ---- recipes of the same categories
has_category_in : List ℕ → Option ℕ → Bool
has_category_in categories None = false
has_category_in categories (Some category) = holds categories category

category_is : (categories : List ℕ) (recipe : Option Recipe) → has_category categories recipe ≡ has_category_in categories (option_map (λ r. r.category) recipe)
unfolding has_category_in
category_is categories None = refl
category_is categories (Some recipe) = refl

slice_get_map : {A B : Type 0} (f : A → B) → (xs : List A) (n : ℕ) → slice_get (map f xs) n ≡ option_map f (slice_get xs n)
slice_get_map f [] n = refl
slice_get_map f (x ∷ xs) zero = refl
slice_get_map f (x ∷ xs) (suc n) = slice_get_map f xs n

same_category : (old new : List Recipe) → map (λ (r : Recipe). r.category) new ≡ map (λ (r : Recipe). r.category) old → (categories : List ℕ) (n : ℕ) → has_category categories (slice_get new n) ≡ has_category categories (slice_get old n)
same_category old new same categories n =
    category_is categories (slice_get new n)
    ∙ ap (has_category_in categories) (sym (slice_get_map (λ (r : Recipe). r.category) new n) ∙ ap (λ l. slice_get l n) same ∙ slice_get_map (λ (r : Recipe). r.category) old n)
    ∙ sym (category_is categories (slice_get old n))

same_alone : (old new : List Recipe) → map (λ (r : Recipe). r.category) new ≡ map (λ (r : Recipe). r.category) old → (n : ℕ) (kind : MachineKind) → crafts_alone new kind n ≡ crafts_alone old kind n
same_alone old new same n (Crafter speed categories fixed) = ap (λ b. is_recipe fixed n && b) (same_category old new same categories n)
same_alone old new same n (Drill speed categories fluid_box) = refl
same_alone old new same n (Pump fluid speed) = refl
same_alone old new same n (Boiler input output temperature) = refl
same_alone old new same n (Generator input effectivity per_tick max_temperature burns output) = refl
same_alone old new same n (BurnerGenerator output) = refl
same_alone old new same n (Solar production) = refl
same_alone old new same n Reactor = refl
same_alone old new same n (Lab inputs speed) = refl
same_alone old new same n (Beacon effectivity) = refl

recipes_as_long : (old new : Game) → KeepsGame old new → length new.recipes ≡ length old.recipes
recipes_as_long old new kept = sym (length-map new.recipes (λ (r : Recipe). r.category)) ∙ ap length kept.recipes ∙ length-map old.recipes (λ (r : Recipe). r.category)

-- ---- an index after edits
those_moved : {A : Type 0} (test : A → Bool) (first first' : ℕ) (xs xs' : List A) → first' ≡ first → xs' ≡ xs → those test first' xs' ≡ those test first xs
those_moved test first first' xs xs' at same = ap (λ n. those test n xs') at ∙ ap (those test first) same

lists_same : (of of' : ℕ → List NodeId) (count count' : ℕ) (lists : List (Vec NodeId Global)) → ((k : ℕ) → of' k ≡ of k) → count' ≡ count → AreLists of count lists → AreLists of' count' lists
lists_same of of' count count' lists same long are = record {
  as_long = are.as_long ∙ sym long;
  each = λ k within. are.each k (subst (λ n. k < n) long within) ∙ sym (same k);
}

module _ (old new : Game) (kept : KeepsGame old new) where
  item_count : length new.items ≡ length old.items
  item_count = ap length kept.items

  fluid_count : length new.fluids ≡ length old.fluids
  fluid_count = ap length kept.fluids

  recipe_count : length new.recipes ≡ length old.recipes
  recipe_count = recipes_as_long old new kept

  source_count : length new.sources ≡ length old.sources
  source_count = ap length kept.sources

  machine_count : length new.machines ≡ length old.machines
  machine_count = ap length kept.machines

  goods_same : good_count new ≡ good_count old
  goods_same = omega (arith, item_count, fluid_count)

  first_recipe_same : first_recipe new ≡ first_recipe old
  first_recipe_same = omega (arith, item_count, fluid_count)

  first_source_same : first_source new ≡ first_source old
  first_source_same = omega (arith, item_count, fluid_count, recipe_count)

  first_machine_same : first_machine new ≡ first_machine old
  first_machine_same = omega (arith, item_count, fluid_count, recipe_count, source_count)

  first_tech_same : first_tech new ≡ first_tech old
  first_tech_same = omega (arith, item_count, fluid_count, recipe_count, source_count, machine_count)

  leavers_same : (good : ℕ) → leavers new good ≡ leavers old good
  unfolding leavers
  leavers_same good = those_moved (λ (item : Item). is_good item.burnt good) 3 3 old.items new.items refl kept.items

  variants_same : (good : ℕ) → variants new good ≡ variants old good
  unfolding variants
  variants_same good = those_moved (λ (fluid : Fluid). is_good fluid.of good) (3 + length old.items) (3 + length new.items) old.fluids new.fluids (ap (λ n. 3 + n) item_count) kept.fluids

  machines_same : (test : Machine → Bool) → those test (first_machine new) new.machines ≡ those test (first_machine old) old.machines
  machines_same test = those_moved test (first_machine old) (first_machine new) old.machines new.machines first_machine_same kept.machines

  putters_same : (good : ℕ) → putters new good ≡ putters old good
  unfolding putters
  putters_same good = machines_same (λ machine. puts_out machine.kind good)

  placers_same : (number : ℕ) → placers new number ≡ placers old number
  unfolding placers
  placers_same number = those_moved (λ (item : Item). is_machine item.place number) 3 3 old.items new.items refl kept.items

  burning_same : burning_fluids new ≡ burning_fluids old
  unfolding burning_fluids
  burning_same = those_moved (λ (fluid : Fluid). is_none fluid.of && is_positive fluid.fuel_value) (3 + length old.items) (3 + length new.items) old.fluids new.fluids (ap (λ n. 3 + n) item_count) kept.fluids

  index_after : (index : Index) (recipe_makers unlockers : Vec (Vec NodeId Global) Global) → IsIndex old index
      → HoldThose false (λ recipe good. gives recipe.products good) (first_recipe old) new.recipes (good_count old) recipe_makers.items
      → HoldThose false (λ tech number. list_any (λ r. r.0 == number) tech.unlocks) (first_tech old) new.techs (length old.recipes) unlockers.items
      → IsIndex new (record index { recipe_makers = recipe_makers; unlockers = unlockers; exact = false })
  index_after index recipe_makers unlockers is makers_hold unlockers_hold = record {
    leavers = lists_same (leavers old) (leavers new) (good_count old) (good_count new) index.leavers.items leavers_same goods_same is.leavers;
    variants = lists_same (variants old) (variants new) (good_count old) (good_count new) index.variants.items variants_same goods_same is.variants;
    coolest_variants = subst (λ n. AreSorted new.fluids (3 + n) index.variants.items index.coolest_variants.items) (sym item_count)
        (subst (λ (fluids : List Fluid). AreSorted fluids (3 + length old.items) index.variants.items index.coolest_variants.items) (sym kept.fluids) is.coolest_variants);
    recipe_makers = subst (λ n. HoldThose false (λ (recipe : Recipe) good. gives recipe.products good) (first_recipe new) new.recipes n recipe_makers.items) (sym goods_same)
        (subst (λ n. HoldThose false (λ (recipe : Recipe) good. gives recipe.products good) n new.recipes (good_count old) recipe_makers.items) (sym first_recipe_same) makers_hold);
    source_makers = lists_same (λ good. those (λ source. gives source.products good) (first_source old) old.sources) (λ good. those (λ source. gives source.products good) (first_source new) new.sources) (good_count old) (good_count new)
        index.source_makers.items (λ good. those_moved (λ (source : Source). gives source.products good) (first_source old) (first_source new) old.sources new.sources first_source_same kept.sources) goods_same is.source_makers;
    putters = lists_same (putters old) (putters new) (good_count old) (good_count new) index.putters.items putters_same goods_same is.putters;
    unlockers = subst (λ n. HoldThose false (λ (tech : Tech) number. list_any (λ r. r.0 == number) tech.unlocks) (first_tech new) new.techs n unlockers.items) (sym recipe_count)
        (subst (λ n. HoldThose false (λ (tech : Tech) number. list_any (λ r. r.0 == number) tech.unlocks) n new.techs (length old.recipes) unlockers.items) (sym first_tech_same) unlockers_hold);
    placers = lists_same (placers old) (placers new) (length old.machines) (length new.machines) index.placers.items placers_same machine_count is.placers;
    crafters = λ category. is.crafters category ∙ sym (machines_same (λ machine. crafts_all_of machine.kind category));
    fixed = lists_same (λ number. those (λ machine. crafts_alone old.recipes machine.kind number) (first_machine old) old.machines) (λ number. those (λ machine. crafts_alone new.recipes machine.kind number) (first_machine new) new.machines)
        (length old.recipes) (length new.recipes) index.fixed.items
        (λ number. those_same (λ (machine : Machine). crafts_alone new.recipes machine.kind number) (λ (machine : Machine). crafts_alone old.recipes machine.kind number) (λ machine. same_alone old.recipes new.recipes kept.recipes number machine.kind) new.machines (first_machine new)
        ∙ machines_same (λ machine. crafts_alone old.recipes machine.kind number)) recipe_count is.fixed;
    drills = λ category. is.drills category ∙ sym (machines_same (λ machine. is_drill_of false machine.kind category));
    boxed_drills = λ category. is.boxed_drills category ∙ sym (machines_same (λ machine. is_drill_of true machine.kind category));
    fuels = λ category. is.fuels category ∙ sym (those_moved (λ (item : Item). is_fuel_of item.fuel category) 3 3 old.items new.items refl kept.items);
    burning = is.burning ∙ sym burning_same;
    labs = is.labs ∙ sym (machines_same (λ machine. is_lab machine.kind));
    takers = lists_same (λ good. those (λ machine. takes machine.kind good) (first_machine old) old.machines) (λ good. those (λ machine. takes machine.kind good) (first_machine new) new.machines) (length old.items) (length new.items)
        index.takers.items (λ good. machines_same (λ machine. takes machine.kind good)) item_count is.takers;
    taker_words = subst (λ n. AreWords n index.takers.items index.taker_words.items) (sym first_machine_same) is.taker_words;
    crafting = subst (λ (character : Character). AreMarks character.crafting index.crafting.items) (sym kept.character) is.crafting;
    mining = subst (λ (character : Character). AreMarks character.mining index.mining.items) (sym kept.character) is.mining;
  }

widen_hold : {A : Type 0} (about : A → ℕ → Bool) (first count : ℕ) (things : List A) (exact : Bool) (lists now : List (Vec NodeId Global)) → HoldThose exact about first things count lists → Widen lists now → HoldThose false about first things count now
widen_hold about first count things exact lists now hold widen = record {
  as_long = widen.as_long ∙ hold.as_long;
  rise = λ k within. widen.rise k (subst (λ m. k < m) (sym hold.as_long) within) (hold.rise k within);
  all = λ k n within there. widen.kept k n (hold.all k n within there);
  exactly = λ is k within. absurd cc;
}

-- with more in its lists it is an index still
pub index_widened : (g : Game) (index : Index) (recipe_makers unlockers : Vec (Vec NodeId Global) Global) → IsIndex g index → Widen index.recipe_makers.items recipe_makers.items → Widen index.unlockers.items unlockers.items
    → IsIndex g (record index { recipe_makers = recipe_makers; unlockers = unlockers; exact = false })
index_widened g index recipe_makers unlockers is first second =
    index_after g g (same_game g) index recipe_makers unlockers is
    (widen_hold (λ (recipe : Recipe) good. gives recipe.products good) (first_recipe g) (good_count g) g.recipes index.exact index.recipe_makers.items recipe_makers.items is.recipe_makers first)
    (widen_hold (λ (tech : Tech) number. list_any (λ r. r.0 == number) tech.unlocks) (first_tech g) (length g.recipes) g.techs index.exact index.unlockers.items unlockers.items is.unlockers second)

-- and with what edits name noted it is that of a game that they lead to
pub index_noted : (old new : Game) (shape : Shape) (edits : List Edit) (index : Index) (makers_before unlockers_before : List (Vec NodeId Global)) (recipe_makers unlockers : Vec (Vec NodeId Global) Global)
    → makers_before ≡ index.recipe_makers.items → unlockers_before ≡ index.unlockers.items → shape_of old ≡ shape → IsIndex old index → AlikeBut edits old new
    → Widen makers_before recipe_makers.items → Widen unlockers_before unlockers.items
    → ((r x : ℕ) → list_any (is_of_product r x) edits ≡ true → r < shape.recipes → x < length makers_before → has_node (list_at recipe_makers.items x) (first_of shape RecipeKind + r) ≡ true)
    → ((t r : ℕ) → list_any (is_of_unlock t r) edits ≡ true → t < shape.techs → r < length unlockers_before → has_node (list_at unlockers.items r) (first_of shape TechKind + t) ≡ true)
    → IsIndex new (record index { recipe_makers = recipe_makers; unlockers = unlockers; exact = false })
index_noted old new shape edits index makers_before unlockers_before recipe_makers unlockers makers_are unlockers_are at is alike first second makers_noted unlockers_noted =
    index_after old new alike.kept index recipe_makers unlockers is
    (hold_alike (λ (recipe : Recipe) good. gives recipe.products good) (λ r x. list_any (is_of_product r x) edits) (first_recipe old) (good_count old) old.recipes new.recipes index.exact index.recipe_makers.items recipe_makers.items is.recipe_makers
    (subst (λ (l : List (Vec NodeId Global)). Widen l recipe_makers.items) makers_are first) (recipes_as_long old new alike.kept) alike.products
    (λ r x named few small. subst (λ (s : Shape). has_node (list_at recipe_makers.items x) (first_of s RecipeKind + r) ≡ true) (sym at)
    (makers_noted r x named (subst (λ (s : Shape). r < s.recipes) at few) (subst (λ (l : List (Vec NodeId Global)). x < length l) (sym makers_are) small))))
    (hold_alike (λ (tech : Tech) number. list_any (λ r. r.0 == number) tech.unlocks) (λ t r. list_any (is_of_unlock t r) edits) (first_tech old) (length old.recipes) old.techs new.techs index.exact index.unlockers.items unlockers.items is.unlockers
    (subst (λ (l : List (Vec NodeId Global)). Widen l unlockers.items) unlockers_are second) alike.kept.techs alike.unlocks
    (λ t r named few small. subst (λ (s : Shape). has_node (list_at unlockers.items r) (first_of s TechKind + t) ≡ true) (sym at)
    (unlockers_noted t r named (subst (λ (s : Shape). t < s.techs) at few) (subst (λ (l : List (Vec NodeId Global)). r < length l) (sym unlockers_are) small))))

-- lists written into a vector of as many
pub written : (before now : List (Vec NodeId Global)) (lists : Vec (Vec NodeId Global) Global) → before ≡ lists.items → Widen before now → (with_items lists now).items ≡ now
written before now lists are widen = with_items_is lists now (widen.as_long ∙ ap length are ∙ sym lists.ok.0)

pub index_written : (old new : Game) (shape : Shape) (edits : List Edit) (index : Index) (makers_before makers_now unlockers_before unlockers_now : List (Vec NodeId Global))
    → makers_before ≡ index.recipe_makers.items → unlockers_before ≡ index.unlockers.items → shape_of old ≡ shape → IsIndex old index → AlikeBut edits old new
    → Widen makers_before makers_now → Widen unlockers_before unlockers_now
    → ((r x : ℕ) → list_any (is_of_product r x) edits ≡ true → r < shape.recipes → x < length makers_before → has_node (list_at makers_now x) (first_of shape RecipeKind + r) ≡ true)
    → ((t r : ℕ) → list_any (is_of_unlock t r) edits ≡ true → t < shape.techs → r < length unlockers_before → has_node (list_at unlockers_now r) (first_of shape TechKind + t) ≡ true)
    → IsIndex new (record index { recipe_makers = with_items index.recipe_makers makers_now; unlockers = with_items index.unlockers unlockers_now; exact = false })
index_written old new shape edits index makers_before makers_now unlockers_before unlockers_now makers_are unlockers_are at is alike first second makers_noted unlockers_noted =
    let makers_is = written makers_before makers_now index.recipe_makers makers_are first in
    let unlockers_is = written unlockers_before unlockers_now index.unlockers unlockers_are second in
    index_noted old new shape edits index makers_before unlockers_before (with_items index.recipe_makers makers_now) (with_items index.unlockers unlockers_now) makers_are unlockers_are at is alike
    (subst (Widen makers_before) (sym makers_is) first) (subst (Widen unlockers_before) (sym unlockers_is) second)
    (λ r x named few small. ap (λ l. has_node (list_at l x) (first_of shape RecipeKind + r)) makers_is ∙ makers_noted r x named few small)
    (λ t r named few small. ap (λ l. has_node (list_at l r) (first_of shape TechKind + t)) unlockers_is ∙ unlockers_noted t r named few small)

pub on_ok : {T E : Type 0} {P Q : Type 0} (r : Result T E) → (P → Q) → OnOk r P → OnOk r Q
on_ok (Ok value) f holds = f holds
on_ok (Err fault) f holds = tt
