-- A game of some items, recipes and machines alone is sound where these are; and so is a machine that crafts.
use Rattle.std.specs.Prelude.{◌≡◌, ℕ, ◌+◌, ◌≤◌, ◌<◌, All, List, [], ◌∷◌, None, length, slice_index_or}
use Rattle.std.proofs.Common.{refl, sym, subst, arith, ◌∙◌, zero, suc}
use Rattle.fractions.specs.Fraction.{Fraction, zero_fraction, ◌<ʳ◌}
use Rattle.game_types.specs.declared.goods.Fluid.{Fluid}
use Rattle.game_types.specs.declared.machinery.Machine.{Machine}
use Rattle.game_types.specs.declared.machinery.MachineKind.{MachineKind}
use Rattle.game_types.specs.declared.machinery.MachineKind.TheVariants.{Crafter}
use Rattle.game_types.specs.declared.games.Game.{Game}
use Rattle.game_types.specs.Sound.{AreApart, IsSound, IsSoundBurning, IsSoundEnergy, IsSoundFluid, IsSoundItem, IsSoundKind, IsSoundMachine, IsSoundRecipe, IsSoundSource, IsSoundTech}

none_apart : AreApart []
none_apart i j one other base at_i at_j of_i of_j same = absurd (cc)

all_of_none : {A : Type 0} (P : A → Type 0) (xs : List A) → xs ≡ [] → All P xs
all_of_none {A = A} P xs none = subst (λ (list : List A). All P list) (sym none) (λ k d below. absurd (omega (arith, below)))

pub all_of_one : {A : Type 0} (P : A → Type 0) (xs : List A) (x : A) → xs ≡ x ∷ [] → P x → All P xs
all_of_one {A = A} P xs x one holds = subst (λ (list : List A). All P list) (sym one) (λ k d below. at_place k d below)
  where
    at_place : (k : ℕ) (d : A) → k < 1 → P (slice_index_or (x ∷ []) k d)
    at_place zero d below = holds
    at_place (suc k) d below = absurd (omega (arith, below))

few : (a b c d e f : ℕ) → a ≡ 1 → b ≡ 0 → c ≡ 1 → d ≡ 0 → e ≡ 1 → f ≡ 0 → 3 + a + b + c + d + e + f ≤ 131_072
few a b c d e f p q r s t u = omega (arith, p, q, r, s, t, u)

none_long : {A : Type 0} (xs : List A) → xs ≡ [] → length xs ≡ 0
none_long {A = A} xs none = subst (λ (list : List A). length list ≡ 0) (sym none) refl

pub alone_sound : (g : Game) → g.fluids ≡ [] → g.sources ≡ [] → g.techs ≡ []
    → length g.items ≡ 1 → length g.recipes ≡ 1 → length g.machines ≡ 1
    → length g.item_names ≡ 1 → length g.recipe_names ≡ 1 → length g.machine_names ≡ 1
    → length g.fluid_names ≡ 0 → length g.source_names ≡ 0 → length g.tech_names ≡ 0
    → All (IsSoundItem g) g.items → All (IsSoundRecipe g) g.recipes → All (IsSoundMachine g) g.machines
    → IsSound g
alone_sound g fluids sources techs i r m ni nr nm nf ns nt items recipes machines = record {
  item_names = ni ∙ sym i;
  fluid_names = nf ∙ sym (none_long g.fluids fluids);
  recipe_names = nr ∙ sym r;
  source_names = ns ∙ sym (none_long g.sources sources);
  machine_names = nm ∙ sym m;
  tech_names = nt ∙ sym (none_long g.techs techs);
  nodes = few (length g.items) (length g.fluids) (length g.recipes) (length g.sources) (length g.machines) (length g.techs) i (none_long g.fluids fluids) r (none_long g.sources sources) m (none_long g.techs techs);
  items = items;
  fluids = all_of_none (IsSoundFluid g) g.fluids fluids;
  apart = subst (λ (list : List Fluid). AreApart list) (sym fluids) none_apart;
  recipes = recipes;
  sources = all_of_none (IsSoundSource g) g.sources sources;
  machines = machines;
  techs = all_of_none (IsSoundTech g) g.techs techs;
}

pub crafter_sound : (g : Game) (m : Machine) (speed : Fraction) (categories : List ℕ) → m.kind ≡ Crafter speed categories None → m.slots ≡ 0 → zero_fraction <ʳ speed → IsSoundEnergy g m.energy → IsSoundMachine g m
crafter_sound g m speed categories kind slots above energy = record {
  kind = subst (λ (k : MachineKind). IsSoundKind g k) (sym kind) (above, tt);
  energy = energy;
  burning = subst (λ (k : MachineKind). IsSoundBurning k m.energy) (sym kind) tt;
  slots = omega (arith, slots);
}
