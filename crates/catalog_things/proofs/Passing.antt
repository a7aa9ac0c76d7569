-- Rows with nothing but a machine and an activity, and nodes that pass a test, put into a list number by number.
use Rattle.std.proofs.Common.{◌≡◌, ◌∙◌, ℕ, ◌+◌, ◌-◌, ◌<◌, suc, Bool, false, true, List, [], ◌∷◌, ◌++◌, map, refl, sym, ap, arith}
use Rattle.std.specs.Prelude.{filter, if◌then◌else◌}
use Rattle.std.specs.List.{range_with_len}
use Rattle.std.proofs.lemmas.List.{append_assoc}
use Rattle.plan_base.specs.declared.ids.NodeId.{NodeId}
use Rattle.plan_base.specs.declared.ids.EntityId.{EntityId}
use Rattle.std.specs.Prelude.{length}
use Rattle.std.proofs.lemmas.List.Elements.{All-nil}
use Rattle.game_types.specs.declared.games.Game.{Game}
use Rattle.game_types.specs.declared.setups.Activity.{Activity}
use Rattle.game_types.specs.Sound.{IsSoundActivity, IsSoundSetup}
use Rattle.graph_store.specs.Members.{node}
use Rattle.catalog_things.specs.Choices.{bare_row, passing}

pub bare_sound : (g : Game) (machine : EntityId) (activity : Activity) → machine.0 < length g.machines → IsSoundActivity g activity → IsSoundSetup g (bare_row machine activity)
bare_sound g machine activity within sound = record {
  activity = sound;
  machine = within;
  fuel = tt;
  modules = All-nil _;
  beacons = All-nil _;
  at = All-nil _;
}

-- the first of so many numbers, and the others
one-more : (test : ℕ → Bool) (first n count : ℕ) → (if test n then node (first + n) ∷ [] else []) ++ passing test first (n + 1) count ≡ passing test first n (suc count)
one-more test first n count =
    elim (test n) as (λ b. (if b then node (first + n) ∷ [] else []) ++ passing test first (n + 1) count
    ≡ map (λ k. node (first + k)) (if b then n ∷ filter test (range_with_len (n + 1) count) else filter test (range_with_len (n + 1) count))) [ true ↦ refl | false ↦ refl ]

pub passing-more : (test : ℕ → Bool) (first n end : ℕ) (nodes more all : List NodeId) → n < end → more ≡ nodes ++ (if test n then node (first + n) ∷ [] else [])
    → nodes ++ passing test first n (end - n) ≡ all → more ++ passing test first (n + 1) (end - (n + 1)) ≡ all
passing-more test first n end nodes more all inside e h =
    let left : end - n ≡ suc (end - (n + 1)) = omega (arith, inside) in
    ap (λ l. l ++ passing test first (n + 1) (end - (n + 1))) e
    ∙ (append_assoc nodes _ (passing test first (n + 1) (end - (n + 1)))
    ∙ (ap (λ l. nodes ++ l) (one-more test first n (end - (n + 1)))
    ∙ (ap (λ (k : ℕ). nodes ++ passing test first n k) (sym left) ∙ h)))
