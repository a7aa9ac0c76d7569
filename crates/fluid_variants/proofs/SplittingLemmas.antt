-- A game with the records of its fluids, or its first fault.
use Rattle.std.proofs.Common.{◌≡◌, ◌∙◌, ◌<◌, ◌≤◌, ℕ, Bool, true, false, List, [], Option, Some, None, Result, Ok, Err, length, refl, sym, ap, subst, arith}
use Rattle.std.specs.Prelude.{IfOk, Vec, if◌then◌else◌, is_some, nat_lt, not, position, slice_get}
use Rattle.std.specs.Global.{Global}
use Rattle.std.proofs.lemmas.Bool.Decides.{nat_tests}
use Rattle.std.proofs.lemmas.List.Quantifiers.{position-Some}
use Rattle.fractions.specs.Fraction.{Fraction}
use Rattle.plan_base.specs.Shape.{node_count}
use Rattle.name_table.specs.Names.{place_of}
use Rattle.craft_reader.specs.Faults.{GivesDump}
use Rattle.craft_reader.specs.declared.fault.DumpFault.{DumpFault}
use Rattle.dump_reader.specs.Dump.{◌▷◌}
use Rattle.game_types.specs.Nodes.{node_limit, shape_of}
use Rattle.game_types.specs.Sound.{IsSound}
use Rattle.game_types.specs.declared.games.Game.{Game}
use Rattle.fluid_variants.specs.Contents.{contents}
use Rattle.fluid_variants.specs.Naming.{first_twice, lowest_place}
use Rattle.fluid_variants.specs.Records.{all_names, all_variant_names}
use Rattle.fluid_variants.specs.Split.{split}
use Rattle.fluid_variants.specs.Temperatures.{temperature_lists}
use Rattle.fluid_variants.specs.Variants.{first_variant_name, name_fault, too_many_variants, unless_named, with_variants, within_limit}
use Rattle.fluid_variants.proofs.Contents.{length_contents}
use Rattle.fluid_variants.proofs.NameLemmas.{first_at, first_nowhere, lowest_is}
use Rattle.fluid_variants.proofs.Rising.{length_lists}
use Rattle.fluid_variants.proofs.SoundSplit.{split_sound}

pub few_from : (nodes : ℕ) → true ≡ not (nat_lt node_limit nodes) → nodes ≤ node_limit
few_from nodes is = by_test (nat_lt node_limit nodes) refl is
  where
    by_test : (b : Bool) → nat_lt node_limit nodes ≡ b → true ≡ not b → nodes ≤ node_limit
    by_test true test is = absurd (cc)
    by_test false test is = grind (arith, nat_tests, test)

many_from : (nodes : ℕ) → false ≡ not (nat_lt node_limit nodes) → nat_lt node_limit nodes ≡ true
many_from nodes is = by_test (nat_lt node_limit nodes) is
  where
    by_test : (b : Bool) → false ≡ not b → b ≡ true
    by_test true is = refl
    by_test false is = absurd (cc)

-- ---- faults
pub too_many : (g : Game) → first_variant_name g ≡ None → false ≡ not (nat_lt node_limit (node_count (shape_of (split g)))) → with_variants g ≡ Err too_many_variants
unfolding with_variants within_limit
too_many g free many = let test = many_from (node_count (shape_of (split g))) many in rw (free, test) refl

few_test : (nodes : ℕ) → true ≡ not (nat_lt node_limit nodes) → nat_lt node_limit nodes ≡ false
few_test nodes is = by_test (nat_lt node_limit nodes) is
  where
    by_test : (b : Bool) → true ≡ not b → b ≡ false
    by_test true is = absurd (cc)
    by_test false is = refl

names_are : (g : Game) (lists : List (Vec Fraction Global)) (names : List (List ℕ)) → contents lists ≡ temperature_lists g → names ≡ all_names g.fluid_names (contents lists) → names ≡ (split g).fluid_names
unfolding split
names_are g lists names are is = is ∙ ap (all_names g.fluid_names) are

pub one_twice : (g : Game) (lists : List (Vec Fraction Global)) (names : List (List ℕ)) (name : List ℕ) → contents lists ≡ temperature_lists g → names ≡ all_names g.fluid_names (contents lists) → first_variant_name g ≡ None
    → true ≡ not (nat_lt node_limit (node_count (shape_of (split g)))) → first_twice [] names ≡ Some name → with_variants g ≡ Err (name_fault name)
unfolding with_variants within_limit
one_twice g lists names name are is free few twice =
    let test = few_test (node_count (shape_of (split g))) few in
    let there : first_twice [] (split g).fluid_names ≡ Some name = ap (first_twice []) (sym (names_are g lists names are is)) ∙ twice in
    rw (free, test, there) refl

pub all_split : (g new : Game) (lists : List (Vec Fraction Global)) (names : List (List ℕ)) → contents lists ≡ temperature_lists g → names ≡ all_names g.fluid_names (contents lists) → first_variant_name g ≡ None
    → true ≡ not (nat_lt node_limit (node_count (shape_of (split g)))) → first_twice [] names ≡ None → new ≡ split g → with_variants g ≡ Ok new
unfolding with_variants within_limit
all_split g new lists names are is free few once new_is =
    let test = few_test (node_count (shape_of (split g))) few in
    let none : first_twice [] (split g).fluid_names ≡ None = ap (first_twice []) (sym (names_are g lists names are is)) ∙ once in
    rw (free, test, none) (ap Ok (sym new_is))

-- ---- the first fluid that has the name of a variant
place_is : (g : Game) (lists : List (Vec Fraction Global)) (place : Option ℕ) → contents lists ≡ temperature_lists g → place ≡ lowest_place g.fluid_names (all_variant_names g.fluid_names (contents lists))
    → position (λ name. is_some (place_of (all_variant_names g.fluid_names (temperature_lists g)) name)) g.fluid_names ≡ place
place_is g lists place are is =
    sym (is ∙ ap (λ ls. lowest_place g.fluid_names (all_variant_names g.fluid_names ls)) are ∙ lowest_is g.fluid_names (all_variant_names g.fluid_names (temperature_lists g)))

pub none_named : (g : Game) (lists : List (Vec Fraction Global)) → contents lists ≡ temperature_lists g → None ≡ lowest_place g.fluid_names (all_variant_names g.fluid_names (contents lists)) → first_variant_name g ≡ None
unfolding first_variant_name
none_named g lists are is = first_nowhere (λ name. is_some (place_of (all_variant_names g.fluid_names (temperature_lists g)) name)) g.fluid_names (place_is g lists None are is)

pub one_within : (g : Game) (lists : List (Vec Fraction Global)) (place : ℕ) → contents lists ≡ temperature_lists g → Some place ≡ lowest_place g.fluid_names (all_variant_names g.fluid_names (contents lists)) → place < length g.fluid_names
one_within g lists place are is = (position-Some (λ name. is_some (place_of (all_variant_names g.fluid_names (temperature_lists g)) name)) g.fluid_names place [] (place_is g lists (Some place) are is)).0

pub one_named : (g : Game) (lists : List (Vec Fraction Global)) (place : ℕ) (name : List ℕ) → contents lists ≡ temperature_lists g → Some place ≡ lowest_place g.fluid_names (all_variant_names g.fluid_names (contents lists)) → slice_get g.fluid_names place ≡ Some name
    → with_variants g ≡ Err (name_fault name)
unfolding with_variants first_variant_name
one_named g lists place name are is at =
    let found = first_at (λ other. is_some (place_of (all_variant_names g.fluid_names (temperature_lists g)) other)) g.fluid_names place name (place_is g lists (Some place) are is) at in
    rw found refl

pub as_many : (g : Game) (lists : List (Vec Fraction Global)) → IsSound g → contents lists ≡ temperature_lists g → length lists ≡ length g.fluid_names
as_many g lists sound are = sym (length_contents lists) ∙ ap length are ∙ length_lists g ∙ sym sound.fluid_names

-- ---- soundness
with_variants_sound : (g : Game) → IsSound g → IfOk (with_variants g) IsSound
unfolding with_variants within_limit
with_variants_sound g sound = by_name (first_variant_name g) (nat_lt node_limit (node_count (shape_of (split g)))) (first_twice [] (split g).fluid_names) refl
  where
    by_name : (named : Option (List ℕ)) (many : Bool) (twice : Option (List ℕ)) → nat_lt node_limit (node_count (shape_of (split g))) ≡ many
        → IfOk (unless_named named ▷ λ _. (if many then Err too_many_variants else Ok (split g)) ▷ λ new. unless_named (first_twice [] new.fluid_names) ▷ λ _. Ok new) IsSound
    by_name (Some name) many twice is = tt
    by_name None true twice is = tt
    by_name None false twice is = by_twice (first_twice [] (split g).fluid_names)
      where
        by_twice : (found : Option (List ℕ)) → IfOk (unless_named found ▷ λ _. Ok (split g)) IsSound
        by_twice (Some name) = tt
        by_twice None = split_sound g sound (grind (arith, nat_tests, is))

pub answer_sound : (g : Game) → IsSound g → (answer : Result Game DumpFault) → GivesDump (with_variants g) answer → IfOk answer IsSound
answer_sound g sound (Ok new) gives = subst (λ (r : Result Game DumpFault). IfOk r IsSound) gives (with_variants_sound g sound)
answer_sound g sound (Err fault) gives = tt
