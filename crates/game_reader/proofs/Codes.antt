-- A fault of a tree is none of JSON.
use Rattle.std.proofs.Common.{◌≡◌, ◌∙◌, ℕ, List, [], ◌∷◌, Option, Some, None, Ok, Err, Result, Bool, true, false, ap, subst}
use Rattle.std.specs.Prelude.{if◌then◌else◌, nat_lt}
use Rattle.std.specs.Str.{is_utf8}
use Rattle.std.specs.Prelude.{IfOk, MatchResult, ◌≢◌}
use Rattle.json_text.specs.Kept.{Kept}
use Rattle.json_text.specs.Accepted.{IsAccepted}
use Rattle.prototype_fields.specs.declared.fault.FieldCode.{FieldCode}
use Rattle.prototype_fields.specs.declared.fault.FieldCode.TheVariants as f
use Rattle.prototype_fields.specs.Objects.{Member, as_object, value_at}
use Rattle.prototype_fields.specs.Values.{Reading, seen_as}
use Rattle.craft_reader.specs.declared.fault.DumpCode.{DumpCode}
use Rattle.craft_reader.specs.declared.fault.DumpCode.TheVariants as d
use Rattle.craft_reader.specs.declared.fault.DumpFault.{DumpFault}
use Rattle.craft_reader.specs.Faults.{GivesDump, code_of, fault_in, in_prototype}
use Rattle.dump_reader.specs.declared.draft.Draft.{Draft}
use Rattle.machine_reader.specs.declared.sections.Section.{Section}
use Rattle.machine_reader.specs.declared.sections.Section.TheVariants as section
use Rattle.dump_reader.specs.Draft.{RawGame, draft_seen, empty_game}
use Rattle.dump_reader.specs.Dump.{◌▷◌, each_after, game_in, member_of, members_in, named_of, no_object, prototype_of, raw_game, section_in, section_of, sections}
use Rattle.machine_reader.specs.Sections.{section_text}
use Rattle.game_types.specs.declared.games.Game.{Game}
use Rattle.game_types.specs.Sound.{IsSound}
use Rattle.plan_base.specs.Shape.{node_count}
use Rattle.game_types.specs.Nodes.{node_limit, shape_of}
use Rattle.rocket_launches.specs.Launches.{flight_beyond, flight_taken, launch_fault, unless_some, with_launches}
use Rattle.rocket_launches.specs.declared.silos.Flight.{Flight}
use Rattle.fluid_variants.specs.Naming.{first_twice}
use Rattle.fluid_variants.specs.Split.{split}
use Rattle.fluid_variants.specs.Variants.{first_variant_name, too_many_variants, unless_named, with_variants, within_limit}
use Rattle.game_reader.specs.Games.{DumpGives, HasDraft, HasFault, HasFaultOf, HasGame, finished, game_of, resolved}
use Rattle.game_reader.specs.Keys.{dump_wishes}
use Rattle.game_reader.specs.Links.{each_linked, families_of, linked, linked_item, linked_machine, linked_recipe, linked_source, linked_tech}

abbrev pub IsOfTree : DumpCode → Type 0
IsOfTree (d.Json fault) = ⊥
IsOfTree code = Unit {0}

abbrev pub FaultIsOfTree : {A : Type 0} → Result A DumpFault → Type 0
FaultIsOfTree (Ok value) = Unit {0}
FaultIsOfTree (Err fault) = IsOfTree fault.code

code_of_tree : (code : FieldCode) → IsOfTree (code_of code)
code_of_tree f.Missing = tt
code_of_tree f.WrongKind = tt
code_of_tree f.UnknownName = tt
code_of_tree f.Number = tt
code_of_tree f.Energy = tt
code_of_tree f.Twice = tt
code_of_tree f.Limit = tt
code_of_tree f.NoMemory = tt

placed : {A : Type 0} (section name : List ℕ) (read : Reading A) → FaultIsOfTree (in_prototype section name read)
unfolding fault_in
placed section name (Ok value) = tt
placed section name (Err fault) = code_of_tree fault.code

no_prototype : (section : List ℕ) → IsOfTree (fault_in section [] no_object).code
unfolding fault_in
no_prototype section = tt

chained : {A B : Type 0} (r : Result A DumpFault) (next : A → Result B DumpFault) → FaultIsOfTree r → ((value : A) → FaultIsOfTree (next value)) → FaultIsOfTree (r ▷ next)
chained (Ok value) next first later = later value
chained (Err fault) next first later = first

-- ---- the first pass
each_one : {X G : Type 0} (read : X → G → Result G DumpFault) → ((x : X) (g : G) → FaultIsOfTree (read x g)) → (xs : List X) (g : G) → FaultIsOfTree (each_after read xs g)
each_one read one [] g = tt
each_one read one (x ∷ xs) g = chained (read x g) (λ h. each_after read xs h) (one x g) (λ h. each_one read one xs h)

member : (section : Section) (m : Member) (g : RawGame) → FaultIsOfTree (member_of section m g)
unfolding member_of named_of
member section m g = by_test (is_utf8 m.0)
  where
    by_test : (test : Bool) → FaultIsOfTree (if test then in_prototype (section_text section) m.0 (prototype_of section m.0 m.1 g) else Err (fault_in (section_text section) [] no_object))
    by_test true = placed (section_text section) m.0 (prototype_of section m.0 m.1 g)
    by_test false = no_prototype (section_text section)

one_section : (top : List Member) (section : Section) (g : RawGame) → FaultIsOfTree (section_of top section g)
unfolding section_of
one_section top section g = by_value (value_at (section_text section) top)
  where
    by_members : (members : Option (List Member)) → FaultIsOfTree (members_in section members g)
    by_members None = no_prototype (section_text section)
    by_members (Some members) = each_one (member_of section) (member section) members g

    by_value : (value : Option Kept) → FaultIsOfTree (section_in section value g)
    by_value None = tt
    by_value (Some value) = by_members (as_object value)

pub raw_game_faults : (tree : Kept) → FaultIsOfTree (raw_game tree)
unfolding raw_game
raw_game_faults tree = by_top (as_object tree)
  where
    by_top : (top : Option (List Member)) → FaultIsOfTree (game_in top)
    by_top None = no_prototype []
    by_top (Some members) = each_one (section_of members) (one_section members) sections empty_game

-- ---- the second pass
each_prototype : {A B : Type 0} (section_of : A → Section) (link : A → Reading B) → (raws : List A) (names : List (List ℕ)) → FaultIsOfTree (each_linked section_of link raws names)
each_prototype section_of link [] names = tt
each_prototype section_of link (raw ∷ raws) [] = tt
each_prototype section_of link (raw ∷ raws) (name ∷ names) =
    chained (in_prototype (section_text (section_of raw)) name (link raw)) (λ first. each_linked section_of link raws names ▷ λ rest. Ok (first ∷ rest)) (placed (section_text (section_of raw)) name (link raw))
    (λ first. chained (each_linked section_of link raws names) (λ rest. Ok (first ∷ rest)) (each_prototype section_of link raws names) (λ rest. tt))

linked_faults : (g : RawGame) → FaultIsOfTree (linked g)
unfolding linked
linked_faults g =
    chained (each_linked (λ item. item.section) (linked_item (families_of g)) g.items g.item_names) _ (each_prototype (λ item. item.section) (linked_item (families_of g)) g.items g.item_names)
    (λ items. chained (each_linked (λ _. section.Recipe) (linked_recipe (families_of g)) g.recipes g.recipe_names) _ (each_prototype (λ _. section.Recipe) (linked_recipe (families_of g)) g.recipes g.recipe_names)
    (λ recipes. chained (each_linked (λ source. source.section) (linked_source (families_of g)) g.sources g.source_names) _ (each_prototype (λ source. source.section) (linked_source (families_of g)) g.sources g.source_names)
    (λ sources. chained (each_linked (λ machine. machine.section) (linked_machine (families_of g)) g.machines g.machine_names) _ (each_prototype (λ machine. machine.section) (linked_machine (families_of g)) g.machines g.machine_names)
    (λ machines. chained (each_linked (λ _. section.Technology) (linked_tech (families_of g)) g.techs g.tech_names) _ (each_prototype (λ _. section.Technology) (linked_tech (families_of g)) g.techs g.tech_names) (λ techs. tt)))))

-- ---- what comes after it
launch_fault_of_tree : (g : Game) (code : FieldCode) (flight : Option Flight) → FaultIsOfTree (unless_some g code flight)
unfolding launch_fault fault_in
launch_fault_of_tree g code None = tt
launch_fault_of_tree g code (Some flight) = code_of_tree code

launches_faults : (g : Game) → FaultIsOfTree (with_launches g)
unfolding with_launches
launches_faults g =
    chained (unless_some g f.Twice (flight_taken g)) _ (launch_fault_of_tree g f.Twice (flight_taken g))
    (λ u. chained (unless_some g f.Limit (flight_beyond g)) _ (launch_fault_of_tree g f.Limit (flight_beyond g)) (λ v. tt))

name_fault_of_tree : (name : Option (List ℕ)) → FaultIsOfTree (unless_named name)
unfolding fault_in
name_fault_of_tree None = tt
name_fault_of_tree (Some name) = tt

limit_fault_of_tree : (g : Game) → FaultIsOfTree (within_limit g)
unfolding within_limit
limit_fault_of_tree g = by_test (nat_lt node_limit (node_count (shape_of g)))
  where
    by_test : (test : Bool) → FaultIsOfTree (if test then Err too_many_variants else Ok g)
    by_test true = tt
    by_test false = tt

variants_faults : (g : Game) → FaultIsOfTree (with_variants g)
unfolding with_variants
variants_faults g =
    chained (unless_named (first_variant_name g)) _ (name_fault_of_tree (first_variant_name g))
    (λ u. chained (within_limit (split g)) _ (limit_fault_of_tree (split g))
    (λ new. chained (unless_named (first_twice [] new.fluid_names)) _ (name_fault_of_tree (first_twice [] new.fluid_names)) (λ v. tt)))

resolved_faults : (g : RawGame) → FaultIsOfTree (resolved g)
unfolding resolved finished
resolved_faults g = chained (linked g) _ (linked_faults g) (λ game. chained (with_launches game) _ (launches_faults game) variants_faults)

-- ---- of a dump
pub has_fault : (dump : List ℕ) (fault : DumpFault) → (code : DumpCode) → IsOfTree code → DumpGives dump (Err fault) → HasFaultOf dump fault code
has_fault dump fault d.Missing of_tree gives = gives
has_fault dump fault d.WrongKind of_tree gives = gives
has_fault dump fault d.UnknownName of_tree gives = gives
has_fault dump fault d.Number of_tree gives = gives
has_fault dump fault d.Energy of_tree gives = gives
has_fault dump fault d.Twice of_tree gives = gives
has_fault dump fault d.Limit of_tree gives = gives
has_fault dump fault (d.Json json) of_tree gives = absurd of_tree
has_fault dump fault d.NoMemory of_tree gives = gives

pub first_fault : (dump : List ℕ) (tree : Kept) (fault : DumpFault) → raw_game tree ≡ Err fault → (game_of tree ≡ Err fault → DumpGives dump (Err fault)) → HasFaultOf dump fault fault.code
unfolding game_of
first_fault dump tree fault is gives = has_fault dump fault fault.code (subst (λ (r : Result RawGame DumpFault). FaultIsOfTree r) is (raw_game_faults tree)) (gives (ap (λ r. r ▷ resolved) is))

pub second_fault : (dump : List ℕ) (tree : Kept) (draft : RawGame) (fault : DumpFault) → raw_game tree ≡ Ok draft → resolved draft ≡ Err fault → (game_of tree ≡ Err fault → DumpGives dump (Err fault)) → HasFaultOf dump fault fault.code
unfolding game_of
second_fault dump tree draft fault first is gives = has_fault dump fault fault.code (subst (λ (r : Result Game DumpFault). FaultIsOfTree r) is (resolved_faults draft)) (gives (ap (λ r. r ▷ resolved) first ∙ is))

-- ---- what the calls answer
pub draft_answered : (dump : List ℕ) (tree : Kept) → IsAccepted dump_wishes dump tree → (answer : Result Draft DumpFault) → GivesDump (raw_game tree) (seen_as draft_seen answer)
    → MatchResult answer (λ draft. HasDraft dump (draft_seen draft)) (λ fault. fault.code ≢ d.NoMemory → HasFault dump fault)
draft_answered dump tree accepted (Ok draft) gives = record { tree = tree; accepted = accepted; draft_is = gives }
draft_answered dump tree accepted (Err fault) gives = λ memory. first_fault dump tree fault (gives memory) (λ is. record { tree = tree; accepted = accepted; given_is = is })

game_is : (tree : Kept) (draft : RawGame) (given : Result Game DumpFault) → raw_game tree ≡ Ok draft → resolved draft ≡ given → game_of tree ≡ given
unfolding game_of
game_is tree draft given first is = ap (λ r. r ▷ resolved) first ∙ is

pub game_answered : (dump : List ℕ) (draft : RawGame) → HasDraft dump draft → (answer : Result Game DumpFault) → GivesDump (resolved draft) answer
    → MatchResult answer (HasGame dump) (λ fault. fault.code ≢ d.NoMemory → HasFault dump fault)
game_answered dump draft had (Ok game) gives = record { tree = had.tree; accepted = had.accepted; given_is = game_is had.tree draft (Ok game) had.draft_is gives }
game_answered dump draft had (Err fault) gives =
    λ memory. second_fault dump had.tree draft fault had.draft_is (gives memory) (λ is. record { tree = had.tree; accepted = had.accepted; given_is = is })

-- what is said of an answer holds of it as it is given
abbrev pub IsGivenAs : Result Game DumpFault → Result Game DumpFault → Type 0
IsGivenAs answer given = MatchResult given (λ game. answer ≡ Ok game) (λ fault. fault.code ≢ d.NoMemory → answer ≡ Err fault)

pub settled_answered : (dump : List ℕ) (answer given : Result Game DumpFault) → MatchResult answer (HasGame dump) (λ fault. fault.code ≢ d.NoMemory → HasFault dump fault)
    → IsGivenAs answer given → MatchResult given (HasGame dump) (λ fault. fault.code ≢ d.NoMemory → HasFault dump fault)
settled_answered dump answer (Ok game) holds same = subst (λ (r : Result Game DumpFault). MatchResult r (HasGame dump) (λ fault. fault.code ≢ d.NoMemory → HasFault dump fault)) same holds
settled_answered dump answer (Err fault) holds same =
    λ memory. subst (λ (r : Result Game DumpFault). MatchResult r (HasGame dump) (λ fault. fault.code ≢ d.NoMemory → HasFault dump fault)) (same memory) holds memory

pub settled_sound : (answer given : Result Game DumpFault) → IfOk answer IsSound → IsGivenAs answer given → IfOk given IsSound
settled_sound answer (Ok game) holds same = subst (λ (r : Result Game DumpFault). IfOk r IsSound) same holds
settled_sound answer (Err fault) holds same = tt
