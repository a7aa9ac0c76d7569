-- What the first pass over a dump leaves is sound: each prototype keeps it so, and it begins with the special nodes alone.
use Rattle.std.specs.Prelude.{◌≡◌, ℕ, Bool, true, false, List, [], ◌∷◌, Option, None, Some, IfOk, Result, Ok, Err, if◌then◌else◌}
use Rattle.std.specs.Str.{is_utf8}
use Rattle.std.proofs.Common.{◌∙◌, ap, subst, sym}
use Rattle.json_text.specs.Kept.{Kept}
use Rattle.prototype_fields.specs.Objects.{Member, as_object, value_at}
use Rattle.prototype_fields.specs.Values.{Reading, object_element}
use Rattle.prototype_fields.specs.declared.names.Within.TheVariants as within
use Rattle.prototype_fields.proofs.Yields.{Yields, whatever}
use Rattle.craft_reader.specs.declared.fault.DumpFault.{DumpFault}
use Rattle.craft_reader.specs.Faults.{fault_in, in_prototype}
use Rattle.dump_reader.specs.declared.draft.Draft.{Draft}
use Rattle.machine_reader.specs.declared.sections.Section.{Section}
use Rattle.machine_reader.specs.Sections.{section_text}
use Rattle.dump_reader.specs.Draft.{RawGame, draft_seen, empty_game}
use Rattle.dump_reader.specs.Dump.{◌▷◌, each_after, no_object, prototype_of, named_of, member_of, members_in, section_in, section_of, sections, game_in, raw_game}
use Rattle.dump_reader.specs.Sound.{IsSoundDraft}
use Rattle.dump_reader.proofs.SoundDraft.{prototype_sound, empty_sound}

-- ---- one thing after another
after : {A B : Type 0} {P : A → Type 0} {Q : B → Type 0} {r : Result A DumpFault} {next : A → Result B DumpFault} → Yields r P → ((value : A) → P value → Yields (next value) Q) → Yields (r ▷ next) Q
after {r = Ok value} h more = more value h.holds
after {r = Err fault} h more = record { holds = tt }

each_keeps : {X G : Type 0} {P : G → Type 0} (read : X → G → Result G DumpFault) → ((x : X) (g : G) → P g → Yields (read x g) P) → (xs : List X) (g : G) → P g → Yields (each_after read xs g) P
each_keeps read keeps [] g h = record { holds = h }
each_keeps read keeps (x ∷ xs) g h = after (keeps x g h) λ next it. each_keeps read keeps xs next it

placed_yields : {A : Type 0} {P : A → Type 0} (section name : List ℕ) (r : Reading A) → Yields r P → Yields (in_prototype section name r) P
placed_yields section name (Ok value) h = record { holds = h.holds }
placed_yields section name (Err fault) h = record { holds = tt }

-- ---- prototypes
value_sound : (section : Section) (name : List ℕ) (value : Kept) (g : RawGame) → IsSoundDraft g → Yields (prototype_of section name value g) IsSoundDraft
unfolding prototype_of
value_sound section name value g s = whatever (object_element within.Prototype value) λ object. prototype_sound section name object g s

named_sound : (section : Section) (name : List ℕ) (value : Kept) (g : RawGame) → IsSoundDraft g → Yields (named_of section name value g) IsSoundDraft
unfolding named_of
named_sound section name value g s = placed_yields (section_text section) name (prototype_of section name value g) (value_sound section name value g s)

member_sound : (section : Section) (member : Member) (g : RawGame) → IsSoundDraft g → Yields (member_of section member g) IsSoundDraft
unfolding member_of
member_sound section member g s = by_test (is_utf8 member.0)
  where
    by_test : (test : Bool) → Yields (if test then named_of section member.0 member.1 g else Err (fault_in (section_text section) [] no_object)) IsSoundDraft
    by_test true = named_sound section member.0 member.1 g s
    by_test false = record { holds = tt }

-- ---- sections
members_sound : (section : Section) (members : Option (List Member)) (g : RawGame) → IsSoundDraft g → Yields (members_in section members g) IsSoundDraft
members_sound section None g s = record { holds = tt }
members_sound section (Some members) g s = each_keeps (member_of section) (member_sound section) members g s

section_in_sound : (section : Section) (value : Option Kept) (g : RawGame) → IsSoundDraft g → Yields (section_in section value g) IsSoundDraft
section_in_sound section None g s = record { holds = s }
section_in_sound section (Some value) g s = members_sound section (as_object value) g s

section_sound : (top : List Member) (section : Section) (g : RawGame) → IsSoundDraft g → Yields (section_of top section g) IsSoundDraft
unfolding section_of
section_sound top section g s = section_in_sound section (value_at (section_text section) top) g s

-- ---- the game of a tree
game_sound : (members : Option (List Member)) → Yields (game_in members) IsSoundDraft
game_sound None = record { holds = tt }
game_sound (Some members) = each_keeps (section_of members) (section_sound members) sections empty_game empty_sound

raw_sound : (top : Kept) → Yields (raw_game top) IsSoundDraft
unfolding raw_game
raw_sound top = game_sound (as_object top)

pub draft_sound : (top : Kept) (draft : Draft) → raw_game top ≡ Ok (draft_seen draft) → IsSoundDraft (draft_seen draft)
draft_sound top draft is =
    let h = raw_sound top in
    subst (λ (r : Result RawGame DumpFault). IfOk r IsSoundDraft) is h.holds

-- ---- the first fault of a dump's object
pub first_fault : (tree : Kept) (members : List Member) (read : List Section) (first : RawGame) (fault : DumpFault) → Some members ≡ as_object tree → read ≡ sections → first ≡ empty_game
    → each_after (section_of members) read first ≡ Err fault → raw_game tree ≡ Err fault
unfolding raw_game
first_fault tree members read first fault is all empty told = ap game_in (sym is) ∙ (ap (each_after (section_of members) sections) (sym empty) ∙ (ap (λ (each : List Section). each_after (section_of members) each first) (sym all) ∙ told))
