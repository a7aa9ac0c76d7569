-- What is said of a dump that is refused: where, and what is wrong there.
use Rattle.std.specs.Prelude.{ℕ, List, [], ◌∷◌, ◌++◌, Bool, ◌==◌, ◌&&◌, ◌||◌, nat_eq, nat_le, if◌then◌else◌, Option, None, Some, codes, decimal, length}
use Rattle.std.specs.List.{starts_with}
use Rattle.json_text.specs.declared.fault.JsonCode.{JsonCode}
use Rattle.json_text.specs.declared.fault.JsonCode.TheVariants as j
use Rattle.json_text.specs.declared.fault.JsonFault.{JsonFault}
use Rattle.craft_reader.specs.declared.fault.DumpCode.{DumpCode}
use Rattle.craft_reader.specs.declared.fault.DumpCode.TheVariants as d
use Rattle.craft_reader.specs.declared.fault.DumpFault.{DumpFault}
use Rattle.plan_report.specs.Words.{printed_word}
use Rattle.program_runs.specs.Places.{place_at}
use Rattle.program_runs.specs.declared.place.Place.{Place}

-- what is wrong with a text that is no JSON
abbrev pub json_words : JsonCode → List ℕ
json_words j.NotJson = codes "no JSON goes on like this"
json_words j.TooDeep = codes "more than 200 lists and objects stand in one another"
json_words j.Repeated = codes "its object has this key already"
json_words j.NotUtf8 = codes "this is no UTF-8"
json_words j.TooMany = codes "there are more than 16,777,216 values"
json_words j.NoMemory = codes "no memory is left"

-- where the text ends too early, that is said
abbrev pub words_at : Place → JsonCode → List ℕ
words_at place code = if place.at_end then codes "the file ends here, and its JSON does not" else json_words code

-- the place behind so many bytes of the dump, where its bytes are told, have as many, and are no more than a dump may have
abbrev pub known_place : Option (List ℕ) → ℕ → Option Place
known_place (Some bytes) at = if nat_le at (length bytes) && nat_le (length bytes) 268_435_456 then Some (place_at bytes at) else None
known_place None at = None

-- a fault of JSON by its line and column, or else by the number of bytes before it
abbrev pub json_text_at : Option Place → JsonFault → List ℕ
json_text_at (Some place) fault =
    codes "line " ++ (decimal place.line ++ (codes ", column " ++ (decimal place.column ++ (codes ": " ++ words_at place fault.code))))
json_text_at None fault = codes "after " ++ (decimal fault.at ++ (codes " bytes: " ++ json_words fault.code))

-- the bytes begin with these
abbrev pub begins_with : List ℕ → List ℕ → Bool
begins_with bytes front = starts_with nat_eq bytes front

-- What the first bytes of a dump tell, that are no JSON: those of packed files (RFC 1952, APPNOTE.TXT of zip, the .xz file format, RFC 8878) and the byte order marks of UTF-8 and UTF-16.
abbrev pub front_text : Option (List ℕ) → Option (List ℕ)
front_text (Some bytes) =
    if begins_with bytes (31 ∷ 139 ∷ []) then Some (codes "the file is packed by gzip, and has to be unpacked first")
    else if begins_with bytes (80 ∷ 75 ∷ 3 ∷ 4 ∷ []) then Some (codes "the file is packed by zip, and has to be unpacked first")
    else if begins_with bytes (253 ∷ 55 ∷ 122 ∷ 88 ∷ 90 ∷ []) then Some (codes "the file is packed by xz, and has to be unpacked first")
    else if begins_with bytes (40 ∷ 181 ∷ 47 ∷ 253 ∷ []) then Some (codes "the file is packed by zstd, and has to be unpacked first")
    else if begins_with bytes (239 ∷ 187 ∷ 191 ∷ []) then Some (codes "the file begins with a byte order mark")
    else if begins_with bytes (255 ∷ 254 ∷ []) || begins_with bytes (254 ∷ 255 ∷ []) then Some (codes "the file is UTF-16, and has to be UTF-8")
    else None
front_text None = None

abbrev pub or_else : Option (List ℕ) → List ℕ → List ℕ
or_else (Some text) other = text
or_else None other = other

-- what the first bytes tell, or else the place of the fault and what is wrong there
abbrev pub json_text : JsonFault → Option (List ℕ) → List ℕ
json_text fault dump = or_else (front_text dump) (json_text_at (known_place dump fault.at) fault)

-- what is wrong with a field or a prototype
abbrev pub field_words : DumpCode → List ℕ
field_words d.Missing = codes "this is required and is not there"
field_words d.WrongKind = codes "the value is of the wrong kind"
field_words d.UnknownName = codes "the name stands for nothing in this dump"
field_words d.Number = codes "the number is too large"
field_words d.Energy = codes "the text is no energy or power"
field_words d.Twice = codes "the name is there already"
field_words d.Limit = codes "the number is out of its range, or there are too many"
field_words (d.Json json) = json_words json.code
field_words d.NoMemory = codes "no memory is left"

-- a name and a colon, or nothing where the name is empty
abbrev pub part : List ℕ → List ℕ
part name = if length name == 0 then [] else printed_word name ++ codes ": "

-- a fault of a prototype by its section, its name and its field
abbrev pub field_text : DumpFault → List ℕ
field_text fault = part fault.section ++ (part fault.name ++ (part fault.field ++ field_words fault.code))

-- a value of the wrong kind; where it is of no section, the dump itself is no object
abbrev pub kind_text : DumpFault → List ℕ
kind_text fault = if length fault.section == 0 then codes "no section of Factorio 1.1 found" else field_text fault

abbrev pub text_by : DumpCode → DumpFault → Option (List ℕ) → List ℕ
text_by (d.Json json) fault dump = json_text json dump
text_by d.WrongKind fault dump = kind_text fault
text_by code fault dump = field_text fault

-- a fault of a dump whose bytes may be told
unfoldable pub fault_text : DumpFault → Option (List ℕ) → List ℕ
fault_text fault dump = text_by fault.code fault dump
