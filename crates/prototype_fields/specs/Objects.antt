-- Objects, lists, texts and fields of a tree of JSON, as prototypes have them. An empty table of Lua has one spelling in
-- JSON: an empty list stands for an empty object, and an empty object for an empty list.
use Rattle.std.specs.Prelude.{ℕ, Bool, true, false, if◌then◌else◌, List, [], ◌∷◌, Option, None, Some, option_and_then, codes}
use Rattle.std.specs.Str.{bytes_eq, is_utf8}
use Rattle.json_text.specs.Kept.{Kept, KeptList, KeptObject}
use Rattle.json_text.specs.Kept as kept
use Rattle.prototype_fields.specs.declared.names.Key.{Key}
use Rattle.prototype_fields.specs.declared.names.Within.{Within}
use Rattle.prototype_fields.specs.Names.{key_text}

-- a member of an object: its key and its value
abbrev pub Member : Type 0
Member = List ℕ × Kept

abbrev pub elements_of : KeptList → List Kept
elements_of kept.no_elements = []
elements_of (kept.element value rest) = value ∷ elements_of rest

abbrev pub members_of : KeptObject → List Member
members_of kept.no_members = []
members_of (kept.member key value rest) = (key, value) ∷ members_of rest

-- the members of an object
abbrev pub as_object : Kept → Option (List Member)
as_object (kept.object at members) = Some (members_of members)
as_object (kept.list at kept.no_elements) = Some []
as_object value = None

-- the elements of a list
abbrev pub as_list : Kept → Option (List Kept)
as_list (kept.list at elements) = Some (elements_of elements)
as_list (kept.object at kept.no_members) = Some []
as_list value = None

-- the bytes of a text, which is UTF-8
abbrev pub if_utf8 : List ℕ → Option (List ℕ)
if_utf8 bytes = if is_utf8 bytes then Some bytes else None

abbrev pub as_text : Kept → Option (List ℕ)
as_text (kept.string at bytes) = if_utf8 bytes
as_text value = None

-- a truth value, which may be written as a text
abbrev pub flag_of : List ℕ → Option Bool
flag_of bytes = if bytes_eq bytes (codes "true") then Some true else if bytes_eq bytes (codes "false") then Some false else None

abbrev pub as_flag : Kept → Option Bool
as_flag (kept.flag at b) = Some b
as_flag (kept.string at bytes) = flag_of bytes
as_flag value = None

-- the spelling of a number
abbrev pub as_number : Kept → Option (List ℕ)
as_number (kept.number at digits) = Some digits
as_number value = None

-- the bytes of a string
abbrev pub as_bytes : Kept → Option (List ℕ)
as_bytes (kept.string at bytes) = Some bytes
as_bytes value = None

-- a value, unless it is null
abbrev pub unless_null : Kept → Option Kept
unless_null (kept.null at) = None
unless_null value = Some value

-- an object of a prototype: which one it is, and its members
pub record Object : Type 0 where
  pub within : Within
  pub members : List Member

-- the value under a key
abbrev pub value_at : List ℕ → List Member → Option Kept
value_at key [] = None
value_at key (member ∷ members) = if bytes_eq key member.0 then Some member.1 else value_at key members

-- a field: the value under its key, unless that is null
unfoldable pub field : Object → Key → Option Kept
field object key = option_and_then unless_null (value_at (key_text key) object.members)

-- the members of the object that a list of a name and an amount stands for
abbrev pub pair_members : List Kept → List Member
pair_members [] = []
pair_members (name ∷ []) = (codes "name", name) ∷ []
pair_members (name ∷ amount ∷ rest) = (codes "name", name) ∷ (codes "amount", amount) ∷ []
