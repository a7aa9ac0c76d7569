-- What is wrong with a dump, and where.
use Rattle.std.specs.Prelude.{◌≡◌, ◌≢◌, ℕ, List, [], Result, Ok, Err}
use Rattle.prototype_fields.specs.declared.fault.FieldCode.{FieldCode}
use Rattle.prototype_fields.specs.declared.fault.FieldCode.TheVariants as f
use Rattle.prototype_fields.specs.declared.fault.FieldFault.{FieldFault}
use Rattle.prototype_fields.specs.Names.{fault_path}
use Rattle.prototype_fields.specs.Values.{Reading}
use Rattle.craft_reader.specs.declared.fault.DumpCode.{DumpCode}
use Rattle.craft_reader.specs.declared.fault.DumpCode.TheVariants as d
use Rattle.craft_reader.specs.declared.fault.DumpFault.{DumpFault}

abbrev pub code_of : FieldCode → DumpCode
code_of f.Missing = d.Missing
code_of f.WrongKind = d.WrongKind
code_of f.UnknownName = d.UnknownName
code_of f.Number = d.Number
code_of f.Energy = d.Energy
code_of f.Twice = d.Twice
code_of f.Limit = d.Limit
code_of f.NoMemory = d.NoMemory

-- a fault of a prototype of a section
unfoldable pub fault_in : List ℕ → List ℕ → FieldFault → DumpFault
fault_in section name fault = record { code = code_of fault.code; section = section; name = name; field = fault_path fault }

-- what is read of a prototype, or its fault in the dump
abbrev pub in_prototype : {A : Type 0} → List ℕ → List ℕ → Reading A → Result A DumpFault
in_prototype section name (Ok value) = Ok value
in_prototype section name (Err fault) = Err (fault_in section name fault)

-- what a call answers that takes memory: what is meant, unless memory could not be had
abbrev pub GivesDump : {A : Type 0} → Result A DumpFault → Result A DumpFault → Type 0
GivesDump meant (Ok value) = meant ≡ Ok value
GivesDump meant (Err fault) = fault.code ≢ d.NoMemory → meant ≡ Err fault

-- of want of memory nothing else is said
abbrev pub out_of_memory : DumpFault
out_of_memory = record { code = d.NoMemory; section = []; name = []; field = [] }

abbrev pub IsBare : DumpFault → Type 0
IsBare fault = fault.code ≡ d.NoMemory → fault ≡ out_of_memory
