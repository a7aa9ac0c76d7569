-- What is written for a dump that is refused.
use Rattle.std.specs.Prelude.{ℕ, List, [], ◌++◌, codes, decimal}
use Rattle.json_text.specs.declared.fault.JsonCode.{JsonCode}
use Rattle.json_text.specs.declared.fault.JsonCode.TheVariants as j
use Rattle.json_text.specs.declared.fault.JsonFault.{JsonFault}
use Rattle.craft_reader.specs.declared.fault.DumpCode.{DumpCode}
use Rattle.craft_reader.specs.declared.fault.DumpCode.TheVariants as d
use Rattle.craft_reader.specs.declared.fault.DumpFault.{DumpFault}
use Rattle.plan_report.specs.Words.{printed_word}

abbrev pub json_name : JsonCode → List ℕ
json_name j.NotJson = codes "J1"
json_name j.TooDeep = codes "J2"
json_name j.Repeated = codes "J3"
json_name j.NotUtf8 = codes "J4"
json_name j.TooMany = codes "J5"
json_name j.NoMemory = []

abbrev pub code_name : DumpCode → List ℕ
code_name d.Missing = codes "G1"
code_name d.WrongKind = codes "G2"
code_name d.UnknownName = codes "G3"
code_name d.Number = codes "G4"
code_name d.Energy = codes "G5"
code_name d.Twice = codes "G6"
code_name d.Limit = codes "G7"
code_name (d.Json fault) = codes "G8"
code_name d.NoMemory = []

-- the code of the fault of JSON and its place
abbrev pub json_line : JsonFault → List ℕ
json_line fault = codes "bad dump G8 " ++ (json_name fault.code ++ (codes " at " ++ (decimal fault.at ++ codes "\n")))

-- the code, and the section, the name and the field as words
abbrev pub field_line : DumpFault → List ℕ
field_line fault =
    codes "bad dump " ++ (code_name fault.code ++ (codes " " ++ (printed_word fault.section ++ (codes " " ++ (printed_word fault.name ++ (codes " " ++ (printed_word fault.field ++ codes "\n")))))))

abbrev pub line_by : DumpCode → DumpFault → List ℕ
line_by (d.Json json) fault = json_line json
line_by code fault = field_line fault

-- the line for a fault
abbrev pub fault_line : DumpFault → List ℕ
fault_line fault = line_by fault.code fault
