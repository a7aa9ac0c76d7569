-- What the refusals of one table become.
use Rattle.std.specs.Prelude.{Result, Ok, Err}
use Rattle.plan_base.specs.declared.denied.Denied.{Denied}
use Rattle.plan_base.specs.declared.denied.Denied.TheVariants.{Refused, NoMemory}
use Rattle.production_table.specs.declared.faults.TableFault.{TableFault}
use Rattle.production_table.specs.declared.faults.TableFault.TheVariants as of_table
use Rattle.table_rows.specs.declared.refusals.TableRefusal.{TableRefusal}
use Rattle.table_rows.specs.declared.refusals.TableRefusal.TheVariants.{Negative, Full, NameUsed, Setup, Wide}

-- what a table doesn't know is told: a row's name, or a good that has no price
abbrev pub cause : TableRefusal → TableFault → TableRefusal
cause unknown of_table.Unknown = unknown
cause unknown of_table.Negative = Negative
cause unknown of_table.Full = Full
cause unknown of_table.LabelUsed = NameUsed
cause unknown (of_table.Setup fault) = Setup fault
cause unknown (of_table.Wide label step) = Wide label step

-- why a call is denied, with what the table doesn't know told
abbrev pub denied_as : TableRefusal → Denied TableFault → Denied TableRefusal
denied_as unknown (Refused fault) = Refused (cause unknown fault)
denied_as unknown NoMemory = NoMemory

-- what a table is, or the cause that there is none
abbrev pub caused : {A : Type 0} → TableRefusal → Result A TableFault → Result A TableRefusal
caused unknown (Ok value) = Ok value
caused unknown (Err fault) = Err (cause unknown fault)
