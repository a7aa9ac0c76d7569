-- How tables that are tried for a wish end.
use Rattle.production_table.specs.Tables.{IsSoundTable}
use Rattle.wish_tables.specs.declared.meeting.Tried.{Tried}
use Rattle.wish_tables.specs.declared.meeting.Tried.TheVariants.{Met as MetAtLast, Failed}
use Rattle.wish_tables.specs.declared.trying.TableEnd.{TableEnd}
use Rattle.wish_tables.specs.declared.trying.TableEnd.TheVariants.{Met, NoPlan, Unsolved}

-- a table that is said to meet a wish is sound
abbrev pub HasSoundTable : TableEnd → Type 0
HasSoundTable (Met met) = IsSoundTable met.table
HasSoundTable (NoPlan goods) = Unit {0}
HasSoundTable Unsolved = Unit {0}

abbrev pub TriedSoundTable : Tried → Type 0
TriedSoundTable (MetAtLast met) = IsSoundTable met.table
TriedSoundTable (Failed fault) = Unit {0}
