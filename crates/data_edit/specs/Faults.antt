-- Edits that may be refused: one step after another, where the first refusal stands.
use Rattle.std.specs.Prelude.{ℕ, Bool, true, false, List, length, nat_lt, Option, Some, None, Result, Ok, Err, if◌then◌else◌}
pub use Rattle.plan_base.specs.Binds.{◌▸◌}
use Rattle.fractions.specs.Fraction.{Fraction}
use Rattle.fractions.specs.Signs.{is_positive}
use Rattle.data_edit.specs.declared.edits.EditFault.{EditFault}
use Rattle.data_edit.specs.declared.edits.EditFault.TheVariants.{Unknown, NotPositive, NoChange, Limit}
use Rattle.data_edit.specs.Lists.{same_lists, is_fraction}

-- what an id names
abbrev pub known : {A : Type 0} → Option A → Result A EditFault
known None = Err Unknown
known (Some value) = Ok value

abbrev pub known_below : ℕ → ℕ → Result (Unit {0}) EditFault
known_below count number = if nat_lt number count then Ok tt else Err Unknown

abbrev pub positive : Fraction → Result (Unit {0}) EditFault
positive x = if is_positive x then Ok tt else Err NotPositive

-- a list in place of an old one: another, and at most 1,024 long
abbrev pub changed_list : {E : Type 0} → (E → E → Bool) → List E → List E → Result (List E) EditFault
changed_list same old list = if same_lists same list old then Err NoChange else if nat_lt 1024 (length list) then Err Limit else Ok list

-- a number or a flag in place of another
abbrev pub changed_time : Fraction → Fraction → Result Fraction EditFault
changed_time old time = if is_fraction time old then Err NoChange else Ok time

abbrev pub changed_flag : Bool → Bool → Result Bool EditFault
changed_flag old on = if (if on then old else (if old then false else true)) then Err NoChange else Ok on
