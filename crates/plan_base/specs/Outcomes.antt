-- What a call answers that takes memory and may be refused, told by what is meant: a value, or the cause why there is none.
use Rattle.std.specs.Prelude.{◌≡◌, Result, Ok, Err}
use Rattle.plan_base.specs.declared.denied.Denied.{Denied}
use Rattle.plan_base.specs.declared.denied.Denied.TheVariants.{Refused}

-- the refusal that is meant, unless memory could not be had
abbrev pub IsRefused : {A R : Type 0} → Result A R → Denied R → Type 0
IsRefused {R = R} meant fault = (refusal : R) → fault ≡ Refused refusal → meant ≡ Err refusal

-- what is meant, unless memory could not be had
abbrev pub Gives : {A R : Type 0} → Result A R → Result A (Denied R) → Type 0
Gives meant (Ok value) = meant ≡ Ok value
Gives meant (Err fault) = IsRefused meant fault

-- what a call answers that lends its value, with the value in place of the loan
abbrev pub seen_as : {A B E : Type 0} → (A → B) → Result A E → Result B E
seen_as view (Ok value) = Ok (view value)
seen_as view (Err fault) = Err fault
