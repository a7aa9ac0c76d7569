-- One step after another, where each may have a fault: the first fault is the answer.
use Rattle.std.specs.Prelude.{Result, Ok, Err}

infixr 1 ◌▸◌
abbrev pub ◌▸◌ : {A B E : Type 0} → Result A E → (A → Result B E) → Result B E
(Ok value) ▸ next = next value
(Err fault) ▸ next = Err fault
