-- What holds of a value where it is Ok.
use Rattle.std.proofs.Common.{Result, Ok, Err, IfOk}

pub whys : {A E : Type 0} (result : Result A E) (P Q : A → Type 0) → ((a : A) → P a → Q a) → IfOk result P → IfOk result Q
whys (Ok a) P Q f h = f a h
whys (Err fault) P Q f h = h
