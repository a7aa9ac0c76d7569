-- Two answers that are the same have the same parts.
use Rattle.std.proofs.Common.{◌≡◌, ap}
use Rattle.std.specs.Prelude.{Result, Ok, Err}

value_or : {A E : Type 0} → A → Result A E → A
value_or other (Ok value) = value
value_or other (Err fault) = other

pub same_parts : {A B E : Type 0} (a c : A) (b d : B) → ◌≡◌ {A = Result (A × B) E} (Ok (a, b)) (Ok (c, d)) → (a ≡ c) × (b ≡ d)
unfolding value_or
same_parts {A} {B} {E} a c b d h = (ap (λ (r : Result (A × B) E). (value_or (a, b) r).0) h, ap (λ (r : Result (A × B) E). (value_or (a, b) r).1) h)
