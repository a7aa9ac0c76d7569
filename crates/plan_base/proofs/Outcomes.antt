-- Refusals that are meant.
use Rattle.std.proofs.Common.{◌≡◌, ◌∙◌, Result, Err, ap}
use Rattle.plan_base.specs.declared.denied.Denied.TheVariants.{Refused}
use Rattle.plan_base.specs.Outcomes.{IsRefused}

pub refused_same : {R : Type 0} (cause refusal : R) → Refused cause ≡ Refused refusal → cause ≡ refusal
refused_same cause refusal is = cc

pub is_refused : {A R : Type 0} (meant : Result A R) (cause : R) → meant ≡ Err cause → IsRefused meant (Refused cause)
is_refused meant cause h = λ refusal is. h ∙ ap Err (refused_same cause refusal is)
