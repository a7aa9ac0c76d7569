-- What is kept of a dump, and what its tree tells of a belt.
use Rattle.std.proofs.Common.{◌≡◌, ℕ, List, Option, Some, None, IfSome, map, refl, subst}
use Rattle.fractions.specs.Fraction.{Fraction}
use Rattle.json_text.specs.Accepted.{IsAccepted}
use Rattle.json_text.specs.Kept.{Kept, Wishes}
use Rattle.wish_output.specs.Belts.{Carries, IsBeltRate, belt_wishes, speed_in}
use Rattle.wish_output.specs.declared.rates.TheConstants.{SECTIONS, FIELDS}

pub sections_are : map (λ key. key.now) SECTIONS ≡ belt_wishes.sections
sections_are = refl

pub fields_are : map (λ key. key.now) FIELDS ≡ belt_wishes.fields
fields_are = refl

pub told : (wishes : Wishes) (dump item : List ℕ) (tree : Kept) (found : Option Fraction)
    → wishes ≡ belt_wishes
    → IsAccepted wishes dump tree
    → IfSome found (Carries (speed_in item tree))
    → IfSome found (IsBeltRate dump item)
told wishes dump item tree None e a h = tt
told wishes dump item tree (Some rate) e a h = record { tree = tree; accepted = subst (λ w. IsAccepted w dump tree) e a; carries = h }
