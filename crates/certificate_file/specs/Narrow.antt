-- Entries whose fractions are within the limits, as those of any entry in memory are.
use Rattle.std.specs.Prelude.{List, [], ◌∷◌, ⊤}
use Rattle.fractions.specs.Fraction.{Fraction}
use Rattle.fractions.specs.Limits.{IsNarrow}
use Rattle.linear_table.specs.declared.Plan.{Plan}
use Rattle.certificate_file.specs.declared.Claim.{Claim}
use Rattle.certificate_file.specs.declared.Claim.TheVariants.{Planned, Infeasible, Unsettled}
use Rattle.certificate_file.specs.declared.CertEntry.{CertEntry}

abbrev pub EachIs : {A : Type 0} → (A → Type 0) → List A → Type 0
EachIs P [] = ⊤
EachIs P (x ∷ xs) = P x × EachIs P xs

abbrev pub AreNarrow : List Fraction → Type 0
AreNarrow xs = EachIs IsNarrow xs

abbrev pub IsNarrowPlan : Plan → Type 0
IsNarrowPlan p = AreNarrow p.rates × IsNarrow p.cost × AreNarrow p.prices

abbrev pub IsNarrowClaim : Claim → Type 0
IsNarrowClaim (Planned p) = IsNarrowPlan p
IsNarrowClaim (Infeasible prices) = AreNarrow prices
IsNarrowClaim Unsettled = ⊤

abbrev pub AreNarrowEntries : List CertEntry → Type 0
AreNarrowEntries es = EachIs (λ e. IsNarrowClaim e.claim) es
