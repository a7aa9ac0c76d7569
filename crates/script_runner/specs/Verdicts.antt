-- What a claim about a linear form comes to: shown by the numbers that the claim gives, rejected for the first fault of a checker, or
-- open where nothing is claimed.
use Rattle.std.specs.Prelude.{◌⊎◌, ◌==◌, ℕ, Bool, true, false, List, ◌++◌, Option, Some, None, codes, decimal, find, option_map, ⊤}
use Rattle.linear_table.specs.declared.Linear.{Linear}
use Rattle.linear_table.specs.declared.Plan.{Plan}
use Rattle.plan_certificate.specs.Faults.{AreAcceptedPrices, AreAcceptedRefusals, IsAcceptedPlan, IsLeastFault, IsNoneFault, IsPlanFault}
use Rattle.plan_certificate.specs.declared.CheckFault.{CheckFault}
use Rattle.plan_certificate.specs.declared.CheckFault.TheVariants as check
use Rattle.plan_report.specs.Words.{printed_word}
use Rattle.certificate_file.specs.declared.CertEntry.{CertEntry}
use Rattle.certificate_file.specs.declared.Claim.{Claim}
use Rattle.certificate_file.specs.declared.Claim.TheVariants as claims
use Rattle.script_runner.specs.declared.verdict.Verdict.{Verdict}
use Rattle.script_runner.specs.declared.verdict.Verdict.TheVariants.{ProvedPlan, ProvedInfeasible, Open, Rejected}

-- the claim about a line: that of the first entry of this line
abbrev pub is_of_line : ℕ → CertEntry → Bool
is_of_line number e = e.line == number

abbrev pub claim_at : List CertEntry → ℕ → Option Claim
claim_at entries number = option_map (λ e. e.claim) (find (is_of_line number) entries)

-- the first fault of the checkers: of the plan, and of its prices where the plan is one
abbrev pub IsPlanVerdict : Linear → Plan → Verdict → Type 0
IsPlanVerdict l p ProvedPlan = IsAcceptedPlan l p.rates p.cost × AreAcceptedPrices l p.prices p.cost
IsPlanVerdict l p (Rejected fault) =
    IsPlanFault l p.rates p.cost fault ⊎ (IsAcceptedPlan l p.rates p.cost × IsLeastFault l p.prices p.cost fault)
IsPlanVerdict l p other = ⊥

abbrev pub IsVerdict : Linear → Option Claim → Verdict → Type 0
IsVerdict l (Some (claims.Planned p)) verdict = IsPlanVerdict l p verdict
IsVerdict l (Some (claims.Infeasible prices)) ProvedInfeasible = AreAcceptedRefusals l prices
IsVerdict l (Some (claims.Infeasible prices)) (Rejected fault) = IsNoneFault l prices fault
IsVerdict l (Some claims.Unsettled) Open = ⊤
IsVerdict l None Open = ⊤
IsVerdict l claim verdict = ⊥

-- ---- how it is told
abbrev pub fault_word : CheckFault → List ℕ
fault_word check.WrongLength = codes "rejected length"
fault_word (check.Negative column) = codes "rejected negative"
fault_word (check.Unbalanced good) = codes "rejected unbalanced"
fault_word (check.Gains column) = codes "rejected gains"
fault_word check.WrongValue = codes "rejected value"
fault_word check.WideSum = codes "rejected wide"

abbrev pub verdict_words : Verdict → List ℕ
verdict_words ProvedPlan = codes "proved plan"
verdict_words ProvedInfeasible = codes "proved infeasible"
verdict_words Open = codes "open"
verdict_words (Rejected fault) = fault_word fault

-- the line's number, the verdict and the name of the table
abbrev pub verdict_line : ℕ → Verdict → List ℕ → List ℕ
verdict_line number verdict table = decimal number ++ (codes " " ++ (verdict_words verdict ++ (codes " " ++ (printed_word table ++ codes "\n"))))

abbrev pub is_proved : Verdict → Bool
is_proved ProvedPlan = true
is_proved ProvedInfeasible = true
is_proved other = false
