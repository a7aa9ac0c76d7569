-- Of an answer of the solver a checker finds no fault but that a sum is wide.
use Rattle.std.proofs.Common.{◌≡◌, List, sym, refl}
use Rattle.fractions.specs.Fraction.{Fraction}
use Rattle.linear_table.specs.declared.Linear.{Linear}
use Rattle.linear_table.specs.declared.Plan.{Plan}
use Rattle.linear_table.specs.Answer.{IsPlanned}
use Rattle.linear_table.specs.Plans.{AreInfeasibilityPrices, AreLeastCostPrices}
use Rattle.plan_certificate.specs.Faults.{IsLeastFault, IsNoneFault, IsPlanFault}
use Rattle.plan_certificate.specs.declared.CheckFault.{CheckFault}
use Rattle.plan_certificate.specs.declared.CheckFault.TheVariants.{WrongLength, Negative, Unbalanced, Gains, WrongValue, WideSum}

pub plan_fault : (l : Linear) (p : Plan) (fault : CheckFault) → IsPlanned l p → IsPlanFault l p.rates p.cost fault → fault ≡ WideSum
plan_fault l p WrongLength is found = absurd (found is.0.length_is)
plan_fault l p (Negative column) is found = absurd (found.1.first.fails (is.0.nonneg found.1.place))
plan_fault l p (Unbalanced good) is found = absurd (found.2.first.fails (found.2.formed, is.0.balances found.2.place found.2.first.inside))
plan_fault l p (Gains column) is found = absurd found
plan_fault l p WrongValue is found = absurd (found.4 (sym is.1))
plan_fault l p WideSum is found = refl

pub least_fault : (l : Linear) (prices : List Fraction) (cost : Fraction) (fault : CheckFault) → AreLeastCostPrices l prices cost → IsLeastFault l prices cost fault → fault ≡ WideSum
least_fault l prices cost WrongLength is found = absurd (found is.length_is)
least_fault l prices cost (Negative column) is found = absurd found
least_fault l prices cost (Unbalanced good) is found = absurd found
least_fault l prices cost (Gains column) is found = absurd (found.1.first.fails (found.1.formed, is.no_gain found.1.place found.1.first.inside))
least_fault l prices cost WrongValue is found = absurd (found.3 is.same_value)
least_fault l prices cost WideSum is found = refl

pub none_fault : (l : Linear) (prices : List Fraction) (fault : CheckFault) → AreInfeasibilityPrices l prices → IsNoneFault l prices fault → fault ≡ WideSum
none_fault l prices WrongLength is found = absurd (found is.length_is)
none_fault l prices (Negative column) is found = absurd found
none_fault l prices (Unbalanced good) is found = absurd found
none_fault l prices (Gains column) is found = absurd (found.1.first.fails (found.1.formed, is.no_gain found.1.place found.1.first.inside))
none_fault l prices WrongValue is found = absurd (found.3 is.above)
none_fault l prices WideSum is found = refl
