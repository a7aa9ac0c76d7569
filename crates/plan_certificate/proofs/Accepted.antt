-- What passing every test makes of a certificate, and that no fault is named of an accepted one.
use Rattle.std.specs.Prelude.{◌≡◌, ℕ, zero, suc, ◌≤◌, ◌↔◌, List, [], ◌∷◌, length, Result, Ok, Err, MatchResult, IsOk}
use Rattle.std.proofs.Common.{refl, sym, subst, arith, inl, inr}
use Rattle.std.proofs.lemmas.Bool.{cases_lt}
use Rattle.fractions.specs.Fraction.{Fraction, zero_fraction, ◌≤ʳ◌, ◌<ʳ◌}
use Rattle.fractions.proofs.Order.{≤ʳ_refl}
use Rattle.linear_table.specs.Plans.{column_count, number_at, cost_of, wants_value}
use Rattle.linear_table.specs.declared.Linear.{Linear}
use Rattle.plan_certificate.specs.Faults.{FitsColumns, HasNoNegative, IsBalanced, IsCostFormed, IsPlanFault, IsAcceptedPlan, FitsGoods, IsWithin, AreWantsFormed, IsPriceFault, AreAcceptedPrices, AreAcceptedRefusals}
use Rattle.plan_certificate.specs.declared.CheckFault.{CheckFault}
use Rattle.plan_certificate.specs.declared.CheckFault.TheVariants.{WrongLength, Negative, Unbalanced, Gains, WrongValue, WideSum}
use Rattle.plan_certificate.specs.declared.Limit.TheVariants.{OwnPrice, Nothing}

number_past : (xs : List Fraction) (k : ℕ) → length xs ≤ k → number_at xs k ≡ zero_fraction
number_past [] k h = refl
number_past (x ∷ xs) zero h = absurd (omega arith)
number_past (x ∷ xs) (suc k) h = number_past xs k (omega arith)

pub accepted_plan : (l : Linear) (rates : List Fraction) (cost : Fraction) → FitsColumns l rates → HasNoNegative l rates → IsBalanced l rates → IsCostFormed l rates → cost_of l rates ≡ cost → IsAcceptedPlan l rates cost
accepted_plan l rates cost fits signs balanced formed e =
    record {
      is_plan = record {
        length_is = fits;
        nonneg = λ j. elim (cases_lt j (column_count l)) [
          | inl lt ↦ signs j lt
          | inr le ↦ subst (λ (x : Fraction). zero_fraction ≤ʳ x) (sym (number_past rates j (omega arith))) (≤ʳ_refl zero_fraction)
        ];
        balances = λ g h. (balanced g h).1;
      };
      cost_is = e;
      balances_formed = λ g h. (balanced g h).0;
      cost_formed = formed;
    }

balanced_of : (l : Linear) (rates : List Fraction) (cost : Fraction) → IsAcceptedPlan l rates cost → IsBalanced l rates
balanced_of l rates cost a g h = (a.balances_formed g h, a.is_plan.balances g h)

pub no_plan_fault : (l : Linear) (rates : List Fraction) (cost : Fraction) (fault : CheckFault) → IsPlanFault l rates cost fault → IsAcceptedPlan l rates cost → ⊥
no_plan_fault l rates cost WrongLength f a = f a.is_plan.length_is
no_plan_fault l rates cost (Negative column) f a = f.1.first.fails (a.is_plan.nonneg f.1.place)
no_plan_fault l rates cost (Unbalanced good) f a = f.2.first.fails (balanced_of l rates cost a f.2.place f.2.first.inside)
no_plan_fault l rates cost (Gains column) f a = f
no_plan_fault l rates cost WrongValue f a = f.4 a.cost_is
no_plan_fault l rates cost WideSum f a =
    elim f.2 [
      | inl w ↦ w.first.fails (balanced_of l rates cost a w.place w.first.inside)
      | inr w ↦ w.1 a.cost_formed
    ]

pub accepted_prices : (l : Linear) (prices : List Fraction) (cost : Fraction) → FitsGoods l prices → IsWithin l OwnPrice prices → AreWantsFormed l prices → wants_value l prices ≡ cost → AreAcceptedPrices l prices cost
accepted_prices l prices cost fits within wants e =
    (record { length_is = fits; no_gain = λ j h. (within j h).1; same_value = e }, record { values = λ j h. (within j h).0; wants = wants })

pub accepted_refusal : (l : Linear) (prices : List Fraction) → FitsGoods l prices → IsWithin l Nothing prices → AreWantsFormed l prices → zero_fraction <ʳ wants_value l prices → AreAcceptedRefusals l prices
accepted_refusal l prices fits within wants e =
    (record { length_is = fits; no_gain = λ j h. (within j h).1; above = e }, record { values = λ j h. (within j h).0; wants = wants })

-- the equation between the rates that were lent and those of the plan
pub same_plan : (l : Linear) (a b : List Fraction) (cost : Fraction) (r : Result (Unit {0}) CheckFault) → a ≡ b → MatchResult r (λ _. IsAcceptedPlan l a cost) (IsPlanFault l a cost) → MatchResult r (λ _. IsAcceptedPlan l b cost) (IsPlanFault l b cost)
same_plan l a b cost r e h = subst (λ (x : List Fraction). MatchResult r (λ _. IsAcceptedPlan l x cost) (IsPlanFault l x cost)) e h

pub same_prices : (l : Linear) (a b : List Fraction) (cost : Fraction) (r : Result (Unit {0}) CheckFault) → a ≡ b → MatchResult r (λ _. AreAcceptedPrices l a cost) (IsPriceFault l OwnPrice a (wants_value l a ≡ cost)) → MatchResult r (λ _. AreAcceptedPrices l b cost) (IsPriceFault l OwnPrice b (wants_value l b ≡ cost))
same_prices l a b cost r e h = subst (λ (x : List Fraction). MatchResult r (λ _. AreAcceptedPrices l x cost) (IsPriceFault l OwnPrice x (wants_value l x ≡ cost))) e h

pub no_price_fault : (l : Linear) (prices : List Fraction) (cost : Fraction) (fault : CheckFault) → IsPriceFault l OwnPrice prices (wants_value l prices ≡ cost) fault → AreAcceptedPrices l prices cost → ⊥
no_price_fault l prices cost WrongLength f a = f a.0.length_is
no_price_fault l prices cost (Negative column) f a = f
no_price_fault l prices cost (Unbalanced good) f a = f
no_price_fault l prices cost (Gains column) f a = f.1.first.fails (a.1.values f.1.place f.1.first.inside, a.0.no_gain f.1.place f.1.first.inside)
no_price_fault l prices cost WrongValue f a = f.3 a.0.same_value
no_price_fault l prices cost WideSum f a =
    elim f.1 [
      | inl w ↦ w.first.fails (a.1.values w.place w.first.inside, a.0.no_gain w.place w.first.inside)
      | inr w ↦ w.1 a.1.wants
    ]

pub no_refusal_fault : (l : Linear) (prices : List Fraction) (fault : CheckFault) → IsPriceFault l Nothing prices (zero_fraction <ʳ wants_value l prices) fault → AreAcceptedRefusals l prices → ⊥
no_refusal_fault l prices WrongLength f a = f a.0.length_is
no_refusal_fault l prices (Negative column) f a = f
no_refusal_fault l prices (Unbalanced good) f a = f
no_refusal_fault l prices (Gains column) f a = f.1.first.fails (a.1.values f.1.place f.1.first.inside, a.0.no_gain f.1.place f.1.first.inside)
no_refusal_fault l prices WrongValue f a = f.3 a.0.above
no_refusal_fault l prices WideSum f a =
    elim f.1 [
      | inl w ↦ w.first.fails (a.1.values w.place w.first.inside, a.0.no_gain w.place w.first.inside)
      | inr w ↦ w.1 a.1.wants
    ]

-- a check that names a fault wherever it doesn't accept is Ok exactly where it should accept
pub ok_exactly : (r : Result (Unit {0}) CheckFault) (Accepted : Type 0) (Fault : CheckFault → Type 0) → MatchResult r (λ _. Accepted) Fault → ((f : CheckFault) → Fault f → Accepted → ⊥) → IsOk r ↔ Accepted
ok_exactly (Ok x) Accepted Fault h none = (λ _. h, λ _. refl)
ok_exactly (Err f) Accepted Fault h none = (λ e. cc, λ a. absurd (none f h a))
