-- What the checkers accept, and which fault they name: the first test that fails, in a fixed order. A test whose sum has
-- a wide step fails as such, whatever the sum would have shown. The tests are those of the definitions of a plan, of its
-- cost, and of both kinds of prices (weak duality and Farkas's lemma: Schrijver, Theory of Linear and Integer
-- Programming, chapter 7).
use Rattle.std.specs.Prelude.{◌≡◌, ℕ, ◌<◌, ◌⊎◌, List, length, Some, slice_get}
use Rattle.fractions.specs.Fraction.{Fraction, zero_fraction, ◌≤ʳ◌, ◌<ʳ◌}
use Rattle.linear_table.specs.Plans.{good_count, column_count, column_part, column_price, number_at, want_at, IsPlan, cost_of, value_of, wants_value, AreLeastCostPrices, AreInfeasibilityPrices}
use Rattle.linear_table.specs.Basis.{table_name}
use Rattle.linear_table.specs.declared.Linear.{Linear}
use Rattle.linear_table.specs.declared.Column.{Column}
use Rattle.plan_base.specs.declared.ids.GoodId.{GoodId}
use Rattle.plan_certificate.specs.Formed.{sum_of_products, IsFormed}
use Rattle.plan_certificate.specs.declared.CheckFault.{CheckFault}
use Rattle.plan_certificate.specs.declared.CheckFault.TheVariants.{WrongLength, Negative, Unbalanced, Gains, WrongValue, WideSum}
use Rattle.plan_certificate.specs.declared.Limit.{Limit}
use Rattle.plan_certificate.specs.declared.Limit.TheVariants.{OwnPrice, Nothing}

-- of the tests below n, the one at `place` fails and all before it pass
pub record IsFirstToFail (n : ℕ) (Passes : ℕ → Type 0) (place : ℕ) : Type 0 where
  pub inside : place < n
  pub earlier : (k : ℕ) → k < place → Passes k
  pub fails : ¬ Passes place

-- ---- a plan: its length, the signs of its rates, the balance of each good, its cost
abbrev pub FitsColumns : Linear → List Fraction → Type 0
FitsColumns l rates = length rates ≡ column_count l

abbrev pub HasNoNegative : Linear → List Fraction → Type 0
HasNoNegative l rates = (j : ℕ) → j < column_count l → zero_fraction ≤ʳ number_at rates j

-- the sum of a good's parts times the rates, in the order of columns
abbrev pub IsBalanceFormed : Linear → List Fraction → ℕ → Type 0
IsBalanceFormed l rates g = IsFormed (column_count l) (λ j. column_part l j g) (number_at rates)

abbrev pub balance_of : Linear → List Fraction → ℕ → Fraction
balance_of l rates g = sum_of_products (column_count l) (λ j. column_part l j g) (number_at rates)

abbrev pub IsBalancedAt : Linear → List Fraction → ℕ → Type 0
IsBalancedAt l rates g = IsBalanceFormed l rates g × (balance_of l rates g ≡ want_at l g)

abbrev pub IsBalanced : Linear → List Fraction → Type 0
IsBalanced l rates = (g : ℕ) → g < good_count l → IsBalancedAt l rates g

-- the sum of the rates times the columns' prices, in the order of columns
abbrev pub IsCostFormed : Linear → List Fraction → Type 0
IsCostFormed l rates = IsFormed (column_count l) (number_at rates) (column_price l)

pub record IsNegativeAt (l : Linear) (rates : List Fraction) (column : Column) : Type 0 where
  pub place : ℕ
  pub first : IsFirstToFail (column_count l) (λ j. zero_fraction ≤ʳ number_at rates j) place
  pub name_is : table_name (slice_get l.columns place) ≡ Some column

pub record IsUnbalancedAt (l : Linear) (rates : List Fraction) (good : GoodId) : Type 0 where
  pub place : ℕ
  pub first : IsFirstToFail (good_count l) (IsBalancedAt l rates) place
  pub formed : IsBalanceFormed l rates place
  pub name_is : slice_get l.goods place ≡ Some good

pub record HasWideBalance (l : Linear) (rates : List Fraction) : Type 0 where
  pub place : ℕ
  pub first : IsFirstToFail (good_count l) (IsBalancedAt l rates) place
  pub wide : ¬ IsBalanceFormed l rates place

abbrev pub IsBalanceFault : Linear → List Fraction → CheckFault → Type 0
IsBalanceFault l rates (Unbalanced good) = IsUnbalancedAt l rates good
IsBalanceFault l rates WideSum = HasWideBalance l rates
IsBalanceFault l rates WrongLength = ⊥
IsBalanceFault l rates (Negative column) = ⊥
IsBalanceFault l rates (Gains column) = ⊥
IsBalanceFault l rates WrongValue = ⊥

-- what the check of a plan names
abbrev pub IsPlanFault : Linear → List Fraction → Fraction → CheckFault → Type 0
IsPlanFault l rates cost WrongLength = ¬ FitsColumns l rates
IsPlanFault l rates cost (Negative column) = FitsColumns l rates × IsNegativeAt l rates column
IsPlanFault l rates cost (Unbalanced good) = FitsColumns l rates × HasNoNegative l rates × IsUnbalancedAt l rates good
IsPlanFault l rates cost (Gains column) = ⊥
IsPlanFault l rates cost WrongValue = FitsColumns l rates × HasNoNegative l rates × IsBalanced l rates × IsCostFormed l rates × (¬ (cost_of l rates ≡ cost))
IsPlanFault l rates cost WideSum = FitsColumns l rates × HasNoNegative l rates × (HasWideBalance l rates ⊎ (IsBalanced l rates × (¬ IsCostFormed l rates)))

-- a plan of this cost, of which no sum has a wide step
pub record IsAcceptedPlan (l : Linear) (rates : List Fraction) (cost : Fraction) : Type 0 where
  pub is_plan : IsPlan l rates
  pub cost_is : cost_of l rates ≡ cost
  pub balances_formed : (g : ℕ) → g < good_count l → IsBalanceFormed l rates g
  pub cost_formed : IsCostFormed l rates

-- ---- prices: their length, the value of each column, the value of the wants
abbrev pub FitsGoods : Linear → List Fraction → Type 0
FitsGoods l prices = length prices ≡ good_count l

-- the most that a column may be worth: its own price, or nothing
abbrev pub limit_at : Linear → Limit → ℕ → Fraction
limit_at l OwnPrice j = column_price l j
limit_at l Nothing j = zero_fraction

-- the sum of a column's parts times the prices, in the order of goods
abbrev pub IsValueFormed : Linear → List Fraction → ℕ → Type 0
IsValueFormed l prices j = IsFormed (good_count l) (column_part l j) (number_at prices)

abbrev pub IsWithinAt : Linear → Limit → List Fraction → ℕ → Type 0
IsWithinAt l limit prices j = IsValueFormed l prices j × (value_of l prices j ≤ʳ limit_at l limit j)

abbrev pub IsWithin : Linear → Limit → List Fraction → Type 0
IsWithin l limit prices = (j : ℕ) → j < column_count l → IsWithinAt l limit prices j

-- the sum of the wants times the prices, in the order of goods
abbrev pub AreWantsFormed : Linear → List Fraction → Type 0
AreWantsFormed l prices = IsFormed (good_count l) (want_at l) (number_at prices)

pub record GainsAt (l : Linear) (limit : Limit) (prices : List Fraction) (column : Column) : Type 0 where
  pub place : ℕ
  pub first : IsFirstToFail (column_count l) (IsWithinAt l limit prices) place
  pub formed : IsValueFormed l prices place
  pub name_is : table_name (slice_get l.columns place) ≡ Some column

pub record HasWideValue (l : Linear) (limit : Limit) (prices : List Fraction) : Type 0 where
  pub place : ℕ
  pub first : IsFirstToFail (column_count l) (IsWithinAt l limit prices) place
  pub wide : ¬ IsValueFormed l prices place

abbrev pub IsGainFault : Linear → Limit → List Fraction → CheckFault → Type 0
IsGainFault l limit prices (Gains column) = GainsAt l limit prices column
IsGainFault l limit prices WideSum = HasWideValue l limit prices
IsGainFault l limit prices WrongLength = ⊥
IsGainFault l limit prices (Negative column) = ⊥
IsGainFault l limit prices (Unbalanced good) = ⊥
IsGainFault l limit prices WrongValue = ⊥

-- what the checks of prices name, where the value of the wants has to be as `Right` says
abbrev pub IsPriceFault : Linear → Limit → List Fraction → Type 0 → CheckFault → Type 0
IsPriceFault l limit prices Right WrongLength = ¬ FitsGoods l prices
IsPriceFault l limit prices Right (Negative column) = ⊥
IsPriceFault l limit prices Right (Unbalanced good) = ⊥
IsPriceFault l limit prices Right (Gains column) = FitsGoods l prices × GainsAt l limit prices column
IsPriceFault l limit prices Right WrongValue = FitsGoods l prices × IsWithin l limit prices × AreWantsFormed l prices × (¬ Right)
IsPriceFault l limit prices Right WideSum = FitsGoods l prices × (HasWideValue l limit prices ⊎ (IsWithin l limit prices × (¬ AreWantsFormed l prices)))

-- no sum over these prices has a wide step
pub record AreFormed (l : Linear) (prices : List Fraction) : Type 0 where
  pub values : (j : ℕ) → j < column_count l → IsValueFormed l prices j
  pub wants : AreWantsFormed l prices

abbrev pub AreAcceptedPrices : Linear → List Fraction → Fraction → Type 0
AreAcceptedPrices l prices cost = AreLeastCostPrices l prices cost × AreFormed l prices

abbrev pub AreAcceptedRefusals : Linear → List Fraction → Type 0
AreAcceptedRefusals l prices = AreInfeasibilityPrices l prices × AreFormed l prices

-- the fault of the prices of a plan of this cost, and of the prices that are to show that there is no plan
abbrev pub IsLeastFault : Linear → List Fraction → Fraction → CheckFault → Type 0
IsLeastFault l prices stated fault = IsPriceFault l OwnPrice prices (wants_value l prices ≡ stated) fault

abbrev pub IsNoneFault : Linear → List Fraction → CheckFault → Type 0
IsNoneFault l prices fault = IsPriceFault l Nothing prices (zero_fraction <ʳ wants_value l prices) fault
