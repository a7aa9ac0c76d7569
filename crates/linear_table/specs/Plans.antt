-- Well formed linear forms, their plans, and prices that show a plan to be cheapest or that there is none.
--
-- A plan is a vector of rates, none negative, that balances every good exactly: what is wanted, no less and no more. That
-- least-cost prices show a plan to be cheapest is weak duality, and that infeasibility prices show that there is no plan is
-- the easy half of Farkas's lemma (Schrijver, Theory of Linear and Integer Programming, chapter 7).
use Rattle.std.specs.Prelude.{◌≡◌, ◌≢◌, ℕ, suc, ◌+◌, ◌<◌, ◌≤◌, List, [], ◌∷◌, length, Option, Some, None, slice_get, slice_index_or, if◌then◌else◌, ◌==◌}
use Rattle.fractions.specs.Fraction.{Fraction, zero_fraction, one_fraction, negated, ◌*ʳ◌, ◌≤ʳ◌, ◌<ʳ◌}
use Rattle.linear_table.specs.System.{sum_below}
use Rattle.linear_table.specs.Parts.{part_at}
use Rattle.plan_base.specs.declared.ids.GoodId.{GoodId}
use Rattle.linear_table.specs.declared.Column.{Column}
use Rattle.linear_table.specs.declared.Column.TheVariants.{Line, Import, Surplus, Unit as UnitOf}
use Rattle.linear_table.specs.declared.Linear.{Linear}
use Rattle.linear_table.specs.declared.LinearColumn.{LinearColumn}

-- ---- the numbers of a linear form
abbrev pub good_count : Linear → ℕ
good_count l = length l.goods

abbrev pub column_count : Linear → ℕ
column_count l = length l.columns

abbrev pub parts_of : Option LinearColumn → List (ℕ × Fraction)
parts_of (Some c) = c.parts
parts_of None = []

abbrev pub price_of : Option LinearColumn → Fraction
price_of (Some c) = c.price
price_of None = zero_fraction

-- what one unit of the column at j adds to the good at g
abbrev pub column_part : Linear → ℕ → ℕ → Fraction
column_part l j g = part_at (parts_of (slice_get l.columns j)) g

abbrev pub column_price : Linear → ℕ → Fraction
column_price l j = price_of (slice_get l.columns j)

-- the number at a place, 0 past the end
abbrev pub number_at : List Fraction → ℕ → Fraction
number_at xs k = slice_index_or xs k zero_fraction

abbrev pub want_at : Linear → ℕ → Fraction
want_at l g = number_at l.wants g

-- ---- well formed
-- strictly increasing places from k on below n
abbrev pub Rises : ℕ → ℕ → List (ℕ × Fraction) → Type 0
Rises k n [] = Unit {0}
Rises k n (p ∷ ps) = (k ≤ p.0) × (p.0 < n) × Rises (suc p.0) n ps

-- the only part is x, at the place of the good
pub record HasOnePart (l : Linear) (good : GoodId) (x : Fraction) (parts : List (ℕ × Fraction)) : Type 0 where
  pub place : ℕ
  pub place_of : slice_get l.goods place ≡ Some good
  pub parts_are : parts ≡ (place, x) ∷ []

-- rows come first, then imports, then surpluses; a unit column is none of a table
abbrev pub kind_rank : Column → ℕ
kind_rank (Line n) = 0
kind_rank (Import good) = 1
kind_rank (Surplus good) = 2
kind_rank (UnitOf good) = 3

-- a row's name has the place of its column; an import is one of its good, and a surplus one less
abbrev pub FitsName : Linear → ℕ → Column → List (ℕ × Fraction) → Type 0
FitsName l j (Line n) parts = n ≡ j
FitsName l j (Import good) parts = HasOnePart l good one_fraction parts
FitsName l j (Surplus good) parts = HasOnePart l good (negated one_fraction) parts
FitsName l j (UnitOf good) parts = ⊥

pub record IsSoundColumn (l : Linear) (j : ℕ) (c : LinearColumn) : Type 0 where
  pub parts_rise : Rises 0 (good_count l) c.parts
  pub price : zero_fraction ≤ʳ c.price
  pub name_fits : FitsName l j c.column c.parts

pub record IsWellFormed (l : Linear) : Type 0 where
  pub wants_fit : length l.wants ≡ length l.goods
  pub wants : (g : ℕ) → zero_fraction ≤ʳ want_at l g
  pub goods_differ : (i j : ℕ) → i < j → j < good_count l → slice_get l.goods i ≢ slice_get l.goods j
  pub columns : (j : ℕ) (c : LinearColumn) → slice_get l.columns j ≡ Some c → IsSoundColumn l j c
  pub kinds_rise : (j : ℕ) (c d : LinearColumn) → slice_get l.columns j ≡ Some c → slice_get l.columns (suc j) ≡ Some d → kind_rank c.column ≤ kind_rank d.column
  pub names_differ : (i j : ℕ) (c d : LinearColumn) → i < j → slice_get l.columns i ≡ Some c → slice_get l.columns j ≡ Some d → c.column ≢ d.column

-- ---- plans
-- one rate per column, none negative, which add what is wanted to each good
pub record IsPlan (l : Linear) (rates : List Fraction) : Type 0 where
  pub length_is : length rates ≡ column_count l
  pub nonneg : (j : ℕ) → zero_fraction ≤ʳ number_at rates j
  pub balances : (g : ℕ) → g < good_count l → sum_below (column_count l) (λ j. column_part l j g *ʳ number_at rates j) ≡ want_at l g

abbrev pub cost_of : Linear → List Fraction → Fraction
cost_of l rates = sum_below (column_count l) (λ j. number_at rates j *ʳ column_price l j)

-- what one unit of a column is worth at one price per good, and what the wants are worth
abbrev pub value_of : Linear → List Fraction → ℕ → Fraction
value_of l prices j = sum_below (good_count l) (λ g. column_part l j g *ʳ number_at prices g)

abbrev pub wants_value : Linear → List Fraction → Fraction
wants_value l prices = sum_below (good_count l) (λ g. want_at l g *ʳ number_at prices g)

-- no column is worth more than its own price, and the wants are worth the cost
pub record AreLeastCostPrices (l : Linear) (prices : List Fraction) (cost : Fraction) : Type 0 where
  pub length_is : length prices ≡ good_count l
  pub no_gain : (j : ℕ) → j < column_count l → value_of l prices j ≤ʳ column_price l j
  pub same_value : wants_value l prices ≡ cost

-- no column is worth more than 0, and the wants are
pub record AreInfeasibilityPrices (l : Linear) (prices : List Fraction) : Type 0 where
  pub length_is : length prices ≡ good_count l
  pub no_gain : (j : ℕ) → j < column_count l → value_of l prices j ≤ʳ zero_fraction
  pub above : zero_fraction <ʳ wants_value l prices
