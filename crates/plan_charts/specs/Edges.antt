-- The edges between the cards of a plan and its goods: the flows of each column at its rate, and one for each good that is wanted.
use Rattle.std.specs.Prelude.{◌≡◌, ◌≢◌, ℕ, ◌<◌, ◌==◌, Bool, List, [], ◌∷◌, slice_get, if◌then◌else◌}
use Rattle.fractions.specs.Fraction.{Fraction, zero_fraction, negated, ◌+ʳ◌}
use Rattle.linear_table.specs.Plans.{column_count, good_count, number_at, parts_of, want_at}
use Rattle.linear_table.specs.System.{sum_below}
use Rattle.linear_table.specs.declared.Linear.{Linear}
use Rattle.page_parts.specs.declared.amounts.Amount.{Amount}
use Rattle.page_parts.specs.declared.amounts.Amount.TheVariants.{Exact, Wide}
use Rattle.page_parts.specs.declared.amounts.Flow.{Flow}
use Rattle.page_parts.specs.Flows.{flows_of}

-- the flows of the column at j
abbrev pub edges_at : Linear → List Fraction → ℕ → List Flow
edges_at l rates j = flows_of (number_at rates j) (parts_of (slice_get l.columns j))

abbrev pub number_of : Amount → Fraction
number_of (Exact number) = number
number_of Wide = zero_fraction

-- an edge out of a card brings its amount to its good, and one into a card takes the opposite of its amount
abbrev pub out_of : Bool → Bool → Fraction → Fraction
out_of of_good gives number = if of_good then (if gives then number else zero_fraction) else zero_fraction

abbrev pub into : Bool → Bool → Fraction → Fraction
into of_good gives number = if of_good then (if gives then zero_fraction else negated number) else zero_fraction

-- what flows bring to a good, and what they take of it
abbrev pub brought : List Flow → ℕ → Fraction
brought [] good = zero_fraction
brought (f ∷ fs) good = out_of (f.good == good) f.gives (number_of f.amount) +ʳ brought fs good

abbrev pub taken : List Flow → ℕ → Fraction
taken [] good = zero_fraction
taken (f ∷ fs) good = into (f.good == good) f.gives (number_of f.amount) +ʳ taken fs good

-- no flow is past the limits of fractions
abbrev pub AreExact : List Flow → Type 0
AreExact [] = Unit {0}
AreExact (f ∷ fs) = (f.amount ≢ Wide) × AreExact fs

abbrev pub AllExact : Linear → List Fraction → Type 0
AllExact l rates = (j : ℕ) → j < column_count l → AreExact (edges_at l rates j)

-- what is brought to a good is what is wanted of it and what is taken
abbrev pub EdgesBalance : Linear → List Fraction → Type 0
EdgesBalance l rates = (good : ℕ) → good < good_count l
    → sum_below (column_count l) (λ j. brought (edges_at l rates j) good) ≡ want_at l good +ʳ sum_below (column_count l) (λ j. taken (edges_at l rates j) good)
