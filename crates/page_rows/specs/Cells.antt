-- Cells of tables with numbers: each has a label, which a narrow page shows, its number exactly, by which the page sorts, and what is shown.
use Rattle.std.specs.Prelude.{ℕ, Bool, List, [], ◌++◌, Option, Some, None, if◌then◌else◌, codes}
use Rattle.fractions.specs.Fraction.{Fraction}
use Rattle.fractions.specs.Print.{printed}
use Rattle.page_rows.specs.Numbers.{number_text}
use Rattle.page_rows.specs.Amounts.{figure_text, power_figure, power_text, rate_text}

unfoldable pub cell : List ℕ → List ℕ → List ℕ → List ℕ
cell label key text = codes "<td data-l=\"" ++ (label ++ (codes "\" data-v=\"" ++ (key ++ (codes "\">" ++ (text ++ codes "</td>")))))

-- nothing stands for a figure past the limits of fractions
abbrev pub printed_figure : Option Fraction → List ℕ
printed_figure None = []
printed_figure (Some number) = printed number

abbrev pub number_cell : List ℕ → Fraction → List ℕ
number_cell label number = cell label (printed number) (number_text number)

abbrev pub figure_cell : List ℕ → Option Fraction → List ℕ
figure_cell label figure = cell label (printed_figure figure) (figure_text figure)

abbrev pub power_cell : List ℕ → Option Fraction → List ℕ
power_cell label figure = cell label (printed_figure figure) (power_figure figure)

abbrev pub rate_cell : List ℕ → Fraction → List ℕ
rate_cell label rate = cell label (printed rate) (rate_text rate)

-- electric power in watts, anything else at its rate
abbrev pub amount_text : Bool → Fraction → List ℕ
amount_text electric rate = if electric then power_text rate else rate_text rate

abbrev pub amount_cell : List ℕ → Bool → Fraction → List ℕ
amount_cell label electric rate = cell label (printed rate) (amount_text electric rate)
