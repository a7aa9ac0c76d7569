-- The fields of a record. Each function of this file puts fields behind those that are there.
use Rattle.std.specs.Prelude.{ℕ, List, [], ◌∷◌, ◌++◌, Option, None, Some}
use Rattle.fractions.specs.Fraction.{Fraction}
use Rattle.fractions.specs.Print.{printed}
use Rattle.plan_report.specs.Plans.{figure_word}
use Rattle.plan_lines.specs.declared.reply.Figures.{Figures}
use Rattle.report_json.specs.Numbers.{decimal_of}

abbrev pub Fields : Type 0
Fields = List (List ℕ)

unfoldable pub with_field : List ℕ → Fields → Fields
with_field text fs = fs ++ text ∷ []

unfoldable pub with_blank : Fields → Fields
with_blank fs = fs ++ [] ∷ []

-- a number: its exact text, and its nearest decimal
unfoldable pub with_number : Fraction → Fields → Fields
with_number x fs = with_field (decimal_of x) (with_field (printed x) fs)

unfoldable pub with_no_number : Fields → Fields
with_no_number fs = with_blank (with_blank fs)

-- a figure past the limits of fractions is wide, and has no decimal
abbrev pub figure_decimal : Option Fraction → List ℕ
figure_decimal None = []
figure_decimal (Some x) = decimal_of x

unfoldable pub with_figure : Option Fraction → Fields → Fields
with_figure figure fs = with_field (figure_decimal figure) (with_field (figure_word figure) fs)

-- machines, and whole ones
unfoldable pub with_machines : Figures → Fields → Fields
with_machines f fs = with_field (figure_word f.count) (with_figure f.machines fs)

unfoldable pub with_no_machines : Fields → Fields
with_no_machines fs = with_blank (with_no_number fs)

-- power, drain, the power of beacons, pollution
unfoldable pub with_uses : Figures → Fields → Fields
with_uses f fs = with_figure f.pollution (with_figure f.beacons (with_figure f.drain (with_figure f.power fs)))

unfoldable pub with_no_uses : Fields → Fields
with_no_uses fs = with_no_number (with_no_number (with_no_number (with_no_number fs)))
