-- The words behind a command word, and what they say. A line has all of its words and its fixed words before any other
-- word is read; then they are read in order. The grammar is this project's own.
use Rattle.std.specs.Prelude.{◌≡◌, ◌≢◌, ℕ, List, [], ◌∷◌, ◌++◌, Option, Some, None, Result, Ok, Bool, true, false, codes, MatchOption}
use Rattle.fractions.specs.Fraction.{Fraction}
use Rattle.fractions.specs.Reading.{ReadsRatio}
use Rattle.plan_base.specs.declared.shape.Kind.{Kind}
use Rattle.plan_lines.specs.declared.change.Object.{Object}
use Rattle.plan_lines.specs.declared.change.RowPart.{RowPart}
use Rattle.plan_lines.specs.declared.change.RowPart.TheVariants as row
use Rattle.plan_lines.specs.declared.change.Change.{Change}
use Rattle.plan_lines.specs.declared.change.Change.TheVariants as change
use Rattle.plan_lines.specs.declared.command.Command.{Command}
use Rattle.plan_lines.specs.declared.command.Command.TheVariants as command
use Rattle.script_reader.specs.declared.fault.ScriptFault.{ScriptFault}
use Rattle.script_reader.specs.declared.fault.ScriptFault.TheVariants.{UnknownCommand, WrongWords, BadNumber, BadObject}
use Rattle.script_reader.specs.declared.command_words.CommandWord.{CommandWord}
use Rattle.script_reader.specs.declared.command_words.CommandWord.TheVariants.{Reach, Why, Missing, Mask, List as ListWord, Milestones, Summary, Rate, Solve, Quiet, Undo, Redo, Batch, End, Cancel, Grant, Revoke, Forbid, Permit, Milestone, Unmilestone, Ingredient, Product, Unlock, Time, Enabled, Table, Untable, Row, Unrow, Price, Want, Import, Surplus, Power}
use Rattle.script_reader.specs.declared.fields.Place.{Place}
use Rattle.script_reader.specs.declared.fields.Place.TheVariants.{Node, Good, OneRecipe, OneTech, OneItem, OneFluid, OneMachine, Activity, TableGood}
use Rattle.script_reader.specs.Fields.{kind_word, IsObjectAt, WritesCount}
use Rattle.script_reader.specs.Reading.{gives, refuses, the_one, and_then, no_word, one_word, two_words, three_words, five_words}
use Rattle.script_reader.specs.Commands.{command_word}
use Rattle.script_reader.specs.declared.parts.PartWords.{PartWords}
use Rattle.script_reader.specs.declared.parts.PartWords.TheVariants.{Fuel, Module, Beacon, In, At}
use Rattle.script_reader.specs.PartWords.{ArePartsOf}

-- ---- one word
abbrev pub object : Place → List ℕ → Result Object ScriptFault → Type 0
object place word = the_one (IsObjectAt place word) BadObject

abbrev pub kind : List ℕ → Result Kind ScriptFault → Type 0
kind word = the_one (λ k. word ≡ kind_word k) BadObject

abbrev pub count : ℕ → ℕ → List ℕ → Result ℕ ScriptFault → Type 0
count least most word = the_one (WritesCount least most word) BadNumber

abbrev pub ratio : List ℕ → Result Fraction ScriptFault → Type 0
ratio word = the_one (λ x. ReadsRatio word (Ok x)) BadNumber

-- a number, or this word in its place
abbrev pub ratio_or : List ℕ → List ℕ → Result (Option Fraction) ScriptFault → Type 0
ratio_or other word = the_one (λ x. MatchOption x (word ≡ other) (λ y. (word ≢ other) × ReadsRatio word (Ok y))) BadNumber

abbrev pub switch_word : Bool → List ℕ
switch_word true = codes "on"
switch_word false = codes "off"

abbrev pub switch : List ℕ → Result Bool ScriptFault → Type 0
switch word = the_one (λ on. word ≡ switch_word on) WrongWords

-- ---- the words of a command
abbrev pub no_words : List (List ℕ) → Result (Unit {0}) ScriptFault → Type 0
no_words = no_word (gives tt)

abbrev pub node_words : List (List ℕ) → Result Object ScriptFault → Type 0
node_words = one_word (λ node. object Node node)

abbrev pub kind_words : List (List ℕ) → Result Kind ScriptFault → Type 0
kind_words = one_word (λ word. kind word)

abbrev pub text_words : List (List ℕ) → Result (List ℕ) ScriptFault → Type 0
text_words = one_word (λ text. gives text)

abbrev pub label_words : List (List ℕ) → Result (List ℕ × List ℕ) ScriptFault → Type 0
label_words = two_words (λ table label. gives (table, label))

-- the budget is 20000 where none is given
abbrev pub solve_words : List (List ℕ) → Result (List ℕ × ℕ) ScriptFault → Type 0
solve_words (table ∷ []) = gives (table, 20000)
solve_words words = two_words (λ table budget. and_then (count 1 100000 budget) (λ steps. gives (table, steps))) words

abbrev pub switch_words : List (List ℕ) → Result Bool ScriptFault → Type 0
switch_words = one_word (λ on. switch on)

abbrev pub good_of_recipe_words : List (List ℕ) → Result (Object × Object × Option Fraction) ScriptFault → Type 0
good_of_recipe_words = three_words (λ recipe good amount.
    and_then (object OneRecipe recipe) (λ r. and_then (object Good good) (λ g. and_then (ratio_or (codes "drop") amount) (λ a. gives (r, g, a)))))

abbrev pub unlock_words : List (List ℕ) → Result (Object × Object × Bool) ScriptFault → Type 0
unlock_words = three_words (λ tech recipe on.
    and_then (switch on) (λ s. and_then (object OneTech tech) (λ t. and_then (object OneRecipe recipe) (λ r. gives (t, r, s)))))

abbrev pub time_words : List (List ℕ) → Result (Object × Fraction) ScriptFault → Type 0
time_words = two_words (λ recipe seconds. and_then (object OneRecipe recipe) (λ r. and_then (ratio seconds) (λ q. gives (r, q))))

abbrev pub enabled_words : List (List ℕ) → Result (Object × Bool) ScriptFault → Type 0
enabled_words = two_words (λ recipe on. and_then (switch on) (λ s. and_then (object OneRecipe recipe) (λ r. gives (r, s))))

abbrev pub price_words : List (List ℕ) → Result (List ℕ × List ℕ × Fraction) ScriptFault → Type 0
price_words = three_words (λ table label price. and_then (ratio price) (λ p. gives (table, label, p)))

abbrev pub want_words : List (List ℕ) → Result (List ℕ × Object × Fraction) ScriptFault → Type 0
want_words = three_words (λ table good amount. and_then (object TableGood good) (λ g. and_then (ratio amount) (λ a. gives (table, g, a))))

abbrev pub price_of_good_words : List (List ℕ) → Result (List ℕ × Object × Option Fraction) ScriptFault → Type 0
price_of_good_words = three_words (λ table good price. and_then (object TableGood good) (λ g. and_then (ratio_or (codes "off") price) (λ p. gives (table, g, p))))

abbrev pub power_words : List (List ℕ) → Result (List ℕ × Bool) ScriptFault → Type 0
power_words = two_words (λ table on. and_then (switch on) (λ s. gives (table, s)))

-- ---- the parts of a row
abbrev pub count_words : (Object → ℕ → RowPart) → List ℕ → List ℕ → Result RowPart ScriptFault → Type 0
count_words make item number = and_then (object OneItem item) (λ o. and_then (count 0 65535 number) (λ n. gives (make o n)))

abbrev pub beacon_words : List ℕ → List ℕ → List ℕ → Result RowPart ScriptFault → Type 0
beacon_words machine number share =
    and_then (object OneMachine machine) (λ o. and_then (count 0 65535 number) (λ n. and_then (count 0 65535 share) (λ s. gives (row.Beacon o n s))))

abbrev pub part_words : PartWords → Result RowPart ScriptFault → Type 0
part_words (Fuel item) = and_then (object OneItem item) (λ o. gives (row.Fuel o))
part_words (Module item number) = count_words row.Module item number
part_words (Beacon machine number share) = beacon_words machine number share
part_words (In item number) = count_words row.In item number
part_words (At fluid) = and_then (object OneFluid fluid) (λ o. gives (row.At o))

-- one part more
abbrev pub add_part : List RowPart → PartWords → Result (List RowPart) ScriptFault → Type 0
add_part parts words = and_then (part_words words) (λ part. gives (parts ++ part ∷ []))

-- one part after another
abbrev pub add_parts : List RowPart → List PartWords → Result (List RowPart) ScriptFault → Type 0
add_parts parts [] = gives parts
add_parts parts (part ∷ rest) = and_then (add_part parts part) (λ more. add_parts more rest)

-- the parts behind `by` and a machine
abbrev pub parts_behind : List ℕ → List (List ℕ) → Result (List PartWords) ScriptFault → Type 0
parts_behind by words = the_one (λ parts. (by ≡ codes "by") × ArePartsOf words parts) WrongWords

abbrev pub row_words : List (List ℕ) → Result (List ℕ × List ℕ × Object × Object × List RowPart) ScriptFault → Type 0
row_words = five_words (λ table label activity by machine rest.
    and_then (parts_behind by rest) (λ parts. and_then (object Activity activity) (λ a. and_then (object OneMachine machine) (λ m. and_then (add_parts [] parts) (λ p. gives (table, label, a, m, p))))))

-- ---- the commands
abbrev pub edit : {A : Type 0} → (Result A ScriptFault → Type 0) → (A → Change) → Result Command ScriptFault → Type 0
edit reading make = and_then reading (λ a. gives (command.Change (make a)))

abbrev pub asks : {A : Type 0} → (Result A ScriptFault → Type 0) → (A → Command) → Result Command ScriptFault → Type 0
asks reading make = and_then reading (λ a. gives (make a))

-- each command word, and what the words behind it say
abbrev pub arguments : CommandWord → List (List ℕ) → Result Command ScriptFault → Type 0
arguments Reach words = asks (node_words words) (λ o. command.Reach o)
arguments Why words = asks (node_words words) (λ o. command.Why o)
arguments Missing words = asks (node_words words) (λ o. command.Missing o)
arguments Mask words = asks (node_words words) (λ o. command.Mask o)
arguments ListWord words = asks (kind_words words) (λ k. command.List k)
arguments Milestones words = asks (no_words words) (λ u. command.Milestones)
arguments Summary words = asks (no_words words) (λ u. command.Summary)
arguments Rate words = asks (label_words words) (λ l. command.Rate l.0 l.1)
arguments Solve words = asks (solve_words words) (λ s. command.Solve s.0 s.1)
arguments Quiet words = asks (switch_words words) (λ on. command.Quiet on)
arguments Undo words = asks (no_words words) (λ u. command.Undo)
arguments Redo words = asks (no_words words) (λ u. command.Redo)
arguments Batch words = asks (no_words words) (λ u. command.Batch)
arguments End words = asks (no_words words) (λ u. command.End)
arguments Cancel words = asks (no_words words) (λ u. command.Cancel)
arguments Grant words = edit (node_words words) (λ o. change.Grant o)
arguments Revoke words = edit (node_words words) (λ o. change.Revoke o)
arguments Forbid words = edit (node_words words) (λ o. change.Forbid o)
arguments Permit words = edit (node_words words) (λ o. change.Permit o)
arguments Milestone words = edit (node_words words) (λ o. change.Milestone o)
arguments Unmilestone words = edit (node_words words) (λ o. change.Unmilestone o)
arguments Ingredient words = edit (good_of_recipe_words words) (λ g. change.Ingredient g.0 g.1 g.2)
arguments Product words = edit (good_of_recipe_words words) (λ g. change.Product g.0 g.1 g.2)
arguments Unlock words = edit (unlock_words words) (λ u. change.Unlock u.0 u.1 u.2)
arguments Time words = edit (time_words words) (λ t. change.Time t.0 t.1)
arguments Enabled words = edit (enabled_words words) (λ e. change.Enabled e.0 e.1)
arguments Table words = edit (text_words words) (λ t. change.Table t)
arguments Untable words = edit (text_words words) (λ t. change.Untable t)
arguments Row words = edit (row_words words) (λ r. change.Row r.0 r.1 r.2 r.3 r.4)
arguments Unrow words = edit (label_words words) (λ l. change.Unrow l.0 l.1)
arguments Price words = edit (price_words words) (λ p. change.Price p.0 p.1 p.2)
arguments Want words = edit (want_words words) (λ w. change.Want w.0 w.1 w.2)
arguments Import words = edit (price_of_good_words words) (λ p. change.Import p.0 p.1 p.2)
arguments Surplus words = edit (price_of_good_words words) (λ p. change.Surplus p.0 p.1 p.2)
arguments Power words = edit (power_words words) (λ p. change.Power p.0 p.1)

abbrev pub named : Option CommandWord → List (List ℕ) → Result Command ScriptFault → Type 0
named (Some word) words = arguments word words
named None words = refuses UnknownCommand

-- what the words of a line say
abbrev pub command_of_words : List (List ℕ) → Result Command ScriptFault → Type 0
command_of_words [] = refuses UnknownCommand
command_of_words (word ∷ words) = named (command_word word) words
