-- What a table that meets a wish is. That these are its properties is this project's own.
use Rattle.std.specs.Prelude.{◌≡◌, ℕ, pos, ◌*ℤ◌, int_lt, ◌+◌, ◌==◌, ◌&&◌, ◌||◌, Bool, true, false, not, List, [], map, Result, Ok, Err, All, slice_index_or, if◌then◌else◌}
use Rattle.std.specs.List.{list_all, list_any}
use Rattle.std.specs.Str.{bytes_eq}
use Rattle.fractions.specs.Compare.{are_same}
use Rattle.fractions.specs.Fraction.{Fraction}
use Rattle.fractions.specs.Signs.{is_negative, is_positive}
use Rattle.plan_base.specs.declared.ids.GoodId.{GoodId}
use Rattle.plan_base.specs.declared.shape.Kind.TheVariants.{Recipe, Source as SourceKind, Machine, Tech}
use Rattle.game_types.specs.declared.effects.Wide.{Wide}
use Rattle.game_types.specs.declared.games.Game.{Game}
use Rattle.game_types.specs.declared.setups.Activity.{Activity}
use Rattle.game_types.specs.declared.setups.Activity.TheVariants.{Craft, Mine, Pump, Generate, Boil, Research}
use Rattle.game_types.specs.Goods.{electricity}
use Rattle.linear_table.specs.declared.Linear.{Linear}
use Rattle.linear_table.specs.Answer.{SomeGetsWide, SomeRunsOut}
use Rattle.linear_table.specs.Plans.{IsPlan}
use Rattle.production_table.specs.declared.tables.Table.{Table}
use Rattle.production_table.specs.declared.tables.TableRow.{TableRow}
use Rattle.production_table.specs.Linear.{linear_of}
use Rattle.production_table.specs.Tables.{IsSoundTable}
use Rattle.table_rows.specs.Columns.{column_of}
use Rattle.table_rows.specs.Setups.{IsFitting}
use Rattle.wish_setups.specs.Fitting.{fits}
use Rattle.wish_setups.specs.Reach.{is_good_reached, is_mined, is_reached}
use Rattle.wish_setups.specs.declared.wish.Met.{Met}
use Rattle.wish_setups.specs.declared.wish.Wish.{Wish}

-- ---- what is reached
-- what is done is reached: the recipe, the source, the fluid, electricity, the technology
abbrev pub is_activity_reached : Game → List Bool → Activity → Bool
is_activity_reached g reached (Craft recipe) = is_reached g reached Recipe recipe.0
is_activity_reached g reached (Mine source) = is_reached g reached SourceKind source.0
is_activity_reached g reached (Pump good) = slice_index_or reached (3 + good.0) false
is_activity_reached g reached Generate = slice_index_or reached 1 false
is_activity_reached g reached (Boil good) = slice_index_or reached (3 + good.0) false
is_activity_reached g reached (Research tech) = is_reached g reached Tech tech.0

abbrev pub is_row_reached : Game → List Bool → TableRow → Bool
is_row_reached g reached row = is_reached g reached Machine row.setup.machine.0 && is_activity_reached g reached row.setup.activity

-- ---- what rows take and give
-- what one craft a second adds to each good; nothing where that is too wide
abbrev pub or_none : Result (List (GoodId × Fraction)) Wide → List (GoodId × Fraction)
or_none (Ok column) = column
or_none (Err wide) = []

-- the price of a row beside its column
abbrev pub priced_column : Game → Bool → TableRow → Fraction × List (GoodId × Fraction)
priced_column g power row = (row.price, or_none (column_of g power row.setup))

abbrev pub Columns : Type 0
Columns = List (Fraction × List (GoodId × Fraction))

abbrev pub columns_of : Game → Table → Columns
columns_of g t = map (priced_column g t.power) t.rows

-- a row gives a good, some pairs name it
abbrev pub is_given_part : GoodId → GoodId × Fraction → Bool
is_given_part good part = (part.0.0 == good.0) && is_positive part.1

abbrev pub gives : GoodId → Fraction × List (GoodId × Fraction) → Bool
gives good column = list_any (is_given_part good) column.1

abbrev pub brings : GoodId → List (GoodId × Fraction) → Bool
brings good pairs = list_any (λ pair. pair.0.0 == good.0) pairs

abbrev pub is_supplied : Columns → List (GoodId × Fraction) → GoodId → Bool
is_supplied columns imports good = brings good imports || list_any (gives good) columns

-- each good that a row takes is given by a row or brought by an import
abbrev pub part_supplied : Columns → List (GoodId × Fraction) → GoodId × Fraction → Bool
part_supplied columns imports part = not (is_negative part.1) || is_supplied columns imports part.0

abbrev pub column_supplied : Columns → List (GoodId × Fraction) → Fraction × List (GoodId × Fraction) → Bool
column_supplied columns imports column = list_all (part_supplied columns imports) column.1

abbrev pub all_supplied : Columns → List (GoodId × Fraction) → Bool
all_supplied columns imports = list_all (column_supplied columns imports) columns

-- a row that takes nothing but electricity costs something
abbrev pub is_taken : ℕ → GoodId × Fraction → Bool
is_taken power part = not (part.0.0 == power) && is_negative part.1

abbrev pub is_paid : ℕ → Fraction × List (GoodId × Fraction) → Bool
is_paid power column = is_positive column.0 || list_any (is_taken power) column.1

-- ---- what comes in
abbrev pub is_pair : GoodId × Fraction → GoodId × Fraction → Bool
is_pair pair other = (other.0.0 == pair.0.0) && are_same other.1 pair.1

abbrev pub has_pair : GoodId × Fraction → List (GoodId × Fraction) → Bool
has_pair pair pairs = list_any (is_pair pair) pairs

-- a good at the rim, which is imported at the price that is told: it is reached, and isn't wished for itself
abbrev pub is_at_rim : Game → List Bool → Wish → List (GoodId × Fraction) → GoodId × Fraction → Bool
is_at_rim g reached wish rim pair = has_pair pair rim && is_good_reached g reached pair.0 && not (brings pair.0 wish.wants)

-- an import was asked for at its price, or costs something and is of what a reached source gives or of the rim
abbrev pub is_due : Game → List Bool → Wish → List (GoodId × Fraction) → GoodId × Fraction → Bool
is_due g reached wish rim pair =
    has_pair pair wish.imports || (is_positive pair.1 && (is_mined g reached pair.0 || is_at_rim g reached wish rim pair))

-- ---- what is wanted
abbrev pub is_less : Fraction → Fraction → Bool
is_less x y = int_lt (x.num *ℤ pos y.den) (y.num *ℤ pos x.den)

-- a want is the wish's; of electricity in a table that makes its own it may be more, for what whole machines draw
abbrev pub is_want : ℕ → Bool → GoodId × Fraction → GoodId × Fraction → Bool
is_want electric power wish want = (want.0.0 == wish.0.0) && (are_same want.1 wish.1 || (power && (want.0.0 == electric) && not (is_less want.1 wish.1)))

abbrev pub is_wanted : ℕ → Bool → List (GoodId × Fraction) → GoodId × Fraction → Bool
is_wanted electric power wants wish = list_any (is_want electric power wish) wants

-- nothing else is wanted
abbrev pub is_wished : ℕ → Bool → List (GoodId × Fraction) → GoodId × Fraction → Bool
is_wished electric power wishes want = brings want.0 wishes || (power && (want.0.0 == electric))

-- a wished good is supplied: a row gives it, or an import of it was asked for, or a reached source gives it and it is imported
abbrev pub is_wish_supplied : Game → List Bool → Wish → Table → Columns → GoodId × Fraction → Bool
is_wish_supplied g reached wish t columns want =
    list_any (gives want.0) columns || brings want.0 wish.imports || (is_mined g reached want.0 && brings want.0 t.imports)

-- ---- the table has a plan
-- there is a plan, and the solver comes to one within 20000 exchanges of columns, none of which forms a number past the limits
pub record HasPlan (l : Linear) : Type 0 where
  pub plan : (rates : List Fraction) × IsPlan l rates
  pub narrow : ¬ SomeGetsWide l 20000
  pub in_budget : ¬ SomeRunsOut l 20000

-- so a script's `solve` answers a plan
abbrev pub IsSolvable : Game → Table → Type 0
IsSolvable g t = (l : Linear) × (linear_of g t ≡ Ok l) × HasPlan l

-- ---- the table that meets a wish
abbrev pub electric_good : Game → ℕ
electric_good g = (electricity g).0

-- the name and the power are those that were asked for
abbrev pub same_switch : Bool → Bool → Bool
same_switch a b = if a then b else not b

abbrev pub keeps_form : List ℕ → Wish → Table → Bool
keeps_form name wish t = bytes_eq t.name name && same_switch t.power wish.power

-- each wished good is wanted and supplied, and nothing else is wanted
abbrev pub keeps_wants : Game → List Bool → Wish → Table → Columns → Bool
keeps_wants g reached wish t columns =
    list_all (is_wanted (electric_good g) wish.power t.wants) wish.wants
    && list_all (is_wished (electric_good g) wish.power wish.wants) t.wants
    && list_all (is_wish_supplied g reached wish t columns) wish.wants

-- each row is of what is reached, what rows take is there, and nothing comes in but what is due and paid for
abbrev pub keeps_rows : Game → List Bool → Wish → List (GoodId × Fraction) → Table → Columns → Bool
keeps_rows g reached wish rim t columns =
    list_all (is_row_reached g reached) t.rows
    && list_all (is_due g reached wish rim) t.imports
    && list_all (is_paid (electric_good g)) columns
    && all_supplied columns t.imports

abbrev pub keeps_table : Game → List Bool → Wish → Met → Columns → Bool
keeps_table g reached wish met columns = keeps_wants g reached wish met.table columns && keeps_rows g reached wish met.rim met.table columns

-- each row can stand in a table, as a test
abbrev pub are_fitting : Game → List TableRow → Bool
are_fitting g rows = list_all (λ row. fits g row.setup) rows

-- A table that meets a wish: a sound table of the name, whose rows can stand in it and are of what is reached; so much of each wished
-- good is wanted, and supplied; what comes in is due and paid for; and a script's `solve` answers a plan.
pub record IsMet (g : Game) (marks : List Bool) (name : List ℕ) (wish : Wish) (met : Met) : Type 0 where
  pub sound : IsSoundTable met.table
  pub fits : All (λ row. IsFitting g row.setup) met.table.rows
  pub form : keeps_form name wish met.table ≡ true
  pub parts : keeps_table g marks wish met (columns_of g met.table) ≡ true
  pub solvable : IsSolvable g met.table
