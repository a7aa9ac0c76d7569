-- What a change makes of one table.
use Rattle.std.specs.Prelude.{◌≡◌, ◌<◌, ℕ, List, [], Bool, true, false, Result, Ok}
use Rattle.game_types.specs.declared.games.Game.{Game}
use Rattle.game_types.specs.Goods.{good_count}
use Rattle.game_types.specs.Sound.{IsSoundSetup}
use Rattle.game_types.specs.Steps.{◌▸◌}
use Rattle.plan_lines.specs.declared.change.Change.{Change}
use Rattle.plan_lines.specs.declared.change.Change.TheVariants as change
use Rattle.production_table.specs.declared.tables.Table.{Table}
use Rattle.production_table.specs.Changes.{with_balance, with_import, with_price, with_row, with_surplus, with_want, without_row}
use Rattle.table_rows.specs.declared.refusals.TableRefusal.{TableRefusal}
use Rattle.table_rows.specs.declared.refusals.TableRefusal.TheVariants.{NoName, NoPrice}
use Rattle.planner_tables.specs.declared.steps.Step.{Step}
use Rattle.planner_tables.specs.declared.steps.Step.TheVariants as step
use Rattle.planner_tables.specs.declared.undos.TablePart.{TablePart}
use Rattle.planner_tables.specs.declared.undos.TableUndo.{TableUndo}
use Rattle.planner_tables.specs.Effects.{AreSoundTables, IsSoundOn, table_after}
use Rattle.table_rows.specs.Names.{good_named, setup_named}
use Rattle.planner_tables.specs.Undoing.{part_restored, tables_restored}

-- the table that is meant, of the same name and sound, and the part that leads back
pub record MakesTable (g : Game) (meant : Result Table TableRefusal) (part : TablePart) (old new : Table) : Type 0 where
  pub made : meant ≡ Ok new
  pub back : part_restored part new ≡ old
  pub name : new.name ≡ old.name
  pub sound : IsSoundOn g new

-- ---- steps: changes of one table, with things in place of their names
abbrev pub step_effect : Game → Step → Table → Result Table TableRefusal
step_effect g (step.Row label setup) t = table_after (NoName label) (with_row g label setup t)
step_effect g (step.Unrow label) t = table_after (NoName label) (without_row label t)
step_effect g (step.Price label price) t = table_after (NoName label) (with_price label price t)
step_effect g (step.Want object good amount) t = table_after (NoPrice object) (with_want good amount t)
step_effect g (step.Import object good price) t = table_after (NoPrice object) (with_import good price t)
step_effect g (step.Surplus object good price) t = table_after (NoPrice object) (with_surplus good price t)
step_effect g (step.Power on) t = Ok (with_balance on t).1

-- what a step names is there
abbrev pub StepFits : Game → Step → Type 0
StepFits g (step.Row label setup) = IsSoundSetup g setup
StepFits g (step.Unrow label) = Unit {0}
StepFits g (step.Price label price) = Unit {0}
StepFits g (step.Want object good amount) = good.0 < good_count g
StepFits g (step.Import object good price) = good.0 < good_count g
StepFits g (step.Surplus object good price) = good.0 < good_count g
StepFits g (step.Power on) = Unit {0}

abbrev pub is_step : Change → Bool
is_step (change.Row table label does machine parts) = true
is_step (change.Unrow table label) = true
is_step (change.Price table label price) = true
is_step (change.Want table object amount) = true
is_step (change.Import table object price) = true
is_step (change.Surplus table object price) = true
is_step (change.Power table on) = true
is_step other = false

-- the table that a step changes
abbrev pub step_table : Change → List ℕ
step_table (change.Row table label does machine parts) = table
step_table (change.Unrow table label) = table
step_table (change.Price table label price) = table
step_table (change.Want table object amount) = table
step_table (change.Import table object price) = table
step_table (change.Surplus table object price) = table
step_table (change.Power table on) = table
step_table other = []

-- the step that a change asks for; changes that are no step ask for none
unfoldable pub step_named : Game → Change → Result Step TableRefusal
step_named g (change.Row table label does machine parts) = setup_named g does machine parts ▸ λ setup. Ok (step.Row label setup)
step_named g (change.Unrow table label) = Ok (step.Unrow label)
step_named g (change.Price table label price) = Ok (step.Price label price)
step_named g (change.Want table object amount) = good_named g object ▸ λ good. Ok (step.Want object good amount)
step_named g (change.Import table object price) = good_named g object ▸ λ good. Ok (step.Import object good price)
step_named g (change.Surplus table object price) = good_named g object ▸ λ good. Ok (step.Surplus object good price)
step_named g (change.Power table on) = Ok (step.Power on)
step_named g other = Ok (step.Power false)

-- ---- the tables that are meant, sound, and the part that leads back
pub record MakesTables (g : Game) (meant : Result (List Table) TableRefusal) (undo : TableUndo) (old new : List Table) : Type 0 where
  pub made : meant ≡ Ok new
  pub back : tables_restored undo new ≡ old
  pub sound : AreSoundTables g new
