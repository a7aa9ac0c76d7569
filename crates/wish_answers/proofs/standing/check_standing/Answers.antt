use Rattle.std.proofs.Common.{List, subst}
use Rattle.std.specs.Prelude.{OnOk}
use Rattle.game_types.specs.declared.games.Game.{Game}
use Rattle.production_table.specs.declared.tables.Table.{Table}
use Rattle.wish_answers.specs.Meeting.{TablesMeet}
use Rattle.wish_answers.proofs.standing.check_standing.Goals as goal

pub returns : goal.returns
returns c =
    let meets : Game → List Table → Type 0 = λ g ts. OnOk c.check_tables.result (TablesMeet g c.args.reached.now c.args.name.now c.args.wish.now ts) in
    subst (λ (ts : List Table). meets c.args.planner.now.state.book.game ts) c.tables.ensures.tables (subst (λ (g : Game). meets g c.tables.result.now) c.game.ensures.game c.check_tables.ensures)
