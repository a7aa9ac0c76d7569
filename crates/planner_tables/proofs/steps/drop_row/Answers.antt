use Rattle.std.proofs.Common.{◌≡◌, ◌≤◌, ℕ, List, Ok, subst}
use Rattle.production_table.specs.Changes.{without_row}
use Rattle.std.specs.Prelude.{vec_capacity}
use Rattle.planner_tables.proofs.StepLemmas.{drop_made}
use Rattle.planner_tables.proofs.steps.drop_row.Goals as goal

pub returns-in-Ok-drop_row-clause-ok : goal.returns-in-Ok-drop_row-clause-ok
returns-in-Ok-drop_row-clause-ok c =
    drop_made c.args.game.now c.args.table.now c.drop_row.new.self c.args.label.now c.in-Ok-drop_row.place c.in-Ok-drop_row.row c.in-Ok.room c.requires.table c.drop_row.ensures.sound
    (subst (λ (l : List ℕ). without_row l c.args.table.now ≡ Ok ((c.in-Ok-drop_row.place, c.in-Ok-drop_row.row), c.drop_row.new.self)) c.as_str.ensures c.in-Ok-drop_row.ensures.change) c.in-Ok.ensures.len (subst (λ n. n ≤ vec_capacity c.in-Ok.room) c.len.ensures c.in-Ok.ensures.capacity)
