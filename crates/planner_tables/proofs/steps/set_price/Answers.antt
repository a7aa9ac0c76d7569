use Rattle.std.proofs.Common.{◌≡◌, ◌∙◌, ℕ, List, Ok, Err, sym, ap, subst}
use Rattle.std.specs.Prelude.{position}
use Rattle.production_table.specs.Changes.{with_price}
use Rattle.production_table.specs.Tables.{is_label}
use Rattle.planner_tables.proofs.StepLemmas.{price_made, price_unknown}
use Rattle.planner_tables.proofs.steps.set_price.Goals as goal

pub returns-in_default-clause-fault : goal.returns-in_default-clause-fault
returns-in_default-clause-fault c = λ refusal e. price_unknown c.args.table.now c.args.label.now c.args.price.now (ap (λ (l : List ℕ). position (is_label l) c.args.table.now.rows) (sym c.as_str.ensures) ∙ (sym c.find_row.ensures ∙ c.in_default.is)) ∙ ap Err (c.no_name.ensures refusal e)

pub returns-in-Ok-clause-ok : goal.returns-in-Ok-clause-ok
returns-in-Ok-clause-ok c =
    price_made c.args.game.now c.args.table.now c.set_price.new.self c.args.label.now c.args.price.now c.in-Ok.price c.in-Some.row c.requires.table c.set_price.ensures.sound
    (ap (λ (l : List ℕ). position (is_label l) c.args.table.now.rows) (sym c.as_str.ensures) ∙ (sym c.find_row.ensures ∙ c.in-Some.is))
    (subst (λ (l : List ℕ). with_price l c.args.price.now c.args.table.now ≡ Ok (c.in-Ok.price, c.set_price.new.self)) c.as_str-2.ensures c.in-Ok.ensures.change)
