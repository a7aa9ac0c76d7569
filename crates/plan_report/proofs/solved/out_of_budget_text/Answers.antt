use Rattle.std.proofs.Common.{ap₂, ◌∙◌, ◌++◌, ◌∷◌, List, ℕ}
use Rattle.std.specs.Prelude.{codes, decimal}
use Rattle.plan_report.proofs.solved.out_of_budget_text.Goals as goal

pub returns : goal.returns
returns c = c.in_ok-format.ensures.ok ∙ ap₂ (λ (table trail : List ℕ). decimal c.args.line ++ (codes " refused V2 " ++ (table ++ 10 ∷ trail))) c.in_ok-table.ensures c.in_ok-trail.ensures
