use Rattle.std.proofs.Common.{ap, ◌∙◌, ◌++◌, decimal}
use Rattle.std.specs.Prelude.{codes}
use Rattle.plan_report.proofs.answers.summary_text.Goals as goal

pub returns : goal.returns
returns c =
    c.in_ok-format.ensures.ok ∙ ap (λ masks. decimal c.args.line ++ (codes " summary reached " ++ (decimal c.args.reached ++ (codes " of " ++ (decimal c.args.nodes ++ masks))))) c.in_ok-masks.ensures
