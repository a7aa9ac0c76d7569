use Rattle.std.proofs.Common.{◌≡◌, ◌∙◌, ◌++◌, List, append-nil, ap, arith, sym}
use Rattle.plan_base.proofs.Walks.{drop_all}
use Rattle.plan_lines.specs.declared.change.Change.{Change}
use Rattle.state_changes.specs.Actions.{edits_named}
use Rattle.state_changes.proofs.edits.edits_named.Goals as goal

pub returns : goal.returns
returns c =
    sym (append-nil c.loop-change.edits.items)
    ∙ ap (λ (rest : List Change). c.loop-change.edits.items ++ edits_named c.args.game.now rest) (sym (drop_all c.args.changes.now c.loop-change.change-index (omega (arith, c.loop-change-test.false))))
    ∙ c.loop-change.invariant
