use Rattle.std.proofs.Common.{◌∙◌, length, ap, refl, subst, sym}
use Rattle.edit_undo.specs.Kept.{session_of}
use Rattle.plan_lines.specs.declared.command.Command.{Command}
use Rattle.planner_core.specs.Replies.{summary_reply}
use Rattle.planner_core.specs.Lines.{IsFree, Planned}
use Rattle.planner_core.proofs.planner.Planner.step_free.Goals as goal

pub returns-in-Summary-clause-reply : goal.returns-in-Summary-clause-reply
returns-in-Summary-clause-reply g c =
    let planning = c.self-in-Summary.inside.planning in
    subst (λ (command : Command). IsFree c.args.self.now command c.args.self.now c.summary_reply.result) (sym c.in-Summary.is) (
      refl,
      c.summary_reply.ensures
          ∙ (ap (λ done. summary_reply planning done c.undone.result) c.done.ensures
          ∙ (ap (λ undone. summary_reply planning (length (session_of c.self-in-Summary.inside.history).done) undone) c.undone.ensures
          ∙ ap (λ (p : Planned). summary_reply p.state (length (session_of p.kept).done) (length (session_of p.kept).undone)) c.self-in-Summary.view_is)),
    )
