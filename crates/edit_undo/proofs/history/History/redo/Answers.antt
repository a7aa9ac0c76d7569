use Rattle.std.proofs.Common.{◌≤◌, ◌+◌, ◌++◌, ◌∷◌, [], ap, sym, ◌∙◌, subst}
use Rattle.edit_undo.specs.Edits.{Leads}
use Rattle.edit_undo.specs.Kept.{Kept}
use Rattle.edit_undo.proofs.Moves.{history_again, last_undone, session_again}
use Rattle.edit_undo.proofs.history.History.redo.Goals as goal

pub returns-in-Ok-clause-session : goal.returns-in-Ok-clause-session
returns-in-Ok-clause-session g c =
    session_again c.args.self.now c.in-Some.edits c.from_vec.result c.put-in-Ok.new.list.items c.pop.new.self.items
    (sym (ap (λ (k : Kept _ _). k.undone) c.self.view_is) ∙ c.in-Some.ensures.items)
    (c.put-in-Ok.ensures ∙ ap (λ d. d ++ (c.in-Some.edits, c.from_vec.result) ∷ []) (c.reserve.ensures.items ∙ ap (λ (k : Kept _ _). k.done) c.self.view_is))

pub returns-in-Ok-clause-history : goal.returns-in-Ok-clause-history
returns-in-Ok-clause-history g c = λ base h.
    let lead = g.E.Editable in
    history_again lead.effect lead.takes lead.leads_back c.args.self.now base (lead.state c.args.target.now) (lead.state c.apply_all.new.self) c.in-Some.edits c.in-Ok.inverses.items c.from_vec.result c.put-in-Ok.new.list.items c.pop.new.self.items
    (sym (ap (λ (k : Kept _ _). k.undone) c.self.view_is) ∙ c.in-Some.ensures.items)
    (c.put-in-Ok.ensures ∙ ap (λ d. d ++ (c.in-Some.edits, c.from_vec.result) ∷ []) (c.reserve.ensures.items ∙ ap (λ (k : Kept _ _). k.done) c.self.view_is))
    c.from_vec.ensures
    (subst (λ d. Leads lead.effect lead.takes lead.leads_back (lead.state c.args.target.now) d c.in-Ok.inverses.items (lead.state c.apply_all.new.self)) c.as_slice.ensures c.in-Ok.ensures.ok)
    h

pub returns-in-Ok-clause-work : goal.returns-in-Ok-clause-work
returns-in-Ok-clause-work g c =
    let lead = g.E.Editable in
    subst (λ d. c.apply_all.new.steps ≤ c.args.steps.now + lead.work (lead.state c.args.target.now) d (lead.state c.apply_all.new.self))
    (c.as_slice.ensures ∙ sym (last_undone c.args.self.now c.in-Some.edits c.pop.new.self.items (sym (ap (λ (k : Kept _ _). k.undone) c.self.view_is) ∙ c.in-Some.ensures.items)))
    c.in-Ok.ensures.work
