use Rattle.std.proofs.Common.{◌≤◌, ◌+◌, ◌++◌, ◌∷◌, [], ap, sym, ◌∙◌, subst}
use Rattle.edit_undo.specs.Edits.{Leads}
use Rattle.edit_undo.specs.Kept.{Kept}
use Rattle.edit_undo.proofs.Moves.{can_undo, history_less, last_done, session_less}
use Rattle.edit_undo.proofs.history.History.undo.Goals as goal

pub restore_all-requires : goal.restore_all-requires
restore_all-requires g c =
    let lead = g.E.Editable in
    let back : (before : _) × Leads lead.effect lead.takes lead.leads_back before c.in-Some.entry c.in-Some.inverses (lead.state c.args.target.now) = can_undo lead.effect lead.takes lead.leads_back c.args.self.now (lead.state c.args.target.now) c.in-Some.entry c.in-Some.inverses c.pop.new.self.items (sym (ap (λ (k : Kept _ _). k.done) c.self.view_is) ∙ c.in-Some.ensures.items) c.requires in
    (back.0, subst (λ d. Leads lead.effect lead.takes lead.leads_back back.0 d c.as_slice-2.result.now (lead.state c.args.target.now)) (sym c.as_slice.ensures) (subst (λ i. Leads lead.effect lead.takes lead.leads_back back.0 c.in-Some.entry i (lead.state c.args.target.now)) (sym c.as_slice-2.ensures) back.1))

pub returns-in-Ok-clause-session : goal.returns-in-Ok-clause-session
returns-in-Ok-clause-session g c =
    session_less c.args.self.now c.in-Some.entry c.in-Some.inverses c.pop.new.self.items c.put-in-Ok.new.list.items
    (sym (ap (λ (k : Kept _ _). k.done) c.self.view_is) ∙ c.in-Some.ensures.items)
    (c.put-in-Ok.ensures ∙ ap (λ u. u ++ c.in-Some.entry ∷ []) (c.reserve.ensures.items ∙ ap (λ (k : Kept _ _). k.undone) c.self.view_is))

pub returns-in-Ok-clause-history : goal.returns-in-Ok-clause-history
returns-in-Ok-clause-history g c = λ base h.
    let lead = g.E.Editable in
    history_less lead.effect lead.takes lead.leads_back c.args.self.now base (lead.state c.args.target.now) (lead.state c.restore_all.new.self) c.in-Some.entry c.in-Some.inverses c.pop.new.self.items c.put-in-Ok.new.list.items
    (sym (ap (λ (k : Kept _ _). k.done) c.self.view_is) ∙ c.in-Some.ensures.items)
    (c.put-in-Ok.ensures ∙ ap (λ u. u ++ c.in-Some.entry ∷ []) (c.reserve.ensures.items ∙ ap (λ (k : Kept _ _). k.undone) c.self.view_is))
    (λ before l. c.in-Ok.ensures.ok before (subst (λ d. Leads lead.effect lead.takes lead.leads_back before d c.as_slice-2.result.now (lead.state c.args.target.now)) (sym c.as_slice.ensures) (subst (λ i. Leads lead.effect lead.takes lead.leads_back before c.in-Some.entry i (lead.state c.args.target.now)) (sym c.as_slice-2.ensures) l)))
    h

pub returns-in-Ok-clause-work : goal.returns-in-Ok-clause-work
returns-in-Ok-clause-work g c =
    let lead = g.E.Editable in
    subst (λ d. c.restore_all.new.steps ≤ c.args.steps.now + lead.work (lead.state c.args.target.now) d (lead.state c.restore_all.new.self))
    (c.as_slice.ensures ∙ sym (last_done c.args.self.now c.in-Some.entry c.in-Some.inverses c.pop.new.self.items (sym (ap (λ (k : Kept _ _). k.done) c.self.view_is) ∙ c.in-Some.ensures.items)))
    c.in-Ok.ensures.work
