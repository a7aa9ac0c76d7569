use Rattle.std.proofs.Common.{ap, sym, ◌∙◌}
use Rattle.edit_undo.specs.Kept.{Kept}
use Rattle.edit_undo.proofs.Moves.{history_more}
use Rattle.edit_undo.proofs.history.History.doit.Goals as goal

pub returns-in-Ok-apply_all-clause-history : goal.returns-in-Ok-apply_all-clause-history
returns-in-Ok-apply_all-clause-history g c = λ base h. history_more g.E.Editable.effect g.E.Editable.takes g.E.Editable.leads_back c.args.self.now base _ _ c.as_slice.result.now c.from_vec.result c.in-Ok-apply_all.inverses.items c.from_vec-in-Ok-apply_all.result c.reserve.new.self.items c.put.new.list.items c.clear.new.self.items
    c.put.ensures (c.reserve.ensures.items ∙ ap (λ (k : Kept _ _). k.done) c.self.view_is) (c.from_vec.ensures ∙ sym c.as_slice.ensures.value) c.from_vec-in-Ok-apply_all.ensures c.clear.ensures.items c.in-Ok-apply_all.ensures.ok h
