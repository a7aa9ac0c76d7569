use Rattle.std.proofs.Common.{◌∙◌, ap, refl, sym, subst}
use Rattle.data_edit.specs.declared.books.Book.{Book}
use Rattle.data_edit.specs.Names.{KeepsNames}
use Rattle.depend_index.specs.Indexed.{IsIndex}
use Rattle.game_types.specs.Nodes.{shape_of}
use Rattle.planner_tables.specs.Effects.{AreSoundTables}
use Rattle.planning_state.proofs.HeldLemmas.{names-still, work-held}
use Rattle.planning_state.proofs.held.restore_held.Goals as goal

pub returns-in-Ok-clause-work : goal.returns-in-Ok-clause-work
returns-in-Ok-clause-work g c =
    work-held c.args.book.now c.restore_parts.new.book c.args.tables.now.items c.restore_parts.new.tables.items c.args.changes.now c.as_slice.result.now c.args.worlds.now c.settle_edits.new.worlds c.args.steps.now c.settle_edits.new.steps
    c.requires.kept.worlds c.in-Ok.ensures.kept.worlds
    (subst (λ (b : Book). KeepsNames c.args.book.now.game b.game) (sym (c.in_ok-forward.ensures.book ∙ c.requires.leads.2.back)) c.requires.leads.2.comes.names)
    (c.as_slice.ensures.value ∙ c.in_ok-edits.ensures) c.in-Ok.ensures.work

pub returns-in-Ok-clause-tables : goal.returns-in-Ok-clause-tables
returns-in-Ok-clause-tables g c =
    subst (λ (b : Book). AreSoundTables b.game c.restore_parts.new.tables.items) (sym (c.in_ok-forward.ensures.book ∙ c.requires.leads.2.back))
    (subst (AreSoundTables c.requires.leads.0.game) (sym (c.in_ok-forward.ensures.tables ∙ c.requires.leads.2.tables_back)) c.requires.leads.2.fit)

pub returns-clause-index : goal.returns-clause-index
returns-clause-index g c =
    subst (λ (b : Book). IsIndex b.game c.settle_edits.new.index) (sym (c.take_all_back.ensures.book ∙ c.in_ok-forward.ensures.book_back))
    (c.settle_edits.ensures.still c.args.book.now.game (sym (ap (λ (b : Book). shape_of b.game) (c.in_ok-forward.ensures.book ∙ c.requires.leads.2.back) ∙ c.requires.leads.2.comes.names.shape)) c.requires.index)

pub returns-in-Ok-clause-names : goal.returns-in-Ok-clause-names
returns-in-Ok-clause-names g c =
    subst (λ (b : Book). KeepsNames c.args.book.now.game b.game) (sym (c.in_ok-forward.ensures.book ∙ c.requires.leads.2.back)) c.requires.leads.2.comes.names

pub returns-in_err-edits-clause-names : goal.returns-in_err-edits-clause-names
returns-in_err-edits-clause-names g c = names-still c.args.book.now c.args.book.now refl

pub returns-in_err-forward-clause-names : goal.returns-in_err-forward-clause-names
returns-in_err-forward-clause-names g c = names-still c.args.book.now c.restore_parts.new.book c.in_err-forward.ensures.err.0

pub returns-clause-names : goal.returns-clause-names
returns-clause-names g c = names-still c.args.book.now c.take_all_back.new.book (c.take_all_back.ensures.book ∙ c.in_ok-forward.ensures.book_back)
