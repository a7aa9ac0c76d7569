use Rattle.depend_index.proofs.AlikeLemmas.{index_written, on_ok}
use Rattle.depend_index.proofs.index.Index.note.Goals as goal

pub returns-clause-noted : goal.returns-clause-noted
returns-clause-noted c =
    on_ok c.note_unlocks.result
    (λ noted old new at is alike. index_written old new c.args.shape.now c.args.edits.now c.args.self.now c.as_mut_slice.result.now c.note_products.new.lists c.as_mut_slice-2.result.now c.note_unlocks.new.lists
    c.as_mut_slice.ensures.value c.as_mut_slice-2.ensures.value at is alike c.note_products.ensures.widen c.note_unlocks.ensures.widen c.in_ok-note_products.ensures.noted noted)
    c.note_unlocks.ensures.noted
