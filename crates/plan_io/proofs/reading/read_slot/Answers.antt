use Rattle.std.proofs.Common.{arith, refl, length}
use Rattle.std.proofs.lemmas.Option.{slice_get_read}
use Rattle.plan_io.proofs.FilesLemmas.{reads_share, share_is, none_left, within_of}
use Rattle.plan_io.proofs.reading.read_slot.Goals as goal

pub returns-in-Some-clause-bytes : goal.returns-in-Some-clause-bytes
returns-in-Some-clause-bytes c =
    let file = c.in-Some.file.now in
    let found = slice_get_read c.args.files.now _ c.args.slot.now.place file refl (within_of _ _ c.in-Some.ensures.lookup.0) c.in-Some.ensures.lookup.1 in
    let rest = rw c.deref.ensures.value at c.rest_of.ensures in
    reads_share c.args.files.now c.args.slot.now file _ _ _ (length c.args.buffer.now) found rest (omega arith) (c.copy_front-count.ensures.some c.requires) c.copy_front-count.ensures.front

pub returns-in-Some-clause-count : goal.returns-in-Some-clause-count
returns-in-Some-clause-count c =
    let file = c.in-Some.file.now in
    let found = slice_get_read c.args.files.now _ c.args.slot.now.place file refl (within_of _ _ c.in-Some.ensures.lookup.0) c.in-Some.ensures.lookup.1 in
    let rest = rw c.deref.ensures.value at c.rest_of.ensures in
    share_is c.args.files.now c.args.slot.now file _ _ _ _ found rest c.copy_front-count.ensures.count

pub returns-in-None-clause-bytes : goal.returns-in-None-clause-bytes
returns-in-None-clause-bytes c = rw (none_left c.args.files.now c.args.slot.now c.in-None.ensures.lookup.0) (tt, λ _ _. tt)

pub returns-in-None-clause-count : goal.returns-in-None-clause-count
returns-in-None-clause-count c = rw (none_left c.args.files.now c.args.slot.now c.in-None.ensures.lookup.0) tt
