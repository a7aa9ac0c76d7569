use Rattle.std.proofs.Common.{◌∙◌, ap, arith}
use Rattle.json_text.specs.Marking.{mark_of}
use Rattle.json_text.proofs.MarkTable.{one_mark_more}
use Rattle.json_text.proofs.key_marks.put_marks.Goals as goal

pub loop-place-preserved : goal.loop-place-preserved
loop-place-preserved c =
    one_mark_more
    c.args.keys.now
    c.loop-place.marks
    c.loop-place.place
    c.mark_of.result
    c.place_number.result
    c.index-keys-place.result
    (omega arith)
    (c.mark_of.ensures.mark ∙ ap mark_of (c.as_bytes-key.ensures.value ∙ c.as_str.ensures ∙ c.index-keys-place.is))
    c.mark_of.ensures.within
    c.place_number.ensures
    c.loop-place.invariant
