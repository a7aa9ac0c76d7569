use Rattle.std.specs.Prelude.{List, [], ◌∷◌, ◌+◌, drop, Ok}
use Rattle.std.proofs.Common.{sym, ap, subst, ◌∙◌}
use Rattle.std.proofs.lemmas.List.{drop_more}
use Rattle.script_reader.specs.declared.parts.PartWords.{PartWords}
use Rattle.script_reader.specs.Reading.{Answers}
use Rattle.script_reader.specs.Arguments.{add_parts}
use Rattle.script_reader.proofs.PartLemmas.{value_more, fault_more, end_more}
use Rattle.script_reader.proofs.Readings.{answers_of_fault}
use Rattle.script_reader.proofs.row_words.read_parts.Goals as goal

pub returns-in_err-add_one : goal.returns-in_err-add_one
returns-in_err-add_one c = answers_of_fault _ c.in_err-add_one.field-0.0 _ c.from_residual.ensures (fault_more [] c.loop-part.parts.items c.args.words.now c.part-item.result (drop (c.loop-part.part-index + 1) c.args.words.now) c.in_err-add_one.field-0.0 (λ r h. c.loop-part.invariant r (subst (λ (l : List PartWords). Answers (add_parts c.loop-part.parts.items l) r) (sym (drop_more c.args.words.now c.loop-part.part-index c.part-item.result c.loop-part-test.true ∙ ap (λ (p : PartWords). p ∷ drop (c.loop-part.part-index + 1) c.args.words.now) (sym c.part-item.is))) h)) c.in_err-add_one.ensures.fault)

pub loop-part-preserved : goal.loop-part-preserved
loop-part-preserved c = value_more [] c.loop-part.parts.items c.add_one.new.parts.items c.args.words.now c.part-item.result (drop (c.loop-part.part-index + 1) c.args.words.now) (λ r h. c.loop-part.invariant r (subst (λ (l : List PartWords). Answers (add_parts c.loop-part.parts.items l) r) (sym (drop_more c.args.words.now c.loop-part.part-index c.part-item.result c.loop-part-test.true ∙ ap (λ (p : PartWords). p ∷ drop (c.loop-part.part-index + 1) c.args.words.now) (sym c.part-item.is))) h)) c.in_ok-add_one.ensures.ok

pub returns : goal.returns
returns c = subst (λ r. Answers (add_parts [] c.args.words.now) (Ok r)) (sym c.from_vec.ensures) (c.loop-part.invariant (Ok c.loop-part.parts.items) (end_more c.loop-part.parts.items c.args.words.now c.loop-part.part-index c.loop-part-test.false))
