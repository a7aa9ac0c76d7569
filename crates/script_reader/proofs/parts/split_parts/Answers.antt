use Rattle.std.specs.Prelude.{ℕ, List, ◌++◌, ◌≤◌, length, Ok}
use Rattle.std.proofs.Common.{rules, sym, ap, subst, ◌∙◌, arith}
use Rattle.script_reader.specs.declared.parts.PartWords.{PartWords}
use Rattle.script_reader.specs.Reading.{Answers}
use Rattle.script_reader.specs.PartWords.{written_parts, all_parts}
use Rattle.script_reader.proofs.Readings.{answers_of_fault, answers_memory}
use Rattle.script_reader.proofs.PartLemmas.{no_parts_there, part_length, part_some, part_more, parts_end}
use Rattle.script_reader.proofs.parts.split_parts.Goals as goal

pub returns-in_err-part : goal.returns-in_err-part
returns-in_err-part c = answers_of_fault _ c.in_err-part.field-0.0 _ c.from_residual.ensures (no_parts_there c.args.words.now c.loop-rest.parts.items c.loop-rest.rest.now c.in_err-part.field-0.0 c.loop-rest.invariant (search rules) c.in_err-part.ensures)

pub split_at-requires : goal.split_at-requires
split_at-requires c = subst (λ (n : ℕ). n ≤ length c.loop-rest.rest.now) (sym c.len.ensures) (part_length c.loop-rest.rest.now c.in_ok-part.part c.in_ok-part.ensures)

pub loop-rest-preserved : goal.loop-rest-preserved
loop-rest-preserved c = part_more c.args.words.now c.loop-rest.rest.now c.loop-rest.parts.items c.push.new.self.items c.in_ok-part.part c.len.result c.loop-rest.invariant c.in_ok-part.ensures c.len.ensures c.in-Ok.ensures.items ∙ ap (λ (r : List (List ℕ)). written_parts c.push.new.self.items ++ r) (sym c.split_at.ensures.back)

pub loop-rest-smaller : goal.loop-rest-smaller
loop-rest-smaller c = omega (arith, part_some c.in_ok-part.part, c.len.ensures, c.split_at.ensures.back_len)

pub returns-in-Err : goal.returns-in-Err
returns-in-Err c = answers_memory _

pub returns : goal.returns
returns c = subst (λ (p : List PartWords). Answers (all_parts c.args.words.now) (Ok p)) (sym c.from_vec.ensures) (parts_end c.args.words.now c.loop-rest.parts.items c.loop-rest.rest.now c.loop-rest.invariant (search rules))
