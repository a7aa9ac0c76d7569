use Rattle.std.proofs.Common.{arith}
use Rattle.json_text.proofs.Lexed.{ok_then3, err_then4}
use Rattle.json_text.proofs.Skipped.{skipped_fault, skipped_value, space_fault}
use Rattle.json_text.proofs.skip.skip_value.Goals as goal

pub returns-then-has_space-clause-fault : goal.returns-then-has_space-clause-fault
returns-then-has_space-clause-fault c = let h = c.has_space.ensures.space c.if-has_space.true in space_fault c.args.bytes.now c.args.at c.args.depth c.not_json.result.code c.not_json.result.at c.requires.depth h.0 h.1 c.not_json.ensures.code c.not_json.ensures.at

pub returns-clause-value : goal.returns-clause-value
returns-clause-value c = ok_then3 c.passed_end.result c.passed_end.ensures.value c.passed_end.ensures.stops c.passed_end.ensures.within (λ end v s h. skipped_value c.args.bytes.now c.args.at c.args.depth end (omega (arith, h.0)) h.1 v s)

pub returns-clause-fault : goal.returns-clause-fault
returns-clause-fault c = err_then4 c.passed_end.result c.passed_end.ensures.fault c.passed_end.ensures.cut c.passed_end.ensures.deep c.passed_end.ensures.code (λ f g cut deep code. skipped_fault c.args.bytes.now c.args.at c.args.depth f.at f.code g cut deep code)
