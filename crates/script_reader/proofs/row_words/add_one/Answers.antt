use Rattle.std.specs.Prelude.{Result, Err, IfErr}
use Rattle.std.proofs.Common.{subst, sym}
use Rattle.script_reader.specs.declared.fault.ScriptFault.{ScriptFault}
use Rattle.script_reader.specs.Reading.{Answers}
use Rattle.script_reader.specs.Arguments.{add_part}
use Rattle.script_reader.proofs.Readings.{answers_first, answers_memory, passed}
use Rattle.script_reader.proofs.PartLemmas.{answers_part}
use Rattle.script_reader.proofs.row_words.add_one.Goals as goal

pub returns-in_err-part-clause-fault : goal.returns-in_err-part-clause-fault
returns-in_err-part-clause-fault c =
    subst (λ (r : Result (Unit {0}) ScriptFault). IfErr r (λ fault. Answers (add_part c.args.parts.now.items c.args.words.now) (Err fault))) (sym (passed _ _ c.from_residual.ensures)) (answers_first _ _ _ c.in_err-part.ensures)

pub returns-clause-ok : goal.returns-clause-ok
returns-clause-ok c = answers_part c.args.parts.now.items c.push.new.self.items c.args.words.now c.in_ok-part.part c.in_ok-part.ensures c.in-Ok.ensures.items

pub returns-in_default-clause-fault : goal.returns-in_default-clause-fault
returns-in_default-clause-fault c = answers_memory _
