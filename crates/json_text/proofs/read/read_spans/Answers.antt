use Rattle.std.proofs.Common.{◌∙◌, ◌≢◌, sym, subst, arith, [], refl}
use Rattle.json_text.specs.Machine.{start, done}
use Rattle.json_text.specs.Seen.{wishes}
use Rattle.json_text.specs.SpanSeen.{span_seen}
use Rattle.json_text.proofs.Steps.{from-end}
use Rattle.json_text.proofs.Lexed.{said}
use Rattle.json_text.proofs.SpanLemmas.{from-first, from-done-refused}
use Rattle.json_text.proofs.Sound.{sound}
use Rattle.json_text.proofs.Faults.{first_fault}
use Rattle.json_text.specs.Accepted.{IsFault, all_bounds}
use Rattle.json_text.specs.declared.fault.JsonFault.{JsonFault}
use Rattle.json_text.specs.declared.fault.JsonCode.TheVariants.{NoMemory}
use Rattle.json_text.proofs.read.read_spans.Goals as goal

pub returns-then-next-bytes-clause-tree : goal.returns-then-next-bytes-clause-tree
returns-then-next-bytes-clause-tree c =
    let w = wishes c.args.wanted.now in
    let bytes = c.args.bytes.now in
    let v = span_seen c.in-Ok.tree in
    sound all_bounds w bytes v (sym (from-first w bytes start) ∙ c.skip_space-at.ensures.skips w start tt ∙ c.in-Ok.ensures.ok [] refl
    ∙ c.skip_space-next.ensures.skips w (done v) tt ∙ from-end w bytes c.skip_space-next.result (done v) (omega arith))

pub returns-in-Ok-clause-fault : goal.returns-in-Ok-clause-fault
returns-in-Ok-clause-fault c = λ _.
    let w = wishes c.args.wanted.now in
    let bytes = c.args.bytes.now in
    let v = span_seen c.in-Ok.tree in
    first_fault w bytes c.not_json.result.code c.not_json.result.at (sym (from-first w bytes start) ∙ c.skip_space-at.ensures.skips w start tt ∙ c.in-Ok.ensures.ok [] refl
    ∙ c.skip_space-next.ensures.skips w (done v) tt ∙ from-done-refused w bytes c.skip_space-next.result v (omega arith) (c.skip_space-next.ensures.no_space (omega arith)) ∙ said _ _ _ _ c.not_json.ensures.code c.not_json.ensures.at)

pub returns-clause-fault : goal.returns-clause-fault
returns-clause-fault c = λ nm.
    let w = wishes c.args.wanted.now in
    let bytes = c.args.bytes.now in
    let had : c.in-Err.fault.code ≢ NoMemory = λ out. nm (c.settled.ensures.code ∙ out) in
    subst (λ (f : JsonFault). IsFault w bytes f.code f.at) (sym (c.settled.ensures.same had))
    (first_fault w bytes c.in-Err.fault.code c.in-Err.fault.at (sym (from-first w bytes start) ∙ c.skip_space-at.ensures.skips w start tt ∙ c.in-Err.ensures.fault had [] refl))
