use Rattle.std.proofs.Common.{◌≡◌, List, refl, rules, subst}
use Rattle.serde_json.specs.Written.{compact_text}
use Rattle.certificate_file.specs.Said.{HaveLines, IsCertificate}
use Rattle.certificate_file.specs.Tree.{certificate_tree}
use Rattle.certificate_file.specs.declared.CertEntry.{CertEntry}
use Rattle.script_runner.proofs.ProvingLemmas.{entered_part, proof_cut, proof_many, proof_told, proof_wants}
use Rattle.script_runner.proofs.proving.prove_script.Goals as goal

pub returns-then-has_many_lines-clause-leaves : goal.returns-then-has_many_lines-clause-leaves
returns-then-has_many_lines-clause-leaves g c =
    proof_many c.args.planner.now c.args.script.now c.args.solved.now.items (g.K.Sink.written c.args.out.now) (g.K.Sink.written c.tell_many_lines.new.out) c.args.steps.now c.tell_many_lines.result c.requires.none_yet (c.if-has_many_lines.ensures.many refl) c.tell_many_lines.ensures.tells

pub returns-in-Err-clause-leaves : goal.returns-in-Err-clause-leaves
returns-in-Err-clause-leaves g c =
    proof_wants c.args.planner.now c.args.script.now c.answer_all.new.solved.items (g.K.Sink.written c.args.out.now) c.args.steps.now c.answer_all.new.steps c.in-Err.ensures.all c.answer_all.ensures.later

pub returns-in_default-clause-leaves : goal.returns-in_default-clause-leaves
returns-in_default-clause-leaves g c =
    proof_wants c.args.planner.now c.args.script.now c.answer_all.new.solved.items (g.K.Sink.written c.args.out.now) c.args.steps.now c.answer_all.new.steps
    (entered_part c.args.planner.now c.args.script.now c.answer_all.new.solved.items c.in-Ok.refused c.answer_all.new.entries.items c.args.steps.now c.answer_all.new.steps c.in-Ok.ensures.all) c.answer_all.ensures.later

pub returns-in-Ok-tell_certificate-clause-leaves : goal.returns-in-Ok-tell_certificate-clause-leaves
returns-in-Ok-tell_certificate-clause-leaves g c =
    let text : c.in-Ok-write_cert.text ≡ compact_text (certificate_tree c.answer_all.new.entries.items) = search rules in
    let same : c.as_slice.result.now ≡ c.answer_all.new.entries.items = cc c.as_slice.ensures.value in
    let said = subst (λ (es : List CertEntry). HaveLines es → IsCertificate c.in-Ok-write_cert.text es) same c.in-Ok-write_cert.ensures.said in
    rw c.end_of.ensures
    (proof_told c.args.planner.now c.args.script.now c.answer_all.new.solved.items c.in-Ok.refused c.answer_all.new.entries.items c.in-Ok-write_cert.text (g.K.Sink.written c.args.out.now) (g.K.Sink.written c.tell_certificate.new.out) c.args.steps.now c.answer_all.new.steps
    c.in-Ok.ensures.all text said c.answer_all.ensures.later c.in-Ok-tell_certificate.ensures.ok)

pub returns-clause-leaves : goal.returns-clause-leaves
returns-clause-leaves g c =
    let text : c.in-Ok-write_cert.text ≡ compact_text (certificate_tree c.answer_all.new.entries.items) = search rules in
    let same : c.as_slice.result.now ≡ c.answer_all.new.entries.items = cc c.as_slice.ensures.value in
    let said = subst (λ (es : List CertEntry). HaveLines es → IsCertificate c.in-Ok-write_cert.text es) same c.in-Ok-write_cert.ensures.said in
    proof_cut c.args.planner.now c.args.script.now c.answer_all.new.solved.items c.in-Ok.refused c.answer_all.new.entries.items c.in-Ok-write_cert.text (g.K.Sink.written c.args.out.now) (g.K.Sink.written c.tell_certificate.new.out) c.args.steps.now c.answer_all.new.steps
    c.in-Ok.ensures.all text said c.answer_all.ensures.later c.in-Err-tell_certificate.ensures.err
