use Rattle.std.proofs.Common.{◌∙◌, sym, ap, arith}
use Rattle.json_text.specs.SpanSeen.{text_seen}
use Rattle.json_text.proofs.LateKeys.{grown}
use Rattle.json_text.proofs.keys.add_late.Goals as goal

pub returns-clause-ok : goal.returns-clause-ok
returns-clause-ok c = λ m e. grown c.args.late.now.keys c.insert.new.self.keys c.in-Ok.copy c.args.members.now m c.in-Ok-insert.field-0 (omega arith) c.requires (ap text_seen e ∙ sym c.as_bytes.ensures ∙ sym c.in-Ok.ensures.items) c.in-Ok-insert.ensures.added c.in-Ok-insert.ensures.keys
