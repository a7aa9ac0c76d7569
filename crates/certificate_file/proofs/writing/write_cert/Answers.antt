use Rattle.serde_json.specs.View.{view}
use Rattle.certificate_file.proofs.TreeLemmas.{written_said, written_text}
use Rattle.certificate_file.proofs.writing.write_cert.Goals as goal

pub returns-clause-text : goal.returns-clause-text
returns-clause-text c = written_text c.text_of.result (view c.in_ok-value.value) c.args.entries.now c.in_ok-value.ensures.0 c.text_of.ensures.text

pub returns-clause-said : goal.returns-clause-said
returns-clause-said c = written_said c.text_of.result (view c.in_ok-value.value) c.args.entries.now c.in_ok-value.ensures.0 c.in_ok-value.ensures.1 c.text_of.ensures.utf8 c.text_of.ensures.reads_back
