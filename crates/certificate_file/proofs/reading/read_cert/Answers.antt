use Rattle.serde_json.specs.View.{view}
use Rattle.certificate_file.proofs.ReadingLemmas.{certificate_read}
use Rattle.certificate_file.proofs.reading.read_cert.Goals as goal

pub returns : goal.returns
returns c = certificate_read c.args.bytes.now (view c.in_ok-value.value) c.certificate_in.result c.in_ok-value.ensures c.certificate_in.ensures
