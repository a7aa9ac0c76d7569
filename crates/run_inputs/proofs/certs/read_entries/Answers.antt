use Rattle.run_inputs.proofs.CertLemmas.{cert_of}
use Rattle.run_inputs.proofs.certs.read_entries.Goals as goal

pub returns-in-Ok-clause-entries : goal.returns-in-Ok-clause-entries
returns-in-Ok-clause-entries g c = cert_of (g.S.Store.shelf c.args.store.now) c.args.name.now c.in-Ok.bytes.items c.deref.result.now c.entries_of.result c.in-Ok.ensures.input c.deref.ensures.value c.entries_of.ensures
