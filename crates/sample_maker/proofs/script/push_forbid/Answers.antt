use Rattle.sample_maker.specs.Script.{forbid}
use Rattle.sample_maker.proofs.script.push_forbid.Goals as goal

pub returns : goal.returns
unfolding forbid
returns c = rw (← c.summary-summary.ensures) c.write.ensures.bytes
