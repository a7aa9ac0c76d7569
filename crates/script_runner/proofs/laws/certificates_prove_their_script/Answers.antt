use Rattle.script_runner.proofs.RecheckLemmas.{ends_done, proved_but_wide}
use Rattle.script_runner.proofs.laws.certificates_prove_their_script.Goals as goal

pub returns-clause-lines : goal.returns-clause-lines
returns-clause-lines c = λ first last script certificate entries judged proof trial. proved_but_wide first script certificate entries judged last proof trial

pub returns-clause-ends : goal.returns-clause-ends
returns-clause-ends c = λ first script certificate text entries end steps proof narrow ends memory writes. ends_done first script certificate entries end text steps proof narrow ends memory writes
