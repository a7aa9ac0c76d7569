use Rattle.certificate_file.proofs.Once.{said_once}
use Rattle.certificate_file.proofs.laws.certificates_say_one_list.Goals as goal

pub returns : goal.returns
returns c = λ bytes es fs. said_once bytes es fs
