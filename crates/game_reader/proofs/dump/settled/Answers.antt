use Rattle.std.proofs.Common.{◌∙◌, Err, ap, sym}
use Rattle.game_reader.proofs.dump.settled.Goals as goal

pub returns-in-Err-clause-same : goal.returns-in-Err-clause-same
returns-in-Err-clause-same c = λ had. c.in-Err.is ∙ ap Err (sym (c.settled.ensures.same (λ out. had (c.settled.ensures.code ∙ out))))
