use Rattle.json_text.specs.Accepted.{all_bounds}
use Rattle.json_text.proofs.Parts.{accepted_utf8}
use Rattle.json_text.proofs.laws.texts_are_utf8.Goals as goal

pub returns : goal.returns
returns c = λ w bytes t h. accepted_utf8 all_bounds w bytes t h
