use Rattle.json_text.specs.Accepted.{all_bounds}
use Rattle.json_text.proofs.Parts.{accepted_numerals}
use Rattle.json_text.proofs.laws.numbers_are_numerals.Goals as goal

pub returns : goal.returns
returns c = λ w bytes t h. accepted_numerals all_bounds w bytes t h
