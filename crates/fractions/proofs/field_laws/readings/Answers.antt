use Rattle.fractions.proofs.Grammar.{numeral_found, quotient_found}
use Rattle.fractions.proofs.ReadsAs.{same_numeral, same_quotient, not_both}
use Rattle.fractions.proofs.Short.{short_magnitude}
use Rattle.fractions.proofs.field_laws.readings.Goals as goal

pub returns : goal.returns
returns c =
    record {
      numeral = λ text m n p q. same_numeral text m n (numeral_found text m p) q;
      quotient = λ text m n p q. same_quotient text m n (quotient_found text m p) q;
      apart = not_both;
      short = short_magnitude;
    }
