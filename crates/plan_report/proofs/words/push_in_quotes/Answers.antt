use Rattle.std.proofs.Common.{rules, arith}
use Rattle.std.proofs.lemmas.Grind.{common_steps}
use Rattle.plan_report.proofs.WordLemmas.{alone_in_quotes}
use Rattle.plan_report.proofs.words.push_in_quotes.Goals as goal

pub returns-in_default : goal.returns-in_default
returns-in_default c =
    let same = alone_in_quotes c.args.letter (λ low. grind (arith, common_steps, c.in_default)) in
    rw same (search rules)
