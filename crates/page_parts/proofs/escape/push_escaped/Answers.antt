use Rattle.std.proofs.Common.{rules, arith}
use Rattle.std.proofs.lemmas.Grind.{common_steps}
use Rattle.page_parts.proofs.EscapeLemmas.{stands_alone}
use Rattle.page_parts.proofs.escape.push_escaped.Goals as goal

pub returns-in_default : goal.returns-in_default
returns-in_default c =
    let same = stands_alone c.args.letter (λ low. grind (arith, common_steps, c.in_default)) in
    rw same (search rules)
