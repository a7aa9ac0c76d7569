use Rattle.std.proofs.Common.{rules, arith}
use Rattle.std.proofs.lemmas.Grind.{common_steps}
use Rattle.page_rows.proofs.LabelLemmas.{control, stands_alone}
use Rattle.page_rows.proofs.labels.push_labelled.Goals as goal

pub returns-in-0-to-31 : goal.returns-in-0-to-31
returns-in-0-to-31 c =
    let same = control c.args.letter (omega (arith, c.in-0-to-31)) in
    rw same (search rules)

pub returns-in_default : goal.returns-in_default
returns-in_default c =
    let same = stands_alone c.args.letter (λ low. grind (arith, common_steps, c.in_default)) in
    rw same (search rules)
