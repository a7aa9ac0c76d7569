use Rattle.std.proofs.Common.{◌∙◌, ◌++◌, ap, sym, arith}
use Rattle.std.proofs.lemmas.Str.Pattern.{strip_prefix_char}
use Rattle.rocket_launches.proofs.Clashing.{behind_front}
use Rattle.rocket_launches.proofs.cargo_middles.behind.Goals as goal

pub returns-in-Some : goal.returns-in-Some
returns-in-Some c =
    let front = c.in-Some.ensures.cases in
    behind_front c.args.text.now c.args.front.now c.in-Some.rest.now c.strip_prefix-in-Some.result (front.1.1 ∙ ap (λ t. c.args.front.now ++ t) (sym front.2))
    (strip_prefix_char 58 c.in-Some.rest.now c.strip_prefix-in-Some.result c.strip_prefix-in-Some.ensures.cases (omega arith))
