use Rattle.std.proofs.Common.{◌∙◌, ◌++◌, false, ap, sym}
use Rattle.std.specs.Prelude.{codes}
use Rattle.std.proofs.lemmas.Str.Pattern.{starts_text}
use Rattle.rocket_launches.proofs.Clashing.{dumped_none, dumped_some}
use Rattle.rocket_launches.proofs.flight_names.dumped_flight.Goals as goal

pub returns-in-Some : goal.returns-in-Some
returns-in-Some c =
    let front = c.in-Some.ensures.cases in
    c.flight_in.ensures ∙ dumped_some c.args.game.now c.args.name.now c.in-Some.text.now (front.1.1 ∙ ap (λ t. codes "launch:" ++ t) (sym front.2))

pub returns-in-None : goal.returns-in-None
returns-in-None c = dumped_none c.args.game.now c.args.name.now (starts_text false (codes "launch:") c.args.name.now c.in-None.ensures.cases)
