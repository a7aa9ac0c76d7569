use Rattle.std.proofs.Common.{◌≡◌, ◌≢◌, ◌<◌, None, length, arith}
use Rattle.std.proofs.lemmas.Grind.{common_steps}
use Rattle.std.proofs.lemmas.Map.Text.{text_keys}
use Rattle.rocket_launches.specs.Clashes.{ends_at}
use Rattle.rocket_launches.proofs.ToldClashes.{longer_apart}
use Rattle.rocket_launches.proofs.middles.put.Goals as goal

pub returns-in-Ok-clause-within : goal.returns-in-Ok-clause-within
returns-in-Ok-clause-within c = λ other beyond.
    let past : length c.args.middle.now < length other = grind (arith, common_steps, beyond, c.max-table.ensures) in
    let further : c.args.table.now.longest < length other = grind (arith, common_steps, beyond, c.max-table.ensures) in
    let apart : other ≢ c.args.middle.now = longer_apart other c.args.middle.now past in
    let none : ends_at c.args.table.now other ≡ None = c.requires other further in
    grind (arith, text_keys, apart, none)

pub returns-in-Ok-clause-others : goal.returns-in-Ok-clause-others
returns-in-Ok-clause-others c = λ other apart. grind (arith, text_keys, apart)
