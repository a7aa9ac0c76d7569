use Rattle.std.proofs.Common.{◌∙◌, length, ◌≤◌, arith}
use Rattle.rocket_launches.proofs.NameLemmas.{all_added, taken_none}
use Rattle.rocket_launches.proofs.adding.add_names.Goals as goal

pub returns : goal.returns
returns c =
    let end : length c.args.new.now ≤ c.loop-name.name-index = omega (arith, c.loop-name-test.false) in (
      c.loop-name.invariant.taken ∙ taken_none c.args.names.now c.args.new.now c.loop-name.name-index end,
      all_added c.args.names.now c.args.new.now c.loop-name.names c.loop-name.name-index end c.loop-name.invariant.names,
    )
