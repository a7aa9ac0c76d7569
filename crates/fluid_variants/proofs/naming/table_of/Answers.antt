use Rattle.std.proofs.Common.{◌∙◌, ◌≤◌, length, arith}
use Rattle.fluid_variants.proofs.NameLemmas.{all_taken, twice_none}
use Rattle.fluid_variants.proofs.naming.table_of.Goals as goal

pub returns : goal.returns
returns c =
    let end : length c.args.names.now ≤ c.loop-name.name-index = omega (arith, c.loop-name-test.false) in (
      c.loop-name.invariant.twice ∙ twice_none c.args.names.now c.loop-name.name-index end,
      all_taken c.args.names.now c.loop-name.table c.loop-name.name-index end c.loop-name.invariant.table,
    )
