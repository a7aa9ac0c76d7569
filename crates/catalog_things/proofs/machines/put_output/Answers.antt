use Rattle.std.proofs.lemmas.Result.{on_ok_weaker}
use Rattle.catalog_things.specs.Machines.{with_output}
use Rattle.catalog_things.proofs.machines.put_output.Goals as goal

pub returns : goal.returns
unfolding with_output
returns c =
    on_ok_weaker c.put_amount_where-3.result
    (λ last. cc (last, c.in_ok-put_amount_where.ensures, c.in_ok-put_amount_where-2.ensures, c.temperature_of.ensures, c.power_of.ensures, c.distribution_of.ensures))
    c.put_amount_where-3.ensures
