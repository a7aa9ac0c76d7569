use Rattle.fluid_variants.specs.Records.{numbering_of}
use Rattle.fluid_variants.proofs.AssemblyLemmas.{together}
use Rattle.fluid_variants.proofs.assembly.renumber.Goals as goal

pub returns : goal.returns
unfolding numbering_of
returns c =
    together c.args.game.now c.take_machines-machines.new.game c.put_lists.new.game (numbering_of c.args.places.now.items c.args.places.now.lists) c.in_ok-recipes.recipes.items c.in_ok-sources.sources.items
    c.take_machines-machines.result.items c.in_ok-machines.machines.items
    c.take_machines-machines.ensures.game c.take_machines-machines.ensures.machines c.in_ok-recipes.ensures c.in_ok-sources.ensures c.in_ok-machines.ensures c.put_lists.ensures
