use Rattle.depend_index.proofs.CoolestLemmas.{coolest_for, fits_by_index}
use Rattle.depend_rows.proofs.ingredient_groups.fit_variants.Goals as goal

pub numbers_within-requires : goal.numbers_within-requires
numbers_within-requires c =
    coolest_for c.args.game.now c.args.index.now c.args.part.now.good.0 c.first_fluid-first.result c.as_slice-fluids.result.now c.as_slice-lists.result.now c.list_of-variants.result.now c.requires.index c.requires.part
    c.as_slice-fluids.ensures c.first_fluid-first.ensures.first c.as_slice-lists.ensures.value c.list_of-variants.ensures

pub returns : goal.returns
returns c =
    fits_by_index c.args.game.now c.args.index.now c.args.part.now.good.0 c.first_fluid-first.result c.args.part.now.low c.args.part.now.high c.as_slice-fluids.result.now c.as_slice-lists.result.now c.list_of-variants.result.now
    c.in_ok-nodes.nodes.items c.in_ok-fits.fits.items c.requires.index c.requires.part
    c.as_slice-fluids.ensures c.first_fluid-first.ensures.first c.as_slice-lists.ensures.value c.list_of-variants.ensures c.in_ok-fits.ensures c.in_ok-nodes.ensures
