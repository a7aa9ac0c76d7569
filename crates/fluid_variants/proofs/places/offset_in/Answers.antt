use Rattle.std.proofs.Common.{◌<◌, length, subst, sym, arith}
use Rattle.std.proofs.lemmas.Bool.Decides.{nat_tests}
use Rattle.fluid_variants.specs.Temperatures.{IsRising}
use Rattle.fluid_variants.proofs.Contents.{list_rises}
use Rattle.fluid_variants.proofs.places.offset_in.Goals as goal

pub variant_offset-requires : goal.variant_offset-requires
variant_offset-requires c =
    let there = c.in-Some.ensures.lookup.0 in
    let within : c.args.number < length c.args.lists.now = grind (arith, nat_tests, there) in
    subst IsRising (sym c.as_slice.ensures.value) (list_rises c.args.lists.now c.args.number c.in-Some.list.now within c.in-Some.ensures.lookup.1 c.requires)
