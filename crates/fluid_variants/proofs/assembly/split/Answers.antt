use Rattle.std.proofs.Common.{◌∙◌, ap, length, subst, sym}
use Rattle.std.specs.Prelude.{All}
use Rattle.fluid_variants.specs.Temperatures.{IsRising}
use Rattle.fluid_variants.proofs.Rising.{all_rise}
use Rattle.fluid_variants.specs.Contents.{contents}
use Rattle.fluid_variants.specs.Places.{Listed}
use Rattle.fluid_variants.specs.Records.{all_records}
use Rattle.fluid_variants.proofs.AssemblyLemmas.{as_many_lists, places_room, split_is}
use Rattle.fluid_variants.proofs.assembly.split.Goals as goal

pub make-requires-clause-rising : goal.make-requires-clause-rising
make-requires-clause-rising c = subst (All IsRising) (sym c.requires.lists) (all_rise c.args.game.now)

pub make-requires-clause-few : goal.make-requires-clause-few
make-requires-clause-few c = places_room c.args.game.now c.args.lists.items c.len-items.result c.requires.lists c.len-items.ensures c.requires.few

pub records-requires : goal.records-requires
records-requires c = ap length c.as_slice.ensures ∙ as_many_lists c.args.game.now c.args.lists.items c.requires.lists ∙ sym (ap (λ (p : Listed). length p.lists) c.in_ok-places.ensures)

pub returns : goal.returns
returns c =
    split_is c.args.game.now c.renumber.new.game c.put_fluids.new.game c.in_ok-places.places c.len-items.result (contents c.args.lists.items) c.in_ok-fluids.fluids.items c.args.fluid_names
    c.in_ok-places.ensures c.len-items.ensures c.requires.lists
    (c.in_ok-fluids.ensures ∙ ap (λ fluids. all_records c.in_ok-places.places.items fluids c.in_ok-places.places.lists) c.as_slice.ensures) c.requires.names c.in_ok-renumber.ensures c.put_fluids.ensures
