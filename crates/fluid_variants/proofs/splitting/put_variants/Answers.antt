use Rattle.std.proofs.Common.{◌≡◌, ◌∙◌, Err, None, Some, ap, length, sym}
use Rattle.fluid_variants.specs.Contents.{contents}
use Rattle.fluid_variants.specs.Naming.{lowest_place}
use Rattle.fluid_variants.specs.Records.{all_variant_names}
use Rattle.fluid_variants.proofs.SplittingLemmas.{as_many, none_named, one_named, one_within}
use Rattle.fluid_variants.proofs.splitting.put_variants.Goals as goal

pub first_variant_name-requires : goal.first_variant_name-requires
first_variant_name-requires c = ap length c.as_slice.ensures.value ∙ as_many c.args.game.now c.in-Ok.lists.items c.requires c.in-Ok.ensures

pub put_records-requires-clause-free : goal.put_records-requires-clause-free
put_records-requires-clause-free c =
    let none : None ≡ c.in-Ok-None.field-0 = cc in
    none_named c.args.game.now c.in-Ok.lists.items c.in-Ok.ensures
    (none ∙ c.in-Ok-None.ensures ∙ ap (λ lists. lowest_place c.args.game.now.fluid_names (all_variant_names c.args.game.now.fluid_names (contents lists))) c.as_slice.ensures.value)

pub name_of-name-requires : goal.name_of-name-requires
name_of-name-requires c =
    let some : Some c.in-Ok-Some.place ≡ c.in-Ok-Some.field-0 = cc in
    one_within c.args.game.now c.in-Ok.lists.items c.in-Ok-Some.place c.in-Ok.ensures
    (some ∙ c.in-Ok-Some.ensures ∙ ap (λ lists. lowest_place c.args.game.now.fluid_names (all_variant_names c.args.game.now.fluid_names (contents lists))) c.as_slice.ensures.value)

pub returns-in-Ok-Some-clause-fault : goal.returns-in-Ok-Some-clause-fault
returns-in-Ok-Some-clause-fault c = λ memory.
    let some : Some c.in-Ok-Some.place ≡ c.in-Ok-Some.field-0 = cc in
    one_named c.args.game.now c.in-Ok.lists.items c.in-Ok-Some.place c.name_of-name.result.now c.in-Ok.ensures
    (some ∙ c.in-Ok-Some.ensures ∙ ap (λ lists. lowest_place c.args.game.now.fluid_names (all_variant_names c.args.game.now.fluid_names (contents lists))) c.as_slice.ensures.value)
    c.name_of-name.ensures.name
    ∙ ap Err (sym (c.name_fault.ensures memory))
