use Rattle.std.proofs.Common.{◌≡◌, ◌∙◌, true, false, Err, ap, length, sym, arith}
use Rattle.std.proofs.lemmas.Grind.{common_steps}
use Rattle.fluid_variants.specs.Contents.{contents}
use Rattle.fluid_variants.specs.Records.{all_names}
use Rattle.fluid_variants.proofs.SplittingLemmas.{as_many, too_many}
use Rattle.fluid_variants.proofs.splitting.put_records.Goals as goal

pub returns-then-not-are_few-clause-fault : goal.returns-then-not-are_few-clause-fault
returns-then-not-are_few-clause-fault c = λ memory.
    let many : c.are_few.result ≡ false = grind (arith, common_steps, c.if-not-are_few.true) in
    too_many c.args.game.now c.requires.free (sym many ∙ c.are_few.ensures) ∙ ap Err (sym (c.too_many_variants.ensures memory))

pub all_names-requires : goal.all_names-requires
all_names-requires c = ap length c.as_slice-2.ensures.value ∙ as_many c.args.game.now c.args.lists.items c.requires.sound c.requires.lists

pub put_named-requires-clause-few : goal.put_named-requires-clause-few
put_named-requires-clause-few c =
    let few : c.are_few.result ≡ true = grind (arith, common_steps, c.if-not-are_few.false) in
    sym few ∙ c.are_few.ensures

pub put_named-requires-clause-names : goal.put_named-requires-clause-names
put_named-requires-clause-names c =
    c.as_slice-in-Ok.ensures.value ∙ c.in-Ok.ensures ∙ ap (λ lists. all_names c.args.game.now.fluid_names (contents lists)) c.as_slice-2.ensures.value
