use Rattle.std.proofs.Common.{◌-◌, ◌∙◌, ap, subst, sym, arith}
use Rattle.std.specs.Prelude.{Vec}
use Rattle.std.specs.Global.{Global}
use Rattle.fractions.specs.Fraction.{Fraction}
use Rattle.fluid_variants.specs.Temperatures.{IsRising, with_temperature}
use Rattle.fluid_variants.proofs.Contents.{contents_put, list_rises}
use Rattle.fluid_variants.proofs.lists.put_made.Goals as goal

pub returns : goal.returns
returns c =
    contents_put c.args.lists.now (c.args.made.now.good.0 - c.args.items) c.args.made.now.at c.index-lists-place.result c.put_temperature.new.list
    (let within = c.requires.within in let below = c.requires.below in omega (arith, within, below)) c.index-lists-place.is
    (c.in_ok-put_temperature.ensures ∙ ap (λ list. with_temperature c.args.made.now.at list.items) (sym c.index-lists-place.is))

pub put_temperature-requires : goal.put_temperature-requires
put_temperature-requires c =
    subst (λ (list : Vec Fraction Global). IsRising list.items) c.index-lists-place.is
    (list_rises c.args.lists.now (c.args.made.now.good.0 - c.args.items) c.index-lists-place.result (let within = c.requires.within in let below = c.requires.below in omega (arith, within, below)) c.index-lists-place.is c.requires.rising)
