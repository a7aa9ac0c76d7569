use Rattle.std.proofs.Common.{◌≡◌, ◌*◌, ◌<◌, ◌^◌, refl}
use Rattle.std.proofs.lemmas.Bool.{OnTrue_at}
use Rattle.number_rows.proofs.Quotients.{raised_told}
use Rattle.number_rows.proofs.lowering.lower.Goals as goal

pub returns-clause-raised : goal.returns-clause-raised
returns-clause-raised c =
    let e = c.likely-part.result.divisor in
    let a = c.likely-part.result.beside in
    let p : (a * e ≡ c.args.over.divisor) × (e < 2 ^ 62) × (a < 2 ^ 62) = OnTrue_at c.if-not-is_of.false c.is_of.ensures in
    raised_told c.args.over.divisor c.args.over.bound c.args.quotients.now c.args.k e e a _ c.raise_first.new.quotients
    refl p.0 c.requires.positive refl (OnTrue_at c.if-not-product_keeps_within.false c.product_keeps_within.ensures)
    c.raise_first.ensures.numbers c.raise_first.ensures.rest
