use Rattle.fractions.proofs.Bounds.{product_narrow_below, difference_fits_below}
use Rattle.fractions.proofs.field_laws.updates_of_small_parts.Goals as goal

pub returns : goal.returns
returns c = record { product = λ t u v r p q. product_narrow_below u v p q; difference = difference_fits_below }
