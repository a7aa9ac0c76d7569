use Rattle.catalog_laws.specs.Value.{catalog_value}
use Rattle.catalog_laws.proofs.Plain.{no_float}
use Rattle.catalog_laws.proofs.Whole.{catalog_fits}
use Rattle.catalog_laws.proofs.laws.catalogs_are_shallow.Goals as goal

pub returns-clause-float : goal.returns-clause-float
returns-clause-float c = λ s index shown. no_float (catalog_value s index shown) (catalog_fits s index shown).plain

pub returns-clause-depth : goal.returns-clause-depth
returns-clause-depth c = λ s index shown. (catalog_fits s index shown).shallow
