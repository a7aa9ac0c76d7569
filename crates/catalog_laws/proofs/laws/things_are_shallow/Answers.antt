use Rattle.catalog_text.specs.Things.{value_in}
use Rattle.catalog_laws.proofs.Plain.{no_float}
use Rattle.catalog_laws.proofs.Sections.{value_fits}
use Rattle.catalog_laws.proofs.laws.things_are_shallow.Goals as goal

pub returns-clause-float : goal.returns-clause-float
returns-clause-float c = λ s index shown kind number node. no_float (value_in s index shown kind number node) (value_fits s index shown kind number node).plain

pub returns-clause-depth : goal.returns-clause-depth
returns-clause-depth c = λ s index shown kind number node. (value_fits s index shown kind number node).shallow
