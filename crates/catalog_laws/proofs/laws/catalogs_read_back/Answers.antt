use Rattle.catalog_laws.proofs.Whole.{catalog_reads}
use Rattle.catalog_laws.proofs.laws.catalogs_read_back.Goals as goal

pub returns : goal.returns
returns c = catalog_reads
