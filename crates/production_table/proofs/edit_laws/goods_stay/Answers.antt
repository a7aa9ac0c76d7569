use Rattle.production_table.proofs.Edited.{goods_kept}
use Rattle.production_table.proofs.edit_laws.goods_stay.Goals as goal

pub returns : goal.returns
returns c = goods_kept
