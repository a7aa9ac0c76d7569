use Rattle.std.proofs.Common.{◌∙◌, List, Vec, ap}
use Rattle.std.specs.Global.{Global}
use Rattle.plan_base.specs.declared.ids.NodeId.{NodeId}
use Rattle.graph_store.specs.Lists.{list_at}
use Rattle.catalog_things.proofs.goods.putters_of.Goals as goal

pub returns : goal.returns
returns c = c.list_of.ensures ∙ (ap (λ (lists : List (Vec NodeId Global)). list_at lists c.args.good.0) c.as_slice.ensures.value ∙ c.requires.index.putters.each c.args.good.0 c.requires.good)
