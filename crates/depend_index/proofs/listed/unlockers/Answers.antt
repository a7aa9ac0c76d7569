use Rattle.std.proofs.Common.{length}
use Rattle.std.specs.Prelude.{◌==◌}
use Rattle.std.specs.List.{list_any}
use Rattle.game_types.specs.declared.research.Tech.{Tech}
use Rattle.depend_index.specs.Goods.{first_tech}
use Rattle.graph_store.proofs.AmongLemmas.{hold_all}
use Rattle.depend_index.proofs.listed.unlockers.Goals as goal

pub returns : goal.returns
returns c = hold_all (λ (tech : Tech) number. list_any (λ r. r.0 == number) tech.unlocks) (first_tech c.args.game.now) c.args.game.now.techs (length c.args.game.now.recipes) c.in_ok-lists.lists.items c.in_ok-lists.ensures
