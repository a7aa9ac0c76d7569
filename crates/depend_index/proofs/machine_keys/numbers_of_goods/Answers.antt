use Rattle.std.proofs.Common.{◌∙◌, [], ap, arith}
use Rattle.graph_store.specs.Lists.{is_among}
use Rattle.depend_index.proofs.KeyLemmas.{is_among-map}
use Rattle.graph_store.proofs.Walks.{appended_all}
use Rattle.depend_index.proofs.machine_keys.numbers_of_goods.Goals as goal

pub returns : goal.returns
returns c = λ k. ap (λ l. is_among l k) (appended_all (λ r. r.0) [] c.args.goods.now c.loop-good.good-index c.loop-good.numbers.items (omega (arith, c.loop-good-test.false)) c.loop-good.invariant) ∙ is_among-map (λ r. r.0) c.args.goods.now k
