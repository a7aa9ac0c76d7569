use Rattle.game_types.specs.Making.{expected_amount}
use Rattle.fractions.specs.Signs.{is_positive}
use Rattle.depend_index.proofs.KeyLemmas.{KeysSoFar}
use Rattle.depend_index.proofs.keys.goods_given.Given as goal

abbrev pub invariant-loop-product : goal.invariant-loop-product
invariant-loop-product l = KeysSoFar (λ product. product.good.0) (λ product. is_positive (expected_amount product)) l.products l.product-index l.goods.items
