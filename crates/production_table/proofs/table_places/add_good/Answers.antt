use Rattle.std.proofs.Common.{◌∙◌, List, sym, ap}
use Rattle.std.specs.Prelude.{position}
use Rattle.plan_base.specs.declared.ids.GoodId.{GoodId}
use Rattle.production_table.specs.Linear.{is_not_below}
use Rattle.production_table.proofs.Goods.{add_last, add_new, add_there}
use Rattle.production_table.proofs.table_places.add_good.Goals as goal

pub returns-in_ok-insert-in-Some : goal.returns-in_ok-insert-in-Some
returns-in_ok-insert-in-Some c =
    c.in_ok-insert-in-Some.ensures.items
    ∙ add_new c.args.good c.index-other.result.now c.args.goods.now.items c.in-Some.place
    (ap (λ (goods : List GoodId). position (is_not_below c.args.good) goods) (sym c.as_slice.ensures.value) ∙ sym c.find.ensures ∙ c.in-Some.is) c.index-other.ensures c.if-other-good.true

pub returns-else-other-good : goal.returns-else-other-good
returns-else-other-good c =
    add_there c.args.good c.index-other.result.now c.args.goods.now.items c.in-Some.place
    (ap (λ (goods : List GoodId). position (is_not_below c.args.good) goods) (sym c.as_slice.ensures.value) ∙ sym c.find.ensures ∙ c.in-Some.is) c.index-other.ensures c.if-other-good.false

pub returns-in_ok-push-in-None : goal.returns-in_ok-push-in-None
returns-in_ok-push-in-None c =
    c.in_ok-push-in-None.ensures.items
    ∙ add_last c.args.good c.args.goods.now.items (ap (λ (goods : List GoodId). position (is_not_below c.args.good) goods) (sym c.as_slice.ensures.value) ∙ sym c.find.ensures ∙ c.in-None.is)
