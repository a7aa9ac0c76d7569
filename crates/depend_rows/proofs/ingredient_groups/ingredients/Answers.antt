use Rattle.std.proofs.Common.{◌<◌, ℕ, Bool, true, false, List, None, Some, ap, subst, sym, ◌∙◌}
use Rattle.std.specs.List.{filter_map}
use Rattle.std.specs.Prelude.{All, IfSome, if◌then◌else◌}
use Rattle.game_types.specs.declared.recipes.Part.{Part}
use Rattle.game_types.specs.Sound.{IsGood}
use Rattle.depend_rows.proofs.FoundLemmas.{all_found}
use Rattle.depend_index.specs.Goods.{good_count}
use Rattle.depend_rows.specs.Goods.{free_good, is_free}
use Rattle.depend_rows.proofs.ingredient_groups.ingredients.Goals as goal

pub named-requires-clause-numbers : goal.named-requires-clause-numbers
named-requires-clause-numbers c =
    subst (λ (count : ℕ). All (λ (k : ℕ). k < count) c.in_ok-goods.goods.items) (sym c.good_count.ensures.goods)
    (subst (λ (goods : List ℕ). All (λ (k : ℕ). k < good_count c.args.game.now) goods) (sym (c.in_ok-goods.ensures ∙ ap (filter_map free_good) c.as_slice.ensures))
    (all_found (λ (part : Part). IsGood c.args.game.now part.good.0) (λ (k : ℕ). k < good_count c.args.game.now) free_good (λ part is. by_free part is (is_free part)) c.args.recipe.now.ingredients c.requires.recipe.ingredients))
  where
    by_free : (part : Part) → part.good.0 < good_count c.args.game.now → (b : Bool) → IfSome (if b then Some part.good.0 else None) (λ k. k < good_count c.args.game.now)
    by_free part is true = is
    by_free part is false = tt
