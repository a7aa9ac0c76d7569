-- The reached goods, one place after another.
use Rattle.std.proofs.Common.{◌≡◌, ◌∙◌, ◌+◌, ℕ, Bool, List, [], ◌++◌, ap, sym, add-one}
use Rattle.game_types.specs.declared.games.Game.{Game}
use Rattle.plan_base.specs.declared.ids.GoodId.{GoodId}
use Rattle.script_outputs.specs.Costs.{Cost, goods_of, one_if_reached, reached_below}

pub none_below : (g : Game) (reached : List Bool) (costs : List Cost) → costs ≡ [] → goods_of costs ≡ reached_below g reached 0
unfolding reached_below
none_below g reached costs empty = ap goods_of empty

-- one more place
pub next_below : (g : Game) (reached : List Bool) (k : ℕ) (old new : List Cost) → goods_of new ≡ goods_of old ++ one_if_reached g reached k → goods_of old ≡ reached_below g reached k
    → goods_of new ≡ reached_below g reached (k + 1)
unfolding reached_below
next_below g reached k old new put so =
    put ∙ (ap (λ goods. goods ++ one_if_reached g reached k) so ∙ sym (ap (λ (n : ℕ). reached_below g reached n) (add-one k)))
