use Rattle.wish_words.specs.Named.{IsWantOf}
use Rattle.wish_words.proofs.Zips.{zip_item}
use Rattle.wish_words.proofs.naming.wants.Goals as goal

pub loop-wish-preserved : goal.loop-wish-preserved
loop-wish-preserved c =
    let at = c.loop-wish in
    rw c.in_ok-add.ensures (zip_item (IsWantOf c.args.game.now c.args.belt.now) c.args.asked.now at.wants.items at.wish-index _ _ c.loop-wish-test.true c.wish-item.is at.invariant c.in_ok-want.ensures)
