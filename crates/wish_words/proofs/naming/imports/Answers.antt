use Rattle.wish_words.specs.Named.{IsImportOf}
use Rattle.wish_words.proofs.Zips.{zip_item}
use Rattle.wish_words.proofs.naming.imports.Goals as goal

pub loop-asked-preserved : goal.loop-asked-preserved
loop-asked-preserved c =
    let at = c.loop-asked in
    rw c.in_ok-add.ensures (zip_item (IsImportOf c.args.game.now) c.args.asked.now at.imports.items at.asked-index _ _ c.loop-asked-test.true c.asked-item.is at.invariant c.in_ok-import.ensures)
