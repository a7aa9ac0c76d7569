use Rattle.script_reader.specs.declared.fields.Place.TheVariants.{OneMachine}
use Rattle.wish_words.specs.Named.{IsPlaceOf}
use Rattle.wish_words.proofs.Zips.{zip_next}
use Rattle.wish_words.proofs.objects.machines.Goals as goal

pub loop-word-preserved : goal.loop-word-preserved
loop-word-preserved c =
    let at = c.loop-word in
    rw c.in_ok-push.ensures.items (zip_next (λ word id. IsPlaceOf c.args.game.now OneMachine word.now id.0) c.args.words.now at.machines.items at.word-index _ _ c.loop-word-test.true at.invariant c.in_ok-machine.ensures)
