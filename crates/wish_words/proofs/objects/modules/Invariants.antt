use Rattle.std.proofs.Common.{take}
use Rattle.std.specs.List.{AllZip}
use Rattle.script_reader.specs.declared.fields.Place.TheVariants.{OneItem}
use Rattle.wish_words.specs.Named.{IsPlaceOf}
use Rattle.wish_words.proofs.objects.modules.Given as goal

abbrev pub invariant-loop-word : goal.invariant-loop-word
invariant-loop-word l = AllZip (λ word id. IsPlaceOf l.game OneItem word.now id.0) (take l.word-index l.words) l.modules.items
