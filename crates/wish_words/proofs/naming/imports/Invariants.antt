use Rattle.std.proofs.Common.{take}
use Rattle.std.specs.List.{AllZip}
use Rattle.wish_words.specs.Named.{IsImportOf}
use Rattle.wish_words.proofs.naming.imports.Given as goal

abbrev pub invariant-loop-asked : goal.invariant-loop-asked
invariant-loop-asked l = AllZip (IsImportOf l.game) (take l.asked-index l.asked) l.imports.items
