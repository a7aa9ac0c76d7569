use Rattle.std.proofs.Common.{take}
use Rattle.std.specs.List.{AllZip}
use Rattle.wish_words.specs.Named.{IsWantOf}
use Rattle.wish_words.proofs.naming.wants.Given as goal

abbrev pub invariant-loop-wish : goal.invariant-loop-wish
invariant-loop-wish l = AllZip (IsWantOf l.game l.belt) (take l.wish-index l.asked) l.wants.items
