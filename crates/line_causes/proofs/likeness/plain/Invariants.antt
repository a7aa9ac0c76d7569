use Rattle.std.proofs.Common.{◌≡◌, ◌++◌, drop, map}
use Rattle.line_causes.specs.Likeness.{plain_byte}
use Rattle.line_causes.proofs.likeness.plain.Given as goal

abbrev pub invariant-loop-byte : goal.invariant-loop-byte
invariant-loop-byte l = l.bytes.items ++ map plain_byte (drop l.byte-index l.letters) ≡ map plain_byte l.letters
