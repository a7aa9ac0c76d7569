use Rattle.std.specs.Prelude.{◌≡◌, length}
use Rattle.script_reader.specs.Scan.{put_all, unquote}
use Rattle.script_reader.proofs.split.quoted.Given as goal

abbrev pub invariant-loop-first : goal.invariant-loop-first
invariant-loop-first l = put_all l.word.items (unquote l.rest) ≡ unquote l.fn.text

abbrev pub decreases-loop-first : goal.decreases-loop-first
decreases-loop-first l = length l.rest
