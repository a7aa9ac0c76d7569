use Rattle.std.specs.Prelude.{◌≡◌, length}
use Rattle.script_reader.specs.Words.{is_separator}
use Rattle.script_reader.specs.Scan.{behind_by}
use Rattle.script_reader.proofs.split.behind_separators.Given as goal

abbrev pub invariant-loop-first : goal.invariant-loop-first
invariant-loop-first l = behind_by is_separator l.rest ≡ behind_by is_separator l.fn.line

abbrev pub decreases-loop-first : goal.decreases-loop-first
decreases-loop-first l = length l.rest
