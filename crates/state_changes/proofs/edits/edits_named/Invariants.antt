use Rattle.std.proofs.Common.{◌≡◌, ◌++◌, drop}
use Rattle.state_changes.specs.Actions.{edits_named}
use Rattle.state_changes.proofs.edits.edits_named.Given as goal

abbrev pub invariant-loop-change : goal.invariant-loop-change
invariant-loop-change l = l.edits.items ++ edits_named l.game (drop l.change-index l.changes) ≡ edits_named l.game l.changes
