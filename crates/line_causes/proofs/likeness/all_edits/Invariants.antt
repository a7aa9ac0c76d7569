use Rattle.std.proofs.Common.{◌≡◌, ℕ, List, ◌++◌, drop, map}
use Rattle.line_causes.specs.Likeness.{edits, plain}
use Rattle.line_causes.proofs.likeness.all_edits.Given as goal

abbrev pub invariant-loop-name : goal.invariant-loop-name
invariant-loop-name l =
    let count : List ℕ → ℕ = λ name. edits l.word (plain name) in
    l.counts.items ++ map count (drop l.name-index l.names) ≡ map count l.names
