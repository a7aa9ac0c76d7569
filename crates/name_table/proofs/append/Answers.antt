use Rattle.std.proofs.Common.{arith}
use Rattle.std.proofs.lemmas.Grind.{common_steps}
use Rattle.std.specs.Map.{keys_of}
use Rattle.name_table.proofs.NamesLemmas.{append-entries, append-last, append-len, append-names}
use Rattle.name_table.proofs.append.Goals as goal

pub returns-clause-place : goal.returns-clause-place
returns-clause-place c = let last = append-last (keys_of c.args.by_name.now.entries) c.args.name c.requires in grind (arith, common_steps, c.in-Ok.ensures.index, c.in-Ok.place-is, last)

pub returns-clause-names : goal.returns-clause-names
returns-clause-names c = append-names _ _ _ _ (append-entries _ _ _ _ c.requires c.in-Ok.ensures.entries)

pub returns-clause-len : goal.returns-clause-len
returns-clause-len c = append-len _ _ _ _ c.requires c.in-Ok.ensures.entries
