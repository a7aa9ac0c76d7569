use Rattle.std.proofs.Common.{◌≡◌, None, arith, string_bytes, map, rules}
use Rattle.std.proofs.lemmas.Grind.{common_steps}
use Rattle.std.specs.Map.{keys_of}
use Rattle.name_table.specs.Names.{place_of}
use Rattle.name_table.proofs.NamesLemmas.{place_of-append, bytes_eq-same}
use Rattle.name_table.proofs.Names.intern.Goals as goal

pub returns-clause-place : goal.returns-clause-place
returns-clause-place c =
    let new : place_of (map string_bytes (keys_of c.self.inside.by_name.entries)) c.args.name.now ≡ None = search (rules) in
    let last = place_of-append (map string_bytes (keys_of c.self.inside.by_name.entries)) c.args.name.now (bytes_eq-same c.args.name.now) new in
    grind (arith, common_steps, last, c.in-Some-append.ensures.names, c.in-Some-append.ensures.place, c.in-Ok.ensures.ok)
