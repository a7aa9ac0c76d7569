use Rattle.std.proofs.Common.{◌∙◌, sym, string_bytes}
use Rattle.std.specs.Map.{keys_of}
use Rattle.std.specs.Str.{bytes_eq}
use Rattle.name_table.proofs.NamesLemmas.{position-map}
use Rattle.name_table.proofs.place_in.Goals as goal

pub returns-clause-place : goal.returns-clause-place
returns-clause-place c = c.get_index_of.ensures.index ∙ sym (position-map string_bytes (bytes_eq c.args.name.now) (keys_of c.args.by_name.now.entries))
