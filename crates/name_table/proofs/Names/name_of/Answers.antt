use Rattle.std.proofs.Common.{◌≡◌, ◌<◌, Some, arith, length, map, string_bytes, sym, ap, ◌∙◌}
use Rattle.std.specs.Prelude.{slice_get}
use Rattle.name_table.proofs.NamesLemmas.{named_in, placed_at}
use Rattle.name_table.proofs.Names.name_of.Goals as goal

pub returns-clause-place : goal.returns-clause-place
returns-clause-place c =
    let within : c.args.id < length c.args.self.now = grind (arith, c.requires) in
    let are : map string_bytes c.as_slice.result.now ≡ c.args.self.now = ap (map string_bytes) (c.as_slice.ensures ∙ c.keys.ensures.rest) ∙ c.self.view_is in
    let named : slice_get c.args.self.now c.args.id ≡ Some c.as_str.result.now = named_in c.as_slice.result.now c.args.self.now c.args.id c.index-as_slice-id.result are within c.index-as_slice-id.is ∙ ap Some (sym c.as_str.ensures.value) in
    placed_at c.args.self.now c.as_str.result.now c.args.id c.len.ensures.different named
