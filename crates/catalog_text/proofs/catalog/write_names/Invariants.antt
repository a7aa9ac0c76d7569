use Rattle.std.proofs.Common.{◌≡◌, ◌++◌, false, take}
use Rattle.std.specs.Prelude.{string_bytes}
use Rattle.catalog_text.specs.Catalog.{names, with_commas}
use Rattle.catalog_text.proofs.catalog.write_names.Given as goal

abbrev pub invariant-loop-place : goal.invariant-loop-place
invariant-loop-place l = string_bytes l.text ≡ string_bytes l.initial.text ++ with_commas false (names l.game (take l.place l.nodes))
