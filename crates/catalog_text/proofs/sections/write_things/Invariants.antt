use Rattle.std.proofs.Common.{◌≡◌}
use Rattle.std.specs.Prelude.{string_bytes}
use Rattle.catalog_text.specs.Catalog.{WritesThings}
use Rattle.catalog_text.proofs.sections.write_things.Given as goal

-- no question changes the planner; so many things are written
abbrev pub invariant-loop-number : goal.invariant-loop-number
invariant-loop-number g l = record {
  stays : l.planner ≡ l.fn.planner;
  written : WritesThings l.fn.planner.state l.sources.index.now l.kind l.number (string_bytes l.initial.text) (string_bytes l.text);
}
