use Rattle.std.proofs.Common.{◌≡◌, ◌++◌, drop}
use Rattle.page_parts.specs.Flows.{flows_of}
use Rattle.page_parts.proofs.flows.column_flows.Given as goal

abbrev pub invariant-loop-part : goal.invariant-loop-part
invariant-loop-part l = l.flows.items ++ flows_of l.rate (drop l.part-index l.parts) ≡ flows_of l.rate l.parts
