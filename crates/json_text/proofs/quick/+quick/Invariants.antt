use Rattle.std.proofs.Common.{length, ◌-◌, ◌+◌, ◌*◌, ◌≤◌}
use Rattle.json_text.specs.Machine.{NoSpaceAt}
use Rattle.json_text.proofs.Passed.{InList, InObject}
use Rattle.json_text.proofs.quick.+quick.Given as goal

abbrev pub decreases-quick_end : goal.decreases-quick_end
decreases-quick_end l = 2 * (200 - l.depth) + 1

abbrev pub decreases-quick_list : goal.decreases-quick_list
decreases-quick_list l = 2 * (200 - l.depth)

abbrev pub decreases-quick_object : goal.decreases-quick_object
decreases-quick_object l = 2 * (200 - l.depth)

abbrev pub invariant-quick_list-elements : goal.invariant-quick_list-elements
invariant-quick_list-elements l = record {
  behind : l.at + 1 ≤ l.place;
  within : l.place ≤ length l.bytes;
  no_space : NoSpaceAt l.bytes l.place;
  passed : InList l.bytes l.at l.depth l.place;
}

abbrev pub decreases-quick_list-elements : goal.decreases-quick_list-elements
decreases-quick_list-elements l = length l.bytes - l.place

abbrev pub invariant-quick_object-members : goal.invariant-quick_object-members
invariant-quick_object-members l = record {
  behind : l.at + 1 ≤ l.place;
  within : l.place ≤ length l.bytes;
  no_space : NoSpaceAt l.bytes l.place;
  passed : InObject l.bytes l.at l.depth l.place;
}

abbrev pub decreases-quick_object-members : goal.decreases-quick_object-members
decreases-quick_object-members l = length l.bytes - l.place
