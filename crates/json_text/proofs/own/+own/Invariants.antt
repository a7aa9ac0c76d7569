use Rattle.std.proofs.Common.{length, ◌-◌, ◌≡◌, ◌≤◌, ◌++◌, drop}
use Rattle.json_text.specs.Machine.{list_of, object_of}
use Rattle.json_text.specs.Seen.{all_seen, members_seen}
use Rattle.json_text.specs.SpanSeen.{spans_seen, members_seen as lent_members_seen}
use Rattle.json_text.specs.Textual.{AreTextual, MembersAreTextual}
use Rattle.json_text.proofs.own.+own.Given as goal

abbrev pub invariant-owned_elements-elements : goal.invariant-owned_elements-elements
invariant-owned_elements-elements l = record {
  within : l.i ≤ length l.elements;
  copied : all_seen l.copies.items ++ spans_seen (drop l.i l.elements) ≡ spans_seen l.elements;
  rest : AreTextual (list_of (spans_seen (drop l.i l.elements)));
}

abbrev pub decreases-owned_elements-elements : goal.decreases-owned_elements-elements
decreases-owned_elements-elements l = length l.elements - l.i

abbrev pub invariant-owned_members-members : goal.invariant-owned_members-members
invariant-owned_members-members l = record {
  within : l.i ≤ length l.members;
  copied : members_seen l.copies.items ++ lent_members_seen (drop l.i l.members) ≡ lent_members_seen l.members;
  rest : MembersAreTextual (object_of (lent_members_seen (drop l.i l.members)));
}

abbrev pub decreases-owned_members-members : goal.decreases-owned_members-members
decreases-owned_members-members l = length l.members - l.i
