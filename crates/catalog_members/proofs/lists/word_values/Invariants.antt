use Rattle.catalog_members.specs.Members.{word_value}
use Rattle.catalog_members.proofs.Listing.{WroteSoFar}
use Rattle.catalog_members.proofs.lists.word_values.Given as goal

abbrev pub invariant-loop-text : goal.invariant-loop-text
invariant-loop-text l = WroteSoFar word_value l.texts l.text-index l.list.items
