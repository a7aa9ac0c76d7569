use Rattle.game_reader.specs.Links.{linked_tech}
use Rattle.game_reader.proofs.Loops.{LinkedSoFar}
use Rattle.machine_reader.specs.declared.sections.Section.TheVariants as section
use Rattle.std.specs.Vec.Iter.{into_iter_items, into_iter_len}
use Rattle.game_reader.proofs.prototype_lists.link_techs.Given as goal

abbrev pub invariant-loop-tech : goal.invariant-loop-tech
invariant-loop-tech l = LinkedSoFar (λ _. section.Technology) (linked_tech l.names) l.fn.techs.items l.names.techs (into_iter_items l.tech-iterator) (into_iter_len l.tech-iterator) l.linked.items
