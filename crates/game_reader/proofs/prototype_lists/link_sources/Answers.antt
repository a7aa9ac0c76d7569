use Rattle.std.proofs.Common.{◌∙◌}
use Rattle.game_reader.proofs.Loops.{linked_first, linked_more, linked_fails}
use Rattle.game_reader.proofs.prototype_lists.link_sources.Goals as goal

pub loop-source-init : goal.loop-source-init
loop-source-init c =
    let g = c.into_iter-source-iterator.ensures.into_iter_gives in linked_first g.0 (g.1 ∙ c.args.sources.ok.0) c.new-linked.ensures.items c.requires

pub loop-source-preserved : goal.loop-source-preserved
loop-source-preserved c =
    let s = c.in-Some.ensures.steps in
    linked_more c.loop-source.invariant s.0 s.1 c.next_name-name.ensures c.in-Ok.ensures c.in_ok-put-in-Ok.ensures.list

pub returns-in-Err : goal.returns-in-Err
returns-in-Err c = λ out. linked_fails c.loop-source.invariant c.in-Some.ensures.steps.0 c.next_name-name.ensures (c.in-Err.ensures out)
