use Rattle.std.proofs.Common.{◌≡◌, ◌+◌, ◌++◌, ◌∷◌, [], ◌∙◌, Bool, ap, arith}
use Rattle.std.specs.Prelude.{if◌then◌else◌}
use Rattle.graph_store.specs.Members.{node}
use Rattle.catalog_things.specs.Choices.{does_in}
use Rattle.catalog_things.proofs.Passing.{passing-more}
use Rattle.catalog_things.proofs.doers.machines_for.Goals as goal

pub loop-machine-preserved : goal.loop-machine-preserved
loop-machine-preserved c =
    passing-more (does_in c.args.game.now c.args.activity) c.first_machine-first.result c.loop-machine.machine c.shape-count.result.machines c.loop-machine.nodes.items c.put_where.new.nodes.items _
    (omega arith)
    (c.in_ok-put_where.ensures ∙ ap (λ (b : Bool). c.loop-machine.nodes.items ++ (if b then node (c.first_machine-first.result + c.loop-machine.machine) ∷ [] else [])) c.does-belongs.ensures)
    c.loop-machine.invariant
