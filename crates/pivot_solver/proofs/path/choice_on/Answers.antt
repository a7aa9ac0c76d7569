use Rattle.std.proofs.Common.{refl}
use Rattle.linear_table.specs.Basis.{system_of}
use Rattle.linear_table.proofs.Settled.{system_sound}
use Rattle.pivot_solver.proofs.Paths.{tableau_at, values_at}
use Rattle.pivot_solver.proofs.path.choice_on.Goals as goal

pub choose-requires : goal.choose-requires
choose-requires g c = (
  tableau_at (system_of g.l) c.deref.ensures.value c.deref-2.ensures.value (λ i. c.args.path.now.cost.items) c.requires.1.1.1.1.tableau,
  (
    refl,
    (
      system_sound g.l c.requires.1.0,
      (c.requires.1.1.0, (c.requires.1.1.1.0, values_at g.l c.args.path.now c.deref.result.now c.requires.1.0 c.requires.1.1.1.1 c.deref.ensures.value)),
    ),
  ),
)
