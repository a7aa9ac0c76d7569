use Rattle.std.specs.Prelude.{◌≡◌, List}
use Rattle.std.specs.List.{list_all}
use Rattle.std.proofs.Common.{sym, ◌∙◌, ap, refl}
use Rattle.fractions.specs.Fraction.{Fraction}
use Rattle.plan_base.specs.declared.ids.GoodId.{GoodId}
use Rattle.game_types.specs.declared.machinery.MachineKind.{MachineKind}
use Rattle.game_types.specs.declared.machinery.MachineKind.TheVariants.{Lab}
use Rattle.game_types.specs.declared.research.Tech.{Tech}
use Rattle.research_rows.specs.Research.{researches, takes}
use Rattle.research_rows.proofs.labs.researches.Goals as goal

of_lab : (kind : MachineKind) (inputs : List GoodId) (speed : Fraction) (tech : Tech) → kind ≡ Lab inputs speed → researches kind tech ≡ list_all (λ part. takes inputs part.0) tech.ingredients
of_lab kind inputs speed tech e = ap (λ (k : MachineKind). researches k tech) e

pub returns-in-Lab : goal.returns-in-Lab
returns-in-Lab c =
    c.takes_all.ensures
    ∙ ap (λ (inputs : List GoodId). list_all (λ (part : GoodId × Fraction). takes inputs part.0) c.as_slice-in-Lab.result.now) c.as_slice.ensures
    ∙ ap (λ (parts : List (GoodId × Fraction)). list_all (λ part. takes c.in-Lab.inputs part.0) parts) c.as_slice-in-Lab.ensures
    ∙ sym (of_lab c.args.kind.now c.in-Lab.inputs c.in-Lab.speed c.args.tech.now c.in-Lab.is)
