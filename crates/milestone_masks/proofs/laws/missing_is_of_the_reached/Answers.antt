use Rattle.std.proofs.Common.{ap}
use Rattle.std.proofs.Math.Path.{fun_ext}
use Rattle.std.specs.Prelude.{None}
use Rattle.reach_ranks.specs.Rounds.{Nodes, world}
use Rattle.milestone_masks.specs.Worlds.{missing_in}
use Rattle.milestone_masks.proofs.LawLemmas.{ranked-reached}
use Rattle.milestone_masks.proofs.laws.missing_is_of_the_reached.Goals as goal

pub returns : goal.returns
returns c = λ rows barred granted kept row whole are.
    ap (λ (set : Nodes). missing_in set row) (fun_ext (λ n. ranked-reached (world rows barred granted None) kept.base whole are.base n))
