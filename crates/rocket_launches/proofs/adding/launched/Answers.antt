use Rattle.std.proofs.Common.{subst, sym}
use Rattle.craft_reader.specs.Faults.{GivesDump}
use Rattle.game_types.proofs.Walks.{returned}
use Rattle.rocket_launches.specs.Launches.{with_launches}
use Rattle.rocket_launches.proofs.adding.launched.Goals as goal

pub returns : goal.returns
returns c = c.in_ok-launch.ensures.game

pub returns-in_err-launch : goal.returns-in_err-launch
returns-in_err-launch c = subst (GivesDump (with_launches c.args.game)) (sym (returned c.from_residual.result c.in_err-launch.field-0.0 c.from_residual.ensures)) c.in_err-launch.ensures.fault
