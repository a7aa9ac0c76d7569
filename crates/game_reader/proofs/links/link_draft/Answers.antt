use Rattle.std.proofs.Common.{subst, sym}
use Rattle.craft_reader.specs.Faults.{GivesDump}
use Rattle.dump_reader.specs.Draft.{draft_seen}
use Rattle.game_reader.specs.Links.{linked}
use Rattle.game_types.proofs.Walks.{returned}
use Rattle.game_reader.proofs.Chain.{game_given, lists_fail}
use Rattle.game_reader.proofs.links.link_draft.Goals as goal

pub returns : goal.returns
returns c =
    game_given (draft_seen c.args.draft) c.in_ok-items.field-0 c.from_vec.result c.from_vec-2.result c.from_vec-3.result c.in_ok-items.ensures c.from_vec.ensures c.from_vec-2.ensures c.from_vec-3.ensures

pub returns-in_err-items : goal.returns-in_err-items
returns-in_err-items c = subst (GivesDump (linked (draft_seen c.args.draft))) (sym (returned c.from_residual.result c.in_err-items.field-0.0 c.from_residual.ensures)) (λ memory. lists_fail (draft_seen c.args.draft) c.in_err-items.field-0.0 (c.in_err-items.ensures memory))
