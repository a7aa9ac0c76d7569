use Rattle.depend_rows.proofs.Below.{row_members_below}
use Rattle.depend_rows.proofs.rows.row_of.Goals as goal

pub returns-clause-members : goal.returns-clause-members
returns-clause-members g c = row_members_below c.args.book.now.game c.requires.sound.game c.args.node.0 c.requires.node c.in_ok-row.row c.in_ok-row.ensures
