use Rattle.std.proofs.Common.{refl}
use Rattle.depend_rows.specs.Rows.{row_of}
use Rattle.depend_rows.proofs.Below.{row_members_below}
use Rattle.depend_rows.proofs.rows.members_are_nodes.Goals as goal

pub returns : goal.returns
returns c = λ book sound n within. row_members_below book.game sound.game n within (row_of book.game n) refl
