use Rattle.std.proofs.Common.{◌≡◌, ◌<◌, ◌≤◌, [], subst}
use Rattle.std.specs.Prelude.{MatchResult}
use Rattle.graph_store.specs.Rows.{member_count}
use Rattle.data_edit.specs.declared.books.Book.{Book}
use Rattle.depend_rows.specs.Rows.{rows_of}
use Rattle.state_changes.specs.States.{state_of}
use Rattle.planning_state.specs.declared.planning.LoadFault.TheVariants.{Members}
use Rattle.planning_state.proofs.planning.Planning.make.Goals as goal

pub returns-in-Ok-clause-planning : goal.returns-in-Ok-clause-planning
returns-in-Ok-clause-planning g c =
    subst (λ (b : Book). MatchResult c.of_book.result
    (λ planning. (planning ≡ state_of b [] []) × (member_count (rows_of b.game) ≤ 4_194_304))
    (λ fault. fault ≡ Members → 4_194_304 < member_count (rows_of b.game)))
    c.in-Ok.ensures.book c.of_book.ensures.planning
