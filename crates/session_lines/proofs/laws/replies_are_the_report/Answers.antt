use Rattle.session_lines.proofs.Reporting.{nothing_answered, one_answered}
use Rattle.session_lines.proofs.laws.replies_are_the_report.Goals as goal

pub returns-clause-first : goal.returns-clause-first
returns-clause-first c = nothing_answered

pub returns-clause-next : goal.returns-clause-next
returns-clause-next c = one_answered
