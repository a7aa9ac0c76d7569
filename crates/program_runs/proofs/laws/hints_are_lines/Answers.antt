use Rattle.program_runs.proofs.LineLemmas.{hint_is_line, is_line}
use Rattle.program_runs.proofs.laws.hints_are_lines.Goals as goal

pub returns-clause-hint : goal.returns-clause-hint
returns-clause-hint c = hint_is_line

pub returns-clause-unread : goal.returns-clause-unread
returns-clause-unread c = is_line
