use Rattle.std.proofs.Common.{string_bytes}
use Rattle.plan_report.specs.Layout.{further_line}
use Rattle.plan_report.specs.Questions.{group_line}
use Rattle.plan_report.proofs.Texts.{TextBehind}
use Rattle.plan_report.proofs.questions.push_group_lines.Given as goal

abbrev pub invariant-loop-all : goal.invariant-loop-all
invariant-loop-all l = TextBehind further_line (group_line l.game) l.groups l.all-index (string_bytes l.initial.text) (string_bytes l.text)
