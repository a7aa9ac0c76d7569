use Rattle.std.proofs.Common.{string_bytes}
use Rattle.plan_report.specs.Layout.{further_line}
use Rattle.plan_report.specs.Questions.{why_line}
use Rattle.plan_report.specs.RankWords.{AreRankWords}
use Rattle.plan_report.proofs.Texts.{TextBehind}
use Rattle.plan_report.proofs.ranked.push_why_block.Given as goal

abbrev pub invariant-loop-node : goal.invariant-loop-node
invariant-loop-node l = record {
  written : TextBehind further_line (why_line l.game) l.nodes l.node-index (string_bytes l.initial.text) (string_bytes l.text);
  words_are : AreRankWords l.words.rank l.words;
}
