use Rattle.std.proofs.Common.{◌≡◌, ◌++◌, length, map, string_bytes}
use Rattle.plan_report.specs.Layout.{further_text}
use Rattle.plan_report.specs.Questions.{why_line}
use Rattle.plan_report.specs.RankWords.{AreRankWords}
use Rattle.plan_report.proofs.ranked.push_why_lines.Given as goal

abbrev pub invariant-loop-rest : goal.invariant-loop-rest
invariant-loop-rest l = record {
  written : string_bytes l.text ++ further_text (map (why_line l.game) l.rest) ≡ string_bytes l.initial.text ++ further_text (map (why_line l.game) l.nodes);
  words_are : AreRankWords l.words.rank l.words;
}

abbrev pub decreases-loop-rest : goal.decreases-loop-rest
decreases-loop-rest l = length l.rest
