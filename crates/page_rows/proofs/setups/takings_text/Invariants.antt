use Rattle.std.proofs.Common.{string_bytes}
use Rattle.plan_report.proofs.Texts.{TextSoFar}
use Rattle.page_rows.specs.Setups.{taken_text}
use Rattle.page_rows.proofs.setups.takings_text.Given as goal

abbrev pub invariant-loop-good : goal.invariant-loop-good
invariant-loop-good l = TextSoFar (λ text. text) (taken_text l.game) l.goods l.good-index (string_bytes l.text)
