use Rattle.std.proofs.Common.{string_bytes}
use Rattle.plan_report.proofs.Texts.{TextSoFar}
use Rattle.page_rows.specs.Setups.{module_text}
use Rattle.page_rows.proofs.setups.modules_text.Given as goal

abbrev pub invariant-loop-good : goal.invariant-loop-good
invariant-loop-good l = TextSoFar (λ text. text) (module_text l.game) l.modules l.good-index (string_bytes l.text)
