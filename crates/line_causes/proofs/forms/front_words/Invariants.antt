use Rattle.std.proofs.Common.{◌∷◌, string_bytes}
use Rattle.plan_report.proofs.Texts.{TextSoFar}
use Rattle.line_causes.specs.Forms.{slot_name}
use Rattle.line_causes.proofs.forms.front_words.Given as goal

abbrev pub invariant-loop-slot : goal.invariant-loop-slot
invariant-loop-slot l = TextSoFar (λ word. 32 ∷ word) slot_name l.slots l.slot-index (string_bytes l.text)
