use Rattle.std.proofs.Common.{◌∷◌, string_bytes}
use Rattle.plan_report.specs.Nodes.{node_word}
use Rattle.plan_report.proofs.Texts.{TextBehind}
use Rattle.plan_report.proofs.questions.push_nodes.Given as goal

abbrev pub invariant-loop-node : goal.invariant-loop-node
invariant-loop-node l = TextBehind (λ word. 32 ∷ word) (node_word l.game) l.nodes l.node-index (string_bytes l.initial.text) (string_bytes l.text)
