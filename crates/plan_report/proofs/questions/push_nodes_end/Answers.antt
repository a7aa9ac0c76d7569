use Rattle.std.proofs.Common.{◌∙◌, ◌++◌, ◌∷◌, [], ap, map, string_bytes}
use Rattle.plan_report.specs.Nodes.{node_word}
use Rattle.plan_report.proofs.Texts.{words_behind}
use Rattle.plan_report.proofs.questions.push_nodes_end.Goals as goal

pub returns : goal.returns
returns c =
    words_behind (string_bytes c.args.text.now) (string_bytes c.push_str.new.self) (map (node_word c.args.game.now) c.args.nodes.now)
    (c.in_ok-push_str.ensures.bytes ∙ ap (λ text. text ++ 10 ∷ []) c.in_ok-push_nodes.ensures)
