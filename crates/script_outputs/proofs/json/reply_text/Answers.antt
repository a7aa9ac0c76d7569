use Rattle.std.proofs.Common.{◌≡◌, List, ℕ, Option, ap, subst, string_bytes}
use Rattle.std.specs.Option.{option_map}
use Rattle.std.proofs.lemmas.Result.{IfOk-weaker}
use Rattle.game_types.specs.declared.games.Game.{Game}
use Rattle.report_json.specs.Lines.{IsJsonLine, line_value}
use Rattle.script_outputs.specs.Told.{IsToldAs}
use Rattle.script_outputs.proofs.Telling.{told_as}
use Rattle.script_outputs.proofs.json.reply_text.Goals as goal

pub returns-in_default : goal.returns-in_default
returns-in_default c =
    let words = option_map (λ w. w.now) c.ok.result in
    IfOk-weaker c.line_text.result
    (λ text. IsJsonLine (line_value c.game.result.now c.args.number words c.args.reply.now) (string_bytes text))
    (λ text. IsToldAs c.args.planner.now c.args.number c.args.reply.now (string_bytes text))
    (λ text is. told_as c.args.planner.now c.args.number c.args.reply.now words (string_bytes text) c.in_default.not-Nothing
    (subst (λ (game : Game). IsJsonLine (line_value game c.args.number words c.args.reply.now) (string_bytes text)) c.game.ensures.game is))
    c.line_text.ensures
