-- A line of a script with its reply, as a line of JSON Lines.
use Rattle.std.specs.Prelude.{◌≡◌, ℕ, List, [], ◌∷◌, ◌++◌, Option, Some, None, codes}
use Rattle.game_types.specs.declared.games.Game.{Game}
use Rattle.plan_lines.specs.declared.reply.Reply.{Reply}
use Rattle.serde_json.specs.Data.{Data, Members, no_members, object}
use Rattle.catalog_members.specs.Members.{with_object, with_text}
use Rattle.catalog_members.specs.Texts.{IsTextOf}
use Rattle.report_json.specs.Replies.{with_reply}
use Rattle.report_json.specs.Values.{with_whole}

-- a line that is no UTF-8 has no text
unfoldable pub with_line : Option (List ℕ) → Members → Members
with_line None ms = ms
with_line (Some words) ms = with_text (codes "command") words ms

-- the number of a line, its text and its reply
unfoldable pub line_value : Game → ℕ → Option (List ℕ) → Reply → Data
line_value g number words reply =
    object (with_object (codes "reply") (with_reply g reply no_members) (with_line words (with_whole (codes "line") number no_members)))

-- one object of JSON, and the newline
pub record IsJsonLine (value : Data) (text : List ℕ) : Type 0 where
  pub object_text : List ℕ
  pub is_text : IsTextOf value object_text
  pub ended : text ≡ object_text ++ 10 ∷ []
