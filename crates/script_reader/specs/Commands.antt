-- The commands of the script, by their first words. The words are this project's own.
use Rattle.std.specs.Prelude.{ℕ, List, codes, Option, Some, None, if◌then◌else◌}
use Rattle.std.specs.Str.{bytes_eq}
use Rattle.std.specs.Option.{option_or}
use Rattle.script_reader.specs.declared.command_words.CommandWord.{CommandWord}
use Rattle.script_reader.specs.declared.command_words.CommandWord.TheVariants.{Reach, Why, Missing, Mask, List as ListWord, Milestones, Summary, Rate, Solve, Quiet, Undo, Redo, Batch, End, Cancel, Grant, Revoke, Forbid, Permit, Milestone, Unmilestone, Ingredient, Product, Unlock, Time, Enabled, Table, Untable, Row, Unrow, Price, Want, Import, Surplus, Power}

-- the question that a word names
abbrev pub question_word : List ℕ → Option CommandWord
question_word word =
    if bytes_eq word (codes "reach") then Some Reach else
    if bytes_eq word (codes "why") then Some Why else
    if bytes_eq word (codes "missing") then Some Missing else
    if bytes_eq word (codes "mask") then Some Mask else
    if bytes_eq word (codes "list") then Some ListWord else
    if bytes_eq word (codes "milestones") then Some Milestones else
    if bytes_eq word (codes "summary") then Some Summary else
    if bytes_eq word (codes "rate") then Some Rate else
    if bytes_eq word (codes "solve") then Some Solve else
    None

-- what a word does to the session: its replies, its history, a batch
abbrev pub session_word : List ℕ → Option CommandWord
session_word word =
    if bytes_eq word (codes "quiet") then Some Quiet else
    if bytes_eq word (codes "undo") then Some Undo else
    if bytes_eq word (codes "redo") then Some Redo else
    if bytes_eq word (codes "batch") then Some Batch else
    if bytes_eq word (codes "end") then Some End else
    if bytes_eq word (codes "cancel") then Some Cancel else
    None

-- the edit of the game, its marks or its milestones that a word names
abbrev pub game_word : List ℕ → Option CommandWord
game_word word =
    if bytes_eq word (codes "grant") then Some Grant else
    if bytes_eq word (codes "revoke") then Some Revoke else
    if bytes_eq word (codes "forbid") then Some Forbid else
    if bytes_eq word (codes "permit") then Some Permit else
    if bytes_eq word (codes "milestone") then Some Milestone else
    if bytes_eq word (codes "unmilestone") then Some Unmilestone else
    if bytes_eq word (codes "ingredient") then Some Ingredient else
    if bytes_eq word (codes "product") then Some Product else
    if bytes_eq word (codes "unlock") then Some Unlock else
    if bytes_eq word (codes "time") then Some Time else
    if bytes_eq word (codes "enabled") then Some Enabled else
    None

-- the edit of tables that a word names
abbrev pub table_word : List ℕ → Option CommandWord
table_word word =
    if bytes_eq word (codes "table") then Some Table else
    if bytes_eq word (codes "untable") then Some Untable else
    if bytes_eq word (codes "row") then Some Row else
    if bytes_eq word (codes "unrow") then Some Unrow else
    if bytes_eq word (codes "price") then Some Price else
    if bytes_eq word (codes "want") then Some Want else
    if bytes_eq word (codes "import") then Some Import else
    if bytes_eq word (codes "surplus") then Some Surplus else
    if bytes_eq word (codes "power") then Some Power else
    None

-- the command that a word names
abbrev pub command_word : List ℕ → Option CommandWord
command_word word = option_or (option_or (question_word word) (session_word word)) (option_or (game_word word) (table_word word))
