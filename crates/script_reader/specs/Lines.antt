-- What a line of the script says. The form is this project's own.
use Rattle.std.specs.Prelude.{◌≡◌, ℕ, Bool, true, false, ◌==◌, List, [], ◌∷◌, Option, Some, None, Result}
use Rattle.std.specs.Str.{IsUtf8}
use Rattle.plan_lines.specs.declared.command.Command.{Command}
use Rattle.script_reader.specs.declared.fault.ScriptFault.{ScriptFault}
use Rattle.script_reader.specs.declared.fault.ScriptFault.TheVariants.{BadQuoting, NoMemory}
use Rattle.script_reader.specs.Words.{is_separator, SpellsLine}
use Rattle.script_reader.specs.Scan.{behind_by}
use Rattle.script_reader.specs.Reading.{gives, the_one, and_then}
use Rattle.script_reader.specs.Arguments.{command_of_words}

-- nothing, or `#` first
abbrev pub begins_comment : List ℕ → Bool
begins_comment [] = true
begins_comment (c ∷ cs) = c == 35

-- a line has no command if, past the separators at its front, nothing stands there or a comment
abbrev pub has_no_command : List ℕ → Bool
has_no_command line = begins_comment (behind_by is_separator line)

abbrev pub AreTexts : List (List ℕ) → Type 0
AreTexts [] = Unit {0}
AreTexts (word ∷ words) = IsUtf8 word × AreTexts words

-- a line in UTF-8 that is neither blank nor a comment, and the words that it spells
pub record HasWords (line : List ℕ) (words : List (List ℕ)) : Type 0 where
  pub in_utf8 : IsUtf8 line
  pub has_command : has_no_command line ≡ false
  pub spells : SpellsLine line words

-- the line is in UTF-8
abbrev pub utf8 : List ℕ → Result (Unit {0}) ScriptFault → Type 0
utf8 line = the_one (λ u. IsUtf8 line) BadQuoting

-- the words that the line spells, each of them in UTF-8 as the line is
abbrev pub spelled : List ℕ → Result (List (List ℕ)) ScriptFault → Type 0
spelled line = the_one (λ words. SpellsLine line words × AreTexts words) BadQuoting

-- the command of a line's words
abbrev pub command_spelled : List ℕ → Result (Option Command) ScriptFault → Type 0
command_spelled line = and_then (spelled line) (λ words. and_then (command_of_words words) (λ command. gives (Some command)))

-- a line that has no command, or the command of its words
abbrev pub command_unless : Bool → List ℕ → Result (Option Command) ScriptFault → Type 0
command_unless true line = gives None
command_unless false line = command_spelled line

-- First the line has to be in UTF-8. Then a blank line and a comment have no command, and any other line has that of its words.
abbrev pub command_of_line : List ℕ → Result (Option Command) ScriptFault → Type 0
command_of_line line = and_then (utf8 line) (λ u. command_unless (has_no_command line) line)

-- the faults of splitting
abbrev pub IsQuotingFault : ScriptFault → Type 0
IsQuotingFault BadQuoting = Unit
IsQuotingFault NoMemory = Unit
IsQuotingFault fault = ⊥
