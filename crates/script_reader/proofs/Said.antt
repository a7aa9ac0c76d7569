-- Lines whose first word is no command.
use Rattle.std.specs.Prelude.{◌≡◌, ℕ, List, [], ◌∷◌, length, Option, None, Err}
use Rattle.std.proofs.Common.{sym, subst, arith}
use Rattle.script_reader.specs.declared.fault.ScriptFault.TheVariants.{UnknownCommand}
use Rattle.script_reader.specs.declared.command_words.CommandWord.{CommandWord}
use Rattle.script_reader.specs.Reading.{Answers}
use Rattle.script_reader.specs.Commands.{command_word}
use Rattle.script_reader.specs.Arguments.{named, command_of_words}
use Rattle.script_reader.proofs.Readings.{answers_unknown}

pub no_words_said : (words : List (List ℕ)) → length words ≡ 0 → Answers (command_of_words words) (Err UnknownCommand)
no_words_said [] e = answers_unknown _
no_words_said (word ∷ words) e = absurd (omega arith)

pub unknown_said : (words : List (List ℕ)) (first : List ℕ) (rest : List (List ℕ)) → words ≡ first ∷ rest → command_word first ≡ None → Answers (command_of_words words) (Err UnknownCommand)
unknown_said words first rest e h = subst (λ (w : List (List ℕ)). Answers (command_of_words w) (Err UnknownCommand)) (sym e) (subst (λ (c : Option CommandWord). Answers (named c rest) (Err UnknownCommand)) (sym h) (answers_unknown _))
