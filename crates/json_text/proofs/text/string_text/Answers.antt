use Rattle.std.proofs.Common.{sym, refl, ◌+◌}
use Rattle.std.specs.Prelude.{slice_range}
use Rattle.json_text.specs.declared.lex.Lex.TheVariants.{Between}
use Rattle.json_text.proofs.Lexed.{shown_lexed}
use Rattle.json_text.proofs.text.string_text.Goals as goal

pub returns-then-plain-clause-text : goal.returns-then-plain-clause-text
returns-then-plain-clause-text c = sym (shown_lexed Between (slice_range c.args.bytes.now (c.args.start + 1) c.args.end) refl c.requires.runs (c.requires.plain c.if-plain.true))
