use Rattle.std.specs.Prelude.{◌≡◌, string_bytes}
use Rattle.std.specs.Str.{IsUtf8}
use Rattle.std.proofs.Common.{rules, subst, ◌∙◌}
use Rattle.std.proofs.lemmas.Str.{IsUtf8-string_bytes}
use Rattle.script_reader.proofs.split.text_of_bytes.Goals as goal

pub returns-in-Ok : goal.returns-in-Ok
returns-in-Ok c = let same : string_bytes c.in-Ok.text ≡ c.args.bytes.items = search rules in (c.from_string.ensures ∙ same, subst IsUtf8 same (IsUtf8-string_bytes c.in-Ok.text))
