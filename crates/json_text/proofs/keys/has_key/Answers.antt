use Rattle.std.proofs.Common.{◌≡◌, ◌∙◌, sym, ap, take, false}
use Rattle.std.specs.Prelude.{◌||◌}
use Rattle.std.specs.List.{list_any}
use Rattle.std.specs.Str.{bytes_eq}
use Rattle.json_text.proofs.LateKeys.{is_of, first_and_late}
use Rattle.json_text.proofs.keys.has_key.Goals as goal

pub returns-else-is_key_among : goal.returns-else-is_key_among
returns-else-is_key_among c =
    let first : list_any (is_of c.args.key.now) (take 16 c.args.members.now) ≡ false = sym c.is_key_among-else-members-le-FEW.ensures ∙ c.if-is_key_among.false in
    c.is_late.ensures ∙ ap (λ b. b || list_any (λ k. bytes_eq c.args.key.now k.items) c.args.late.now.keys) (sym first) ∙ first_and_late c.args.late.now.keys c.args.members.now c.args.key.now c.requires
