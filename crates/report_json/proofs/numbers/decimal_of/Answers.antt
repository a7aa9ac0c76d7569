use Rattle.std.proofs.Common.{◌≡◌, string_bytes, String, Global}
use Rattle.std.proofs.lemmas.Result.{IfOk-weaker}
use Rattle.page_parts.specs.Decimals.{decimal_text, is_below_zero, IsNearest}
use Rattle.page_parts.specs.declared.decimals.Nearest.{Nearest}
use Rattle.report_json.specs.Numbers.{decimal_of}
use Rattle.report_json.proofs.Nearest.{decimal_is}
use Rattle.report_json.proofs.numbers.decimal_of.Goals as goal

pub returns : goal.returns
returns c =
    IfOk-weaker c.decimal.result
    (λ text. (near : Nearest) × IsNearest c.args.number.now near × (string_bytes text ≡ decimal_text (is_below_zero c.args.number.now) near))
    (λ text. string_bytes text ≡ decimal_of c.args.number.now)
    (λ text h. decimal_is c.args.number.now h.0 (string_bytes text) h.1 h.2)
    c.decimal.ensures
