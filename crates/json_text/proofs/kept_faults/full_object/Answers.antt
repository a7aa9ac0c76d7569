use Rattle.std.proofs.Common.{◌∙◌, sym, arith}
use Rattle.json_text.proofs.Lexed.{said}
use Rattle.json_text.proofs.SpanLemmas.{from-full-key, from-no-key}
use Rattle.json_text.proofs.kept_faults.full_object.Goals as goal

pub returns-in-Quote : goal.returns-in-Quote
returns-in-Quote c = λ w n f fs full. from-full-key w c.args.bytes.now c.args.at n f fs (omega arith) (sym c.class_of.ensures ∙ c.in-Quote.is) full ∙ said _ _ _ _ c.too_many.ensures.code c.too_many.ensures.at

pub returns-in_default : goal.returns-in_default
returns-in_default c = λ w n f fs full. from-no-key w c.args.bytes.now c.args.at n f fs (omega arith) c.requires.inside.no_space c.requires.inside.no_end (λ e. c.in_default.not-Quote (c.class_of.ensures ∙ e)) ∙ said _ _ _ _ c.not_json.ensures.code c.not_json.ensures.at
