use Rattle.std.proofs.Common.{◌∙◌, sym, arith, get_or}
use Rattle.json_text.specs.Machine.{key, for_key}
use Rattle.json_text.specs.declared.class.Class.TheVariants.{Quote}
use Rattle.json_text.proofs.Steps.{from-class, from-end, from-key-refused}
use Rattle.json_text.proofs.Reading.{class-34}
use Rattle.json_text.proofs.Lexed.{said, ok_then, err_then}
use Rattle.std.proofs.Common.{subst, inr}
use Rattle.json_text.specs.Cutting.{StringCut}
use Rattle.json_text.proofs.Cuts.{string_none, string_cut}
use Rattle.json_text.proofs.strings.key_end.Goals as goal

pub returns-then-at-bytes-clause-fault : goal.returns-then-at-bytes-clause-fault
returns-then-at-bytes-clause-fault c = λ w n f fs. from-end w c.args.bytes.now c.args.at (key n f fs) (omega arith) ∙ said _ _ _ _ c.not_json.ensures.code c.not_json.ensures.at

pub returns-in-Quote-clause-key : goal.returns-in-Quote-clause-key
returns-in-Quote-clause-key c = ok_then c.string_end.result c.string_end.ensures.text (λ r h w n f fs. from-class w c.args.bytes.now c.args.at (key n f fs) Quote (omega arith) (sym c.class_of.ensures ∙ c.in-Quote.is) ∙ h w (for_key f) n fs)

pub returns-in-Quote-clause-opens : goal.returns-in-Quote-clause-opens
returns-in-Quote-clause-opens c = ok_then c.string_end.result c.string_end.ensures.quote (λ r h. class-34 (get_or c.args.bytes.now c.args.at 0) (sym c.class_of.ensures ∙ c.in-Quote.is))

pub returns-in-Quote-clause-fault : goal.returns-in-Quote-clause-fault
returns-in-Quote-clause-fault c = err_then c.string_end.result c.string_end.ensures.fault (λ e h w n f fs. from-class w c.args.bytes.now c.args.at (key n f fs) Quote (omega arith) (sym c.class_of.ensures ∙ c.in-Quote.is) ∙ h w (for_key f) n fs)

pub returns-in_default : goal.returns-in_default
returns-in_default c = record {
  within = tt;
  runs = tt;
  whole = tt;
  opens = tt;
  quote = tt;
  plain = tt;
  escape = tt;
  cut = subst (StringCut c.args.bytes.now c.args.at) (sym c.not_json-in_default.ensures.at) (string_none c.args.bytes.now c.args.at (omega arith));
  code = inr c.not_json-in_default.ensures.code;
  key = tt;
  fault = λ w n f fs. from-key-refused w c.args.bytes.now c.args.at n f fs (omega arith) (c.requires.no_space (omega arith)) (λ e. c.in_default.not-Quote (c.class_of.ensures ∙ e)) ∙ said _ _ _ _ c.not_json-in_default.ensures.code c.not_json-in_default.ensures.at;
}

pub returns-then-at-bytes-clause-cut : goal.returns-then-at-bytes-clause-cut
returns-then-at-bytes-clause-cut c = subst (StringCut c.args.bytes.now c.args.at) (sym c.not_json.ensures.at) (string_none c.args.bytes.now c.args.at (omega arith))

pub returns-in-Quote-clause-cut : goal.returns-in-Quote-clause-cut
returns-in-Quote-clause-cut c = err_then c.string_end.result c.string_end.ensures.cut (λ f h. string_cut c.args.bytes.now c.args.at f.at (omega (arith, h.0)) h.1 (class-34 (get_or c.args.bytes.now c.args.at 0) (sym c.class_of.ensures ∙ c.in-Quote.is)) h.2)
