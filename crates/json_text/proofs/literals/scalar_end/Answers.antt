use Rattle.std.proofs.Common.{◌∙◌, sym, arith}
use Rattle.json_text.proofs.Steps.{from-value-refused}
use Rattle.json_text.proofs.Lexed.{said, ok_then, err_then, err_at}
use Rattle.json_text.proofs.Scalars.{from-zero, from-nonzero, from-minus}
use Rattle.std.proofs.Common.{subst, inr, refl, get_or}
use Rattle.std.specs.Prelude.{slice_range}
use Rattle.json_text.specs.Cutting.{ScalarCut, starts_zero, starts_whole}
use Rattle.json_text.specs.declared.number.Phase.TheVariants.{Zero, Whole}
use Rattle.json_text.proofs.Reading.{class-45, class-48, class-digit}
use Rattle.json_text.proofs.Cuts.{scalar_none, scalar_cut, number_scalar, one_to}
use Rattle.json_text.proofs.literals.scalar_end.Goals as goal

pub returns-in_ok-end-in-Zero-clause-ok : goal.returns-in_ok-end-in-Zero-clause-ok
returns-in_ok-end-in-Zero-clause-ok c = λ w keep n fs. from-zero w c.args.bytes.now c.args.at keep n fs (omega arith) (sym c.class_of.ensures ∙ c.in-Zero.is) ∙ c.in_ok-end-in-Zero.ensures.number w keep n fs

pub returns-in_err-end-in-Zero-clause-fault : goal.returns-in_err-end-in-Zero-clause-fault
returns-in_err-end-in-Zero-clause-fault c = err_at _ c.from_residual.result c.in_err-end-in-Zero.field-0.0 c.from_residual.ensures (λ w keep n fs. from-zero w c.args.bytes.now c.args.at keep n fs (omega arith) (sym c.class_of.ensures ∙ c.in-Zero.is) ∙ c.in_err-end-in-Zero.ensures.fault w keep n fs)

pub returns-in_ok-end-in-Digit-clause-ok : goal.returns-in_ok-end-in-Digit-clause-ok
returns-in_ok-end-in-Digit-clause-ok c = λ w keep n fs. from-nonzero w c.args.bytes.now c.args.at keep n fs (omega arith) (sym c.class_of.ensures ∙ c.in-Digit.is) ∙ c.in_ok-end-in-Digit.ensures.number w keep n fs

pub returns-in_err-end-in-Digit-clause-fault : goal.returns-in_err-end-in-Digit-clause-fault
returns-in_err-end-in-Digit-clause-fault c = err_at _ c.from_residual-in_err-end-in-Digit.result c.in_err-end-in-Digit.field-0.0 c.from_residual-in_err-end-in-Digit.ensures (λ w keep n fs. from-nonzero w c.args.bytes.now c.args.at keep n fs (omega arith) (sym c.class_of.ensures ∙ c.in-Digit.is) ∙ c.in_err-end-in-Digit.ensures.fault w keep n fs)

pub returns-in-Minus-clause-ok : goal.returns-in-Minus-clause-ok
returns-in-Minus-clause-ok c = ok_then c.minus_end.result c.minus_end.ensures.ok (λ r h w keep n fs. from-minus w c.args.bytes.now c.args.at keep n fs (omega arith) (sym c.class_of.ensures ∙ c.in-Minus.is) ∙ h w keep n fs)

pub returns-in-Minus-clause-fault : goal.returns-in-Minus-clause-fault
returns-in-Minus-clause-fault c = err_then c.minus_end.result c.minus_end.ensures.fault (λ e h w keep n fs. from-minus w c.args.bytes.now c.args.at keep n fs (omega arith) (sym c.class_of.ensures ∙ c.in-Minus.is) ∙ h w keep n fs)

pub returns-in_default : goal.returns-in_default
returns-in_default c = record {
  within = tt;
  scalar = tt;
  stops = tt;
  cut = subst (ScalarCut c.args.bytes.now c.args.at) (sym c.not_json.ensures.at) (scalar_none c.args.bytes.now c.args.at (omega arith));
  code = inr c.not_json.ensures.code;
  ok = tt;
  fault = λ w keep n fs. from-value-refused w c.args.bytes.now c.args.at n keep fs (omega arith) c.requires.scalar.no_space c.requires.scalar.no_string (λ e. c.in_default.not-Zero (c.class_of.ensures ∙ e)) (λ e. c.in_default.not-Digit (c.class_of.ensures ∙ e)) (λ e. c.in_default.not-Minus (c.class_of.ensures ∙ e))
      (λ e. c.in_default.not-Letter (c.class_of.ensures ∙ e)) c.requires.scalar.no_list c.requires.scalar.no_object ∙ said _ _ _ _ c.not_json.ensures.code c.not_json.ensures.at;
}

pub number_end-requires-clause-read : goal.number_end-requires-clause-read
number_end-requires-clause-read c = one_to c.args.bytes.now c.args.at 48 Zero (omega arith) (class-48 (get_or c.args.bytes.now c.args.at 0) (sym c.class_of.ensures ∙ c.in-Zero.is)) starts_zero

pub returns-in_ok-end-in-Zero-clause-scalar : goal.returns-in_ok-end-in-Zero-clause-scalar
returns-in_ok-end-in-Zero-clause-scalar c = number_scalar (slice_range c.args.bytes.now c.args.at c.in_ok-end-in-Zero.end) c.in_ok-end-in-Zero.ensures.numeral

pub returns-in_err-end-in-Zero-clause-cut : goal.returns-in_err-end-in-Zero-clause-cut
returns-in_err-end-in-Zero-clause-cut c = err_at _ c.from_residual.result c.in_err-end-in-Zero.field-0.0 c.from_residual.ensures (let h = c.in_err-end-in-Zero.ensures.cut in scalar_cut c.args.bytes.now c.args.at c.in_err-end-in-Zero.field-0.0.at (omega (arith, h.0)) h.1 h.2)

pub number_end-requires-in-Digit-clause-read : goal.number_end-requires-in-Digit-clause-read
number_end-requires-in-Digit-clause-read c = let b = get_or c.args.bytes.now c.args.at 0 in one_to c.args.bytes.now c.args.at b Whole (omega arith) refl (starts_whole b (class-digit b (sym c.class_of.ensures ∙ c.in-Digit.is)))

pub returns-in_ok-end-in-Digit-clause-scalar : goal.returns-in_ok-end-in-Digit-clause-scalar
returns-in_ok-end-in-Digit-clause-scalar c = number_scalar (slice_range c.args.bytes.now c.args.at c.in_ok-end-in-Digit.end) c.in_ok-end-in-Digit.ensures.numeral

pub returns-in_err-end-in-Digit-clause-cut : goal.returns-in_err-end-in-Digit-clause-cut
returns-in_err-end-in-Digit-clause-cut c = err_at _ c.from_residual-in_err-end-in-Digit.result c.in_err-end-in-Digit.field-0.0 c.from_residual-in_err-end-in-Digit.ensures (let h = c.in_err-end-in-Digit.ensures.cut in scalar_cut c.args.bytes.now c.args.at c.in_err-end-in-Digit.field-0.0.at (omega (arith, h.0)) h.1 h.2)

pub minus_end-requires-clause-minus : goal.minus_end-requires-clause-minus
minus_end-requires-clause-minus c = class-45 (get_or c.args.bytes.now c.args.at 0) (sym c.class_of.ensures ∙ c.in-Minus.is)
