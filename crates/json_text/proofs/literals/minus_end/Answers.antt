use Rattle.std.proofs.Common.{◌∙◌, ◌+◌, sym, arith, refl}
use Rattle.std.specs.Prelude.{slice_range}
use Rattle.json_text.specs.Kept as k
use Rattle.json_text.specs.Machine.{if_kept}
use Rattle.json_text.specs.declared.number.Phase.TheVariants as phase
use Rattle.json_text.proofs.Lexed.{from-number-cut, said, err_at}
use Rattle.json_text.proofs.Scalars.{minus-zero, minus-whole, minus-i, minus-n, minus-other}
use Rattle.std.proofs.Common.{subst, ap, get_or}
use Rattle.std.specs.Prelude.{codes}
use Rattle.json_text.specs.Lexing.{number_next}
use Rattle.json_text.specs.Cutting.{ScalarCut}
use Rattle.json_text.specs.declared.number.Phase.TheVariants.{Minus, Zero, Whole}
use Rattle.json_text.proofs.Numerals.{nonzero_unsigned}
use Rattle.json_text.proofs.Cuts.{scalar_minus, two_to, number_scalar, scalar_cut, two_ok, two_stops, cut_two, minus_letter, minus_inf_text, minus_nan_text}
use Rattle.json_text.proofs.literals.minus_end.Goals as goal

pub returns-then-at-bytes-clause-fault : goal.returns-then-at-bytes-clause-fault
returns-then-at-bytes-clause-fault c = λ w keep n fs. from-number-cut w c.args.bytes.now (c.args.at + 1) keep c.args.at (slice_range c.args.bytes.now c.args.at (c.args.at + 1)) phase.Minus n fs (omega arith) refl ∙ said _ _ _ _ c.not_json.ensures.code c.not_json.ensures.at

pub returns-then-byte-eq48-clause-ok : goal.returns-then-byte-eq48-clause-ok
returns-then-byte-eq48-clause-ok c = λ w keep n fs. minus-zero w c.args.bytes.now c.args.at keep n fs (omega arith) c.if-byte-eq48.true ∙ c.in_ok-end.ensures.number w keep n fs

pub returns-in_err-end-clause-fault : goal.returns-in_err-end-clause-fault
returns-in_err-end-clause-fault c = err_at _ c.from_residual.result c.in_err-end.field-0.0 c.from_residual.ensures (λ w keep n fs. minus-zero w c.args.bytes.now c.args.at keep n fs (omega arith) c.if-byte-eq48.true ∙ c.in_err-end.ensures.fault w keep n fs)

pub returns-then-is_nonzero-clause-ok : goal.returns-then-is_nonzero-clause-ok
returns-then-is_nonzero-clause-ok c = λ w keep n fs. minus-whole w c.args.bytes.now c.args.at keep n fs (omega arith) (sym c.is_nonzero.ensures ∙ c.if-is_nonzero.true) ∙ c.in_ok-end-2.ensures.number w keep n fs

pub returns-in_err-end-2-clause-fault : goal.returns-in_err-end-2-clause-fault
returns-in_err-end-2-clause-fault c = err_at _ c.from_residual-in_err-end-2.result c.in_err-end-2.field-0.0 c.from_residual-in_err-end-2.ensures (λ w keep n fs. minus-whole w c.args.bytes.now c.args.at keep n fs (omega arith) (sym c.is_nonzero.ensures ∙ c.if-is_nonzero.true) ∙ c.in_err-end-2.ensures.fault w keep n fs)

pub returns-then-byte-eq105-clause-ok : goal.returns-then-byte-eq105-clause-ok
returns-then-byte-eq105-clause-ok c = λ w keep n fs. minus-i w c.args.bytes.now c.args.at keep n fs (omega arith) c.if-byte-eq105.true ∙ c.in_ok-end-3.ensures.word w (if_kept keep c.args.at (k.word c.args.at)) n fs

pub returns-in_err-end-3-clause-fault : goal.returns-in_err-end-3-clause-fault
returns-in_err-end-3-clause-fault c = err_at _ c.from_residual-in_err-end-3.result c.in_err-end-3.field-0.0 c.from_residual-in_err-end-3.ensures (λ w keep n fs. minus-i w c.args.bytes.now c.args.at keep n fs (omega arith) c.if-byte-eq105.true ∙ c.in_err-end-3.ensures.fault w (if_kept keep c.args.at (k.word c.args.at)) n fs)

pub returns-then-byte-eq110-clause-ok : goal.returns-then-byte-eq110-clause-ok
returns-then-byte-eq110-clause-ok c = λ w keep n fs. minus-n w c.args.bytes.now c.args.at keep n fs (omega arith) c.if-byte-eq110.true ∙ c.in_ok-end-4.ensures.word w (if_kept keep c.args.at (k.word c.args.at)) n fs

pub returns-in_err-end-4-clause-fault : goal.returns-in_err-end-4-clause-fault
returns-in_err-end-4-clause-fault c = err_at _ c.from_residual-in_err-end-4.result c.in_err-end-4.field-0.0 c.from_residual-in_err-end-4.ensures (λ w keep n fs. minus-n w c.args.bytes.now c.args.at keep n fs (omega arith) c.if-byte-eq110.true ∙ c.in_err-end-4.ensures.fault w (if_kept keep c.args.at (k.word c.args.at)) n fs)

pub returns-clause-fault : goal.returns-clause-fault
returns-clause-fault c = λ w keep n fs. minus-other w c.args.bytes.now c.args.at keep n fs (omega arith) c.if-byte-eq48.false (sym c.is_nonzero.ensures ∙ c.if-is_nonzero.false) c.if-byte-eq105.false c.if-byte-eq110.false ∙ said _ _ _ _ c.not_json-2.ensures.code c.not_json-2.ensures.at

pub returns-then-at-bytes-clause-cut : goal.returns-then-at-bytes-clause-cut
returns-then-at-bytes-clause-cut c = subst (ScalarCut c.args.bytes.now c.args.at) (sym c.not_json.ensures.at) (scalar_minus c.args.bytes.now c.args.at (omega arith) c.requires.minus)

pub number_end-requires-clause-read : goal.number_end-requires-clause-read
number_end-requires-clause-read c = two_to c.args.bytes.now c.args.at Zero (omega arith) c.requires.minus (ap (number_next Minus) c.if-byte-eq48.true)

pub returns-then-byte-eq48-clause-scalar : goal.returns-then-byte-eq48-clause-scalar
returns-then-byte-eq48-clause-scalar c = number_scalar (slice_range c.args.bytes.now c.args.at c.in_ok-end.end) c.in_ok-end.ensures.numeral

pub returns-in_err-end-clause-cut : goal.returns-in_err-end-clause-cut
returns-in_err-end-clause-cut c = err_at _ c.from_residual.result c.in_err-end.field-0.0 c.from_residual.ensures (let h = c.in_err-end.ensures.cut in scalar_cut c.args.bytes.now c.args.at c.in_err-end.field-0.0.at (omega (arith, h.0)) h.1 h.2)

pub number_end-requires-then-is_nonzero-clause-read : goal.number_end-requires-then-is_nonzero-clause-read
number_end-requires-then-is_nonzero-clause-read c = two_to c.args.bytes.now c.args.at Whole (omega arith) c.requires.minus (nonzero_unsigned (get_or c.args.bytes.now (c.args.at + 1) 0) (sym c.is_nonzero.ensures ∙ c.if-is_nonzero.true))

pub returns-then-is_nonzero-clause-scalar : goal.returns-then-is_nonzero-clause-scalar
returns-then-is_nonzero-clause-scalar c = number_scalar (slice_range c.args.bytes.now c.args.at c.in_ok-end-2.end) c.in_ok-end-2.ensures.numeral

pub returns-in_err-end-2-clause-cut : goal.returns-in_err-end-2-clause-cut
returns-in_err-end-2-clause-cut c = err_at _ c.from_residual-in_err-end-2.result c.in_err-end-2.field-0.0 c.from_residual-in_err-end-2.ensures (let h = c.in_err-end-2.ensures.cut in scalar_cut c.args.bytes.now c.args.at c.in_err-end-2.field-0.0.at (omega (arith, h.0)) h.1 h.2)

pub returns-then-byte-eq105-clause-scalar : goal.returns-then-byte-eq105-clause-scalar
returns-then-byte-eq105-clause-scalar c = two_ok c.args.bytes.now c.args.at c.in_ok-end-3.end 45 105 (codes "nf") (omega (arith, c.in_ok-end-3.ensures.within)) (omega (arith, c.in_ok-end-3.ensures.within)) c.requires.minus c.if-byte-eq105.true c.in_ok-end-3.ensures.spelled minus_inf_text

pub returns-then-byte-eq105-clause-stops : goal.returns-then-byte-eq105-clause-stops
returns-then-byte-eq105-clause-stops c = two_stops c.args.bytes.now c.args.at c.in_ok-end-3.end (omega (arith, c.in_ok-end-3.ensures.within)) c.requires.minus (ap (number_next Minus) c.if-byte-eq105.true)

pub returns-in_err-end-3-clause-cut : goal.returns-in_err-end-3-clause-cut
returns-in_err-end-3-clause-cut c = err_at _ c.from_residual-in_err-end-3.result c.in_err-end-3.field-0.0 c.from_residual-in_err-end-3.ensures (cut_two c.args.bytes.now c.args.at c.in_err-end-3.field-0.0.at 45 105 (codes "nf") c.requires.minus c.if-byte-eq105.true (λ xs n. minus_letter 105 xs refl n) c.in_err-end-3.ensures.cut minus_inf_text)

pub returns-then-byte-eq110-clause-scalar : goal.returns-then-byte-eq110-clause-scalar
returns-then-byte-eq110-clause-scalar c = two_ok c.args.bytes.now c.args.at c.in_ok-end-4.end 45 110 (codes "an") (omega (arith, c.in_ok-end-4.ensures.within)) (omega (arith, c.in_ok-end-4.ensures.within)) c.requires.minus c.if-byte-eq110.true c.in_ok-end-4.ensures.spelled minus_nan_text

pub returns-then-byte-eq110-clause-stops : goal.returns-then-byte-eq110-clause-stops
returns-then-byte-eq110-clause-stops c = two_stops c.args.bytes.now c.args.at c.in_ok-end-4.end (omega (arith, c.in_ok-end-4.ensures.within)) c.requires.minus (ap (number_next Minus) c.if-byte-eq110.true)

pub returns-in_err-end-4-clause-cut : goal.returns-in_err-end-4-clause-cut
returns-in_err-end-4-clause-cut c = err_at _ c.from_residual-in_err-end-4.result c.in_err-end-4.field-0.0 c.from_residual-in_err-end-4.ensures (cut_two c.args.bytes.now c.args.at c.in_err-end-4.field-0.0.at 45 110 (codes "an") c.requires.minus c.if-byte-eq110.true (λ xs n. minus_letter 110 xs refl n) c.in_err-end-4.ensures.cut minus_nan_text)

pub returns-clause-cut : goal.returns-clause-cut
returns-clause-cut c = subst (ScalarCut c.args.bytes.now c.args.at) (sym c.not_json-2.ensures.at) (scalar_minus c.args.bytes.now c.args.at (omega arith) c.requires.minus)
