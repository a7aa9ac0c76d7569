use Rattle.std.proofs.Common.{◌∙◌, ◌+◌, true, false, arith}
use Rattle.json_text.specs.Kept as k
use Rattle.json_text.specs.Machine.{if_kept, behind_n}
use Rattle.json_text.proofs.Steps.{from-end}
use Rattle.json_text.proofs.Lexed.{said, err_at}
use Rattle.json_text.proofs.Scalars.{letter-t, letter-f, letter-i, letter-n, n-u, n-a, n-other}
use Rattle.std.proofs.Common.{subst, sym, ap, refl, get_or, ◌∷◌}
use Rattle.std.specs.Prelude.{codes}
use Rattle.json_text.specs.Machine.{class}
use Rattle.json_text.specs.Cutting.{ScalarCut}
use Rattle.json_text.specs.declared.class.Class.TheVariants.{Letter}
use Rattle.json_text.proofs.Cuts.{one_ok, two_ok, cut_one, cut_two, cut_first, other_stops, other_first, letter_class, is_number_class, is_n, n_class, true_text, false_text, inf_text, null_text, nan_text}
use Rattle.json_text.proofs.literals.letters_end.Goals as goal

pub returns-then-byte-eq116-clause-ok : goal.returns-then-byte-eq116-clause-ok
returns-then-byte-eq116-clause-ok c = λ w keep n fs. letter-t w c.args.bytes.now c.args.at keep n fs (omega arith) c.if-byte-eq116.true ∙ c.in_ok-end.ensures.word w (if_kept keep c.args.at (k.flag c.args.at true)) n fs

pub returns-in_err-end-clause-fault : goal.returns-in_err-end-clause-fault
returns-in_err-end-clause-fault c = err_at _ c.from_residual.result c.in_err-end.field-0.0 c.from_residual.ensures (λ w keep n fs. letter-t w c.args.bytes.now c.args.at keep n fs (omega arith) c.if-byte-eq116.true ∙ c.in_err-end.ensures.fault w (if_kept keep c.args.at (k.flag c.args.at true)) n fs)

pub returns-then-byte-eq102-clause-ok : goal.returns-then-byte-eq102-clause-ok
returns-then-byte-eq102-clause-ok c = λ w keep n fs. letter-f w c.args.bytes.now c.args.at keep n fs (omega arith) c.if-byte-eq102.true ∙ c.in_ok-end-2.ensures.word w (if_kept keep c.args.at (k.flag c.args.at false)) n fs

pub returns-in_err-end-2-clause-fault : goal.returns-in_err-end-2-clause-fault
returns-in_err-end-2-clause-fault c = err_at _ c.from_residual-in_err-end-2.result c.in_err-end-2.field-0.0 c.from_residual-in_err-end-2.ensures (λ w keep n fs. letter-f w c.args.bytes.now c.args.at keep n fs (omega arith) c.if-byte-eq102.true ∙ c.in_err-end-2.ensures.fault w (if_kept keep c.args.at (k.flag c.args.at false)) n fs)

pub returns-then-byte-eq105-clause-ok : goal.returns-then-byte-eq105-clause-ok
returns-then-byte-eq105-clause-ok c = λ w keep n fs. letter-i w c.args.bytes.now c.args.at keep n fs (omega arith) c.if-byte-eq105.true ∙ c.in_ok-end-3.ensures.word w (if_kept keep c.args.at (k.word c.args.at)) n fs

pub returns-in_err-end-3-clause-fault : goal.returns-in_err-end-3-clause-fault
returns-in_err-end-3-clause-fault c = err_at _ c.from_residual-in_err-end-3.result c.in_err-end-3.field-0.0 c.from_residual-in_err-end-3.ensures (λ w keep n fs. letter-i w c.args.bytes.now c.args.at keep n fs (omega arith) c.if-byte-eq105.true ∙ c.in_err-end-3.ensures.fault w (if_kept keep c.args.at (k.word c.args.at)) n fs)

pub returns-then-at-bytes-clause-fault : goal.returns-then-at-bytes-clause-fault
returns-then-at-bytes-clause-fault c = λ w keep n fs. letter-n w c.args.bytes.now c.args.at keep n fs (omega arith) c.requires.letter c.if-byte-eq116.false c.if-byte-eq102.false c.if-byte-eq105.false ∙ from-end w c.args.bytes.now (c.args.at + 1) (behind_n keep c.args.at n fs) (omega arith) ∙ said _ _ _ _ c.not_json.ensures.code c.not_json.ensures.at

pub returns-then-second-eq117-clause-ok : goal.returns-then-second-eq117-clause-ok
returns-then-second-eq117-clause-ok c = λ w keep n fs. letter-n w c.args.bytes.now c.args.at keep n fs (omega arith) c.requires.letter c.if-byte-eq116.false c.if-byte-eq102.false c.if-byte-eq105.false ∙ n-u w c.args.bytes.now c.args.at keep n fs (omega arith) c.if-second-eq117.true ∙ c.in_ok-end-4.ensures.word w (if_kept keep c.args.at (k.null c.args.at)) n fs

pub returns-in_err-end-4-clause-fault : goal.returns-in_err-end-4-clause-fault
returns-in_err-end-4-clause-fault c = err_at _ c.from_residual-in_err-end-4.result c.in_err-end-4.field-0.0 c.from_residual-in_err-end-4.ensures (λ w keep n fs. letter-n w c.args.bytes.now c.args.at keep n fs (omega arith) c.requires.letter c.if-byte-eq116.false c.if-byte-eq102.false c.if-byte-eq105.false ∙ n-u w c.args.bytes.now c.args.at keep n fs (omega arith) c.if-second-eq117.true ∙ c.in_err-end-4.ensures.fault w (if_kept keep c.args.at (k.null c.args.at)) n fs)

pub returns-then-second-eq97-clause-ok : goal.returns-then-second-eq97-clause-ok
returns-then-second-eq97-clause-ok c = λ w keep n fs. letter-n w c.args.bytes.now c.args.at keep n fs (omega arith) c.requires.letter c.if-byte-eq116.false c.if-byte-eq102.false c.if-byte-eq105.false ∙ n-a w c.args.bytes.now c.args.at keep n fs (omega arith) c.if-second-eq97.true ∙ c.in_ok-end-5.ensures.word w (if_kept keep c.args.at (k.word c.args.at)) n fs

pub returns-in_err-end-5-clause-fault : goal.returns-in_err-end-5-clause-fault
returns-in_err-end-5-clause-fault c = err_at _ c.from_residual-in_err-end-5.result c.in_err-end-5.field-0.0 c.from_residual-in_err-end-5.ensures (λ w keep n fs. letter-n w c.args.bytes.now c.args.at keep n fs (omega arith) c.requires.letter c.if-byte-eq116.false c.if-byte-eq102.false c.if-byte-eq105.false ∙ n-a w c.args.bytes.now c.args.at keep n fs (omega arith) c.if-second-eq97.true ∙ c.in_err-end-5.ensures.fault w (if_kept keep c.args.at (k.word c.args.at)) n fs)

pub returns-clause-fault : goal.returns-clause-fault
returns-clause-fault c = λ w keep n fs. letter-n w c.args.bytes.now c.args.at keep n fs (omega arith) c.requires.letter c.if-byte-eq116.false c.if-byte-eq102.false c.if-byte-eq105.false ∙ n-other w c.args.bytes.now c.args.at keep n fs (omega arith) c.if-second-eq117.false c.if-second-eq97.false ∙ said _ _ _ _ c.not_json-2.ensures.code c.not_json-2.ensures.at

pub returns-then-byte-eq116-clause-scalar : goal.returns-then-byte-eq116-clause-scalar
returns-then-byte-eq116-clause-scalar c = one_ok c.args.bytes.now c.args.at c.in_ok-end.end 116 (codes "rue") (omega (arith, c.in_ok-end.ensures.within)) (omega (arith, c.in_ok-end.ensures.within)) c.if-byte-eq116.true c.in_ok-end.ensures.spelled true_text

pub returns-then-byte-eq116-clause-stops : goal.returns-then-byte-eq116-clause-stops
returns-then-byte-eq116-clause-stops c = other_stops c.args.bytes.now c.args.at c.in_ok-end.end (omega (arith, c.in_ok-end.ensures.within)) (letter_class (get_or c.args.bytes.now c.args.at 0) Letter c.requires.letter refl)

pub returns-in_err-end-clause-cut : goal.returns-in_err-end-clause-cut
returns-in_err-end-clause-cut c = err_at _ c.from_residual.result c.in_err-end.field-0.0 c.from_residual.ensures (cut_one c.args.bytes.now c.args.at c.in_err-end.field-0.0.at 116 (codes "rue") c.if-byte-eq116.true (ap (λ b. is_number_class (class b)) (sym c.if-byte-eq116.true) ∙ letter_class (get_or c.args.bytes.now c.args.at 0) Letter c.requires.letter refl) c.in_err-end.ensures.cut true_text)

pub returns-then-byte-eq102-clause-scalar : goal.returns-then-byte-eq102-clause-scalar
returns-then-byte-eq102-clause-scalar c = one_ok c.args.bytes.now c.args.at c.in_ok-end-2.end 102 (codes "alse") (omega (arith, c.in_ok-end-2.ensures.within)) (omega (arith, c.in_ok-end-2.ensures.within)) c.if-byte-eq102.true c.in_ok-end-2.ensures.spelled false_text

pub returns-then-byte-eq102-clause-stops : goal.returns-then-byte-eq102-clause-stops
returns-then-byte-eq102-clause-stops c = other_stops c.args.bytes.now c.args.at c.in_ok-end-2.end (omega (arith, c.in_ok-end-2.ensures.within)) (letter_class (get_or c.args.bytes.now c.args.at 0) Letter c.requires.letter refl)

pub returns-in_err-end-2-clause-cut : goal.returns-in_err-end-2-clause-cut
returns-in_err-end-2-clause-cut c = err_at _ c.from_residual-in_err-end-2.result c.in_err-end-2.field-0.0 c.from_residual-in_err-end-2.ensures (cut_one c.args.bytes.now c.args.at c.in_err-end-2.field-0.0.at 102 (codes "alse") c.if-byte-eq102.true (ap (λ b. is_number_class (class b)) (sym c.if-byte-eq102.true) ∙ letter_class (get_or c.args.bytes.now c.args.at 0) Letter c.requires.letter refl) c.in_err-end-2.ensures.cut false_text)

pub returns-then-byte-eq105-clause-scalar : goal.returns-then-byte-eq105-clause-scalar
returns-then-byte-eq105-clause-scalar c = one_ok c.args.bytes.now c.args.at c.in_ok-end-3.end 105 (codes "nf") (omega (arith, c.in_ok-end-3.ensures.within)) (omega (arith, c.in_ok-end-3.ensures.within)) c.if-byte-eq105.true c.in_ok-end-3.ensures.spelled inf_text

pub returns-then-byte-eq105-clause-stops : goal.returns-then-byte-eq105-clause-stops
returns-then-byte-eq105-clause-stops c = other_stops c.args.bytes.now c.args.at c.in_ok-end-3.end (omega (arith, c.in_ok-end-3.ensures.within)) (letter_class (get_or c.args.bytes.now c.args.at 0) Letter c.requires.letter refl)

pub returns-in_err-end-3-clause-cut : goal.returns-in_err-end-3-clause-cut
returns-in_err-end-3-clause-cut c = err_at _ c.from_residual-in_err-end-3.result c.in_err-end-3.field-0.0 c.from_residual-in_err-end-3.ensures (cut_one c.args.bytes.now c.args.at c.in_err-end-3.field-0.0.at 105 (codes "nf") c.if-byte-eq105.true (ap (λ b. is_number_class (class b)) (sym c.if-byte-eq105.true) ∙ letter_class (get_or c.args.bytes.now c.args.at 0) Letter c.requires.letter refl) c.in_err-end-3.ensures.cut inf_text)

pub returns-then-second-eq117-clause-scalar : goal.returns-then-second-eq117-clause-scalar
returns-then-second-eq117-clause-scalar c = two_ok c.args.bytes.now c.args.at c.in_ok-end-4.end 110 117 (codes "ll") (omega (arith, c.in_ok-end-4.ensures.within)) (omega (arith, c.in_ok-end-4.ensures.within)) (is_n (get_or c.args.bytes.now c.args.at 0) c.requires.letter c.if-byte-eq116.false c.if-byte-eq102.false c.if-byte-eq105.false) c.if-second-eq117.true c.in_ok-end-4.ensures.spelled null_text

pub returns-then-second-eq117-clause-stops : goal.returns-then-second-eq117-clause-stops
returns-then-second-eq117-clause-stops c = other_stops c.args.bytes.now c.args.at c.in_ok-end-4.end (omega (arith, c.in_ok-end-4.ensures.within)) (letter_class (get_or c.args.bytes.now c.args.at 0) Letter c.requires.letter refl)

pub returns-in_err-end-4-clause-cut : goal.returns-in_err-end-4-clause-cut
returns-in_err-end-4-clause-cut c = err_at _ c.from_residual-in_err-end-4.result c.in_err-end-4.field-0.0 c.from_residual-in_err-end-4.ensures (cut_two c.args.bytes.now c.args.at c.in_err-end-4.field-0.0.at 110 117 (codes "ll") (is_n (get_or c.args.bytes.now c.args.at 0) c.requires.letter c.if-byte-eq116.false c.if-byte-eq102.false c.if-byte-eq105.false) c.if-second-eq117.true (λ xs n. other_first 110 (117 ∷ xs) n_class n) c.in_err-end-4.ensures.cut null_text)

pub returns-then-second-eq97-clause-scalar : goal.returns-then-second-eq97-clause-scalar
returns-then-second-eq97-clause-scalar c = two_ok c.args.bytes.now c.args.at c.in_ok-end-5.end 110 97 (codes "n") (omega (arith, c.in_ok-end-5.ensures.within)) (omega (arith, c.in_ok-end-5.ensures.within)) (is_n (get_or c.args.bytes.now c.args.at 0) c.requires.letter c.if-byte-eq116.false c.if-byte-eq102.false c.if-byte-eq105.false) c.if-second-eq97.true c.in_ok-end-5.ensures.spelled nan_text

pub returns-then-second-eq97-clause-stops : goal.returns-then-second-eq97-clause-stops
returns-then-second-eq97-clause-stops c = other_stops c.args.bytes.now c.args.at c.in_ok-end-5.end (omega (arith, c.in_ok-end-5.ensures.within)) (letter_class (get_or c.args.bytes.now c.args.at 0) Letter c.requires.letter refl)

pub returns-in_err-end-5-clause-cut : goal.returns-in_err-end-5-clause-cut
returns-in_err-end-5-clause-cut c = err_at _ c.from_residual-in_err-end-5.result c.in_err-end-5.field-0.0 c.from_residual-in_err-end-5.ensures (cut_two c.args.bytes.now c.args.at c.in_err-end-5.field-0.0.at 110 97 (codes "n") (is_n (get_or c.args.bytes.now c.args.at 0) c.requires.letter c.if-byte-eq116.false c.if-byte-eq102.false c.if-byte-eq105.false) c.if-second-eq97.true (λ xs n. other_first 110 (97 ∷ xs) n_class n) c.in_err-end-5.ensures.cut nan_text)

pub returns-then-at-bytes-clause-cut : goal.returns-then-at-bytes-clause-cut
returns-then-at-bytes-clause-cut c = subst (ScalarCut c.args.bytes.now c.args.at) (sym c.not_json.ensures.at) (cut_first c.args.bytes.now c.args.at 110 (codes "ull") (omega arith) (omega arith) (is_n (get_or c.args.bytes.now c.args.at 0) c.requires.letter c.if-byte-eq116.false c.if-byte-eq102.false c.if-byte-eq105.false) n_class null_text)

pub returns-clause-cut : goal.returns-clause-cut
returns-clause-cut c = subst (ScalarCut c.args.bytes.now c.args.at) (sym c.not_json-2.ensures.at) (cut_first c.args.bytes.now c.args.at 110 (codes "ull") (omega arith) (omega arith) (is_n (get_or c.args.bytes.now c.args.at 0) c.requires.letter c.if-byte-eq116.false c.if-byte-eq102.false c.if-byte-eq105.false) n_class null_text)
