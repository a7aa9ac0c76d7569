-- The first bytes of numerals and words, from a place on.
use Rattle.std.proofs.Common.{◌≡◌, ℕ, ◌+◌, ◌<◌, List, length, get_or, refl, ap, sym, ◌∙◌, arith, Bool, true, false, Some, None}
use Rattle.std.specs.Prelude.{slice_range, ◌≢◌, ◌==◌, codes}
use Rattle.std.proofs.lemmas.Bool.Decides.{nat_tests}
use Rattle.json_text.specs.Kept.{Kept, Wishes}
use Rattle.json_text.specs.Kept as k
use Rattle.json_text.specs.Lexing.{number_next, is_nonzero}
use Rattle.json_text.specs.Machine.{Frame, to, fault, from, class, value, in_number, behind_n, word_on, word_go, if_kept, value_go, refused, behind_n_go, number_ends}
use Rattle.json_text.specs.declared.fault.JsonCode.TheVariants.{NotJson}
use Rattle.json_text.specs.declared.number.Phase.TheVariants as phase
use Rattle.json_text.specs.declared.class.Class.TheVariants.{Zero, Digit, Minus, Letter}
use Rattle.json_text.proofs.Steps.{from-go, from-class, from-refused, number-stops, slice-one}
use Rattle.json_text.proofs.Lexed.{from-digit}

two_on : (at : ℕ) → (at + 1) + 1 ≡ at + 2
two_on at = omega arith

pub minus-zero : (w : Wishes) (bytes : List ℕ) (at : ℕ) (keep : Bool) (n : ℕ) (fs : List Frame) → at + 1 < length bytes → get_or bytes (at + 1) 0 ≡ 48
    → from w bytes (at + 1) (in_number keep at (slice_range bytes at (at + 1)) phase.Minus n fs) ≡ from w bytes (at + 2) (in_number keep at (slice_range bytes at (at + 2)) phase.Zero n fs)
minus-zero w bytes at keep n fs lt e = from-digit w bytes at (at + 1) keep phase.Minus phase.Zero n fs (omega arith) lt (ap (number_next phase.Minus) e) ∙ ap (λ x. from w bytes x (in_number keep at (slice_range bytes at x) phase.Zero n fs)) (two_on at)

nonzero_next : (b : ℕ) → is_nonzero b ≡ true → number_next phase.Minus b ≡ Some phase.Whole
nonzero_next b nz = let no : (b == 48) ≡ false = grind (arith, nat_tests) in rw (no, nz) refl

pub minus-whole : (w : Wishes) (bytes : List ℕ) (at : ℕ) (keep : Bool) (n : ℕ) (fs : List Frame) → at + 1 < length bytes → is_nonzero (get_or bytes (at + 1) 0) ≡ true
    → from w bytes (at + 1) (in_number keep at (slice_range bytes at (at + 1)) phase.Minus n fs) ≡ from w bytes (at + 2) (in_number keep at (slice_range bytes at (at + 2)) phase.Whole n fs)
minus-whole w bytes at keep n fs lt nz = from-digit w bytes at (at + 1) keep phase.Minus phase.Whole n fs (omega arith) lt (nonzero_next (get_or bytes (at + 1) 0) nz) ∙ ap (λ x. from w bytes x (in_number keep at (slice_range bytes at x) phase.Whole n fs)) (two_on at)

pub minus-i : (w : Wishes) (bytes : List ℕ) (at : ℕ) (keep : Bool) (n : ℕ) (fs : List Frame) → at + 1 < length bytes → get_or bytes (at + 1) 0 ≡ 105
    → from w bytes (at + 1) (in_number keep at (slice_range bytes at (at + 1)) phase.Minus n fs) ≡ from w bytes (at + 2) (word_on (if_kept keep at (k.word at)) (codes "nf") n fs)
minus-i w bytes at keep n fs lt e =
    let s = slice_range bytes at (at + 1) in
    let b = get_or bytes (at + 1) 0 in
    from-go w bytes (at + 1) (in_number keep at s phase.Minus n fs) (to (word_on (if_kept keep at (k.word at)) (codes "nf") n fs)) lt (number-stops w (at + 1) keep at s phase.Minus n fs b (class b) (ap (number_next phase.Minus) e) ∙ ap (number_ends keep at s phase.Minus n fs) e)
    ∙ ap (λ x. from w bytes x (word_on (if_kept keep at (k.word at)) (codes "nf") n fs)) (two_on at)

pub minus-n : (w : Wishes) (bytes : List ℕ) (at : ℕ) (keep : Bool) (n : ℕ) (fs : List Frame) → at + 1 < length bytes → get_or bytes (at + 1) 0 ≡ 110
    → from w bytes (at + 1) (in_number keep at (slice_range bytes at (at + 1)) phase.Minus n fs) ≡ from w bytes (at + 2) (word_on (if_kept keep at (k.word at)) (codes "an") n fs)
minus-n w bytes at keep n fs lt e =
    let s = slice_range bytes at (at + 1) in
    let b = get_or bytes (at + 1) 0 in
    from-go w bytes (at + 1) (in_number keep at s phase.Minus n fs) (to (word_on (if_kept keep at (k.word at)) (codes "an") n fs)) lt (number-stops w (at + 1) keep at s phase.Minus n fs b (class b) (ap (number_next phase.Minus) e) ∙ ap (number_ends keep at s phase.Minus n fs) e)
    ∙ ap (λ x. from w bytes x (word_on (if_kept keep at (k.word at)) (codes "an") n fs)) (two_on at)

no_digit : (b : ℕ) → b ≢ 48 → is_nonzero b ≡ false → number_next phase.Minus b ≡ None
no_digit b z nz = let no : (b == 48) ≡ false = grind (arith, nat_tests) in rw (no, nz) refl

no_word : (keep : Bool) (at : ℕ) (s : List ℕ) (n : ℕ) (fs : List Frame) (b : ℕ) → b ≢ 105 → b ≢ 110 → number_ends keep at s phase.Minus n fs b ≡ refused NotJson
no_word keep at s n fs b i m = let no : (b == 105) ≡ false = grind (arith, nat_tests) in let nor : (b == 110) ≡ false = grind (arith, nat_tests) in rw (no, nor) refl

pub minus-other : (w : Wishes) (bytes : List ℕ) (at : ℕ) (keep : Bool) (n : ℕ) (fs : List Frame) → at + 1 < length bytes → get_or bytes (at + 1) 0 ≢ 48 → is_nonzero (get_or bytes (at + 1) 0) ≡ false → get_or bytes (at + 1) 0 ≢ 105 → get_or bytes (at + 1) 0 ≢ 110
    → from w bytes (at + 1) (in_number keep at (slice_range bytes at (at + 1)) phase.Minus n fs) ≡ fault NotJson (at + 1)
minus-other w bytes at keep n fs lt z d i x =
    let s = slice_range bytes at (at + 1) in
    let b = get_or bytes (at + 1) 0 in
    from-refused w bytes (at + 1) (in_number keep at s phase.Minus n fs) NotJson lt (number-stops w (at + 1) keep at s phase.Minus n fs b (class b) (no_digit b z d) ∙ no_word keep at s n fs b i x)

-- letters
pub letter-t : (w : Wishes) (bytes : List ℕ) (at : ℕ) (keep : Bool) (n : ℕ) (fs : List Frame) → at < length bytes → get_or bytes at 0 ≡ 116 → from w bytes at (value keep n fs) ≡ from w bytes (at + 1) (word_on (if_kept keep at (k.flag at true)) (codes "rue") n fs)
unfolding class
letter-t w bytes at keep n fs lt e = from-go w bytes at (value keep n fs) (to (word_on (if_kept keep at (k.flag at true)) (codes "rue") n fs)) lt (ap (λ x. value_go at keep n fs x (class x)) e)

pub letter-f : (w : Wishes) (bytes : List ℕ) (at : ℕ) (keep : Bool) (n : ℕ) (fs : List Frame) → at < length bytes → get_or bytes at 0 ≡ 102 → from w bytes at (value keep n fs) ≡ from w bytes (at + 1) (word_on (if_kept keep at (k.flag at false)) (codes "alse") n fs)
unfolding class
letter-f w bytes at keep n fs lt e = from-go w bytes at (value keep n fs) (to (word_on (if_kept keep at (k.flag at false)) (codes "alse") n fs)) lt (ap (λ x. value_go at keep n fs x (class x)) e)

pub letter-i : (w : Wishes) (bytes : List ℕ) (at : ℕ) (keep : Bool) (n : ℕ) (fs : List Frame) → at < length bytes → get_or bytes at 0 ≡ 105 → from w bytes at (value keep n fs) ≡ from w bytes (at + 1) (word_on (if_kept keep at (k.word at)) (codes "nf") n fs)
unfolding class
letter-i w bytes at keep n fs lt e = from-go w bytes at (value keep n fs) (to (word_on (if_kept keep at (k.word at)) (codes "nf") n fs)) lt (ap (λ x. value_go at keep n fs x (class x)) e)

behind_letter : (keep : Bool) (p n : ℕ) (fs : List Frame) (b : ℕ) → b ≢ 116 → b ≢ 102 → b ≢ 105 → word_go keep p n fs b ≡ behind_n keep p n fs
behind_letter keep p n fs b t f i = let x : (b == 116) ≡ false = grind (arith, nat_tests) in let y : (b == 102) ≡ false = grind (arith, nat_tests) in let z : (b == 105) ≡ false = grind (arith, nat_tests) in rw (x, y, z) refl

pub letter-n : (w : Wishes) (bytes : List ℕ) (at : ℕ) (keep : Bool) (n : ℕ) (fs : List Frame) → at < length bytes → class (get_or bytes at 0) ≡ Letter → get_or bytes at 0 ≢ 116 → get_or bytes at 0 ≢ 102 → get_or bytes at 0 ≢ 105 → from w bytes at (value keep n fs) ≡ from w bytes (at + 1) (behind_n keep at n fs)
letter-n w bytes at keep n fs lt c t f i = from-class w bytes at (value keep n fs) Letter lt c ∙ ap (λ σ. from w bytes (at + 1) σ) (behind_letter keep at n fs (get_or bytes at 0) t f i)

pub n-u : (w : Wishes) (bytes : List ℕ) (at : ℕ) (keep : Bool) (n : ℕ) (fs : List Frame) → at + 1 < length bytes → get_or bytes (at + 1) 0 ≡ 117 → from w bytes (at + 1) (behind_n keep at n fs) ≡ from w bytes (at + 2) (word_on (if_kept keep at (k.null at)) (codes "ll") n fs)
n-u w bytes at keep n fs lt e = from-go w bytes (at + 1) (behind_n keep at n fs) (to (word_on (if_kept keep at (k.null at)) (codes "ll") n fs)) lt (ap (behind_n_go keep at n fs) e) ∙ ap (λ x. from w bytes x (word_on (if_kept keep at (k.null at)) (codes "ll") n fs)) (two_on at)

pub n-a : (w : Wishes) (bytes : List ℕ) (at : ℕ) (keep : Bool) (n : ℕ) (fs : List Frame) → at + 1 < length bytes → get_or bytes (at + 1) 0 ≡ 97 → from w bytes (at + 1) (behind_n keep at n fs) ≡ from w bytes (at + 2) (word_on (if_kept keep at (k.word at)) (codes "n") n fs)
n-a w bytes at keep n fs lt e = from-go w bytes (at + 1) (behind_n keep at n fs) (to (word_on (if_kept keep at (k.word at)) (codes "n") n fs)) lt (ap (behind_n_go keep at n fs) e) ∙ ap (λ x. from w bytes x (word_on (if_kept keep at (k.word at)) (codes "n") n fs)) (two_on at)

no_n : (keep : Bool) (at n : ℕ) (fs : List Frame) (b : ℕ) → b ≢ 117 → b ≢ 97 → behind_n_go keep at n fs b ≡ refused NotJson
no_n keep at n fs b u a = let x : (b == 117) ≡ false = grind (arith, nat_tests) in let y : (b == 97) ≡ false = grind (arith, nat_tests) in rw (x, y) refl

pub n-other : (w : Wishes) (bytes : List ℕ) (at : ℕ) (keep : Bool) (n : ℕ) (fs : List Frame) → at + 1 < length bytes → get_or bytes (at + 1) 0 ≢ 117 → get_or bytes (at + 1) 0 ≢ 97 → from w bytes (at + 1) (behind_n keep at n fs) ≡ fault NotJson (at + 1)
n-other w bytes at keep n fs lt u a = from-refused w bytes (at + 1) (behind_n keep at n fs) NotJson lt (no_n keep at n fs (get_or bytes (at + 1) 0) u a)

-- the first digit, or the minus
pub from-zero : (w : Wishes) (bytes : List ℕ) (at : ℕ) (keep : Bool) (n : ℕ) (fs : List Frame) → at < length bytes → class (get_or bytes at 0) ≡ Zero → from w bytes at (value keep n fs) ≡ from w bytes (at + 1) (in_number keep at (slice_range bytes at (at + 1)) phase.Zero n fs)
from-zero w bytes at keep n fs lt c = from-class w bytes at (value keep n fs) Zero lt c ∙ ap (λ s. from w bytes (at + 1) (in_number keep at s phase.Zero n fs)) (sym (slice-one bytes at lt))

pub from-nonzero : (w : Wishes) (bytes : List ℕ) (at : ℕ) (keep : Bool) (n : ℕ) (fs : List Frame) → at < length bytes → class (get_or bytes at 0) ≡ Digit → from w bytes at (value keep n fs) ≡ from w bytes (at + 1) (in_number keep at (slice_range bytes at (at + 1)) phase.Whole n fs)
from-nonzero w bytes at keep n fs lt c = from-class w bytes at (value keep n fs) Digit lt c ∙ ap (λ s. from w bytes (at + 1) (in_number keep at s phase.Whole n fs)) (sym (slice-one bytes at lt))

pub from-minus : (w : Wishes) (bytes : List ℕ) (at : ℕ) (keep : Bool) (n : ℕ) (fs : List Frame) → at < length bytes → class (get_or bytes at 0) ≡ Minus → from w bytes at (value keep n fs) ≡ from w bytes (at + 1) (in_number keep at (slice_range bytes at (at + 1)) phase.Minus n fs)
from-minus w bytes at keep n fs lt c = from-class w bytes at (value keep n fs) Minus lt c ∙ ap (λ s. from w bytes (at + 1) (in_number keep at s phase.Minus n fs)) (sym (slice-one bytes at lt))
