-- Numbers of 128 bits that are made of numbers of 64.
use Rattle.std.specs.Prelude.{◌≡◌, ℕ, ◌+◌, ◌*◌, ◌/◌, ◌<◌, ◌≤◌, ◌^◌, ℤ, pos, ◌*ℤ◌, ◌-ℤ◌, unsigned_abs, List, length, Option, Some, None, IfSome}
use Rattle.std.specs.Int.{◌∣◌, w64}
use Rattle.std.proofs.Common.{sym, ap, subst, ◌∙◌, arith, set, below_more, to_z}
use Rattle.std.proofs.Math.Nat.{div-mul_cancel, mul-le-mul_right}
use Rattle.std.proofs.lemmas.Int.{ints, to_z_pos, unsigned_abs-mul}
use Rattle.fractions.specs.Ring.{int, nat, ◌⊗◌, same_value}
use Rattle.fractions.proofs.Parts.{whole_back}
use Rattle.std.proofs.lemmas.List.{get_or-set_same, get_or-set_other}
use Rattle.number_rows.specs.Tops.{top_at, AreWithinBelow, IsOverBelow}
use Rattle.number_rows.proofs.Lists.{wrap, back}
use Rattle.number_rows.proofs.Over.{wrap128}

abs_apart : (a b : ℤ) → unsigned_abs a < 2 ^ 124 → unsigned_abs b < 2 ^ 124 → unsigned_abs (a -ℤ b) < 2 ^ 125
abs_apart a b ha hb = omega (arith, ints)

-- the difference that the code computes
pub record IsApart (r a b : ℤ) : Type 0 where
  pub value : r ≡ a -ℤ b
  pub small : unsigned_abs r < 2 ^ 125

pub apart_is : (first second a b : ℤ) → first ≡ a → second ≡ b → unsigned_abs first < 2 ^ 124 → unsigned_abs second < 2 ^ 124 → IsApart (wrap128 (wrap128 first -ℤ wrap128 second)) a b
apart_is first second a b ea eb ha hb =
    let f : wrap128 first ≡ a = whole_back first (omega (arith, ha)) ∙ ea in
    let s : wrap128 second ≡ b = whole_back second (omega (arith, hb)) ∙ eb in
    let size : unsigned_abs (a -ℤ b) < 2 ^ 125 = abs_apart a b (subst (λ (x : ℤ). unsigned_abs x < 2 ^ 124) ea ha) (subst (λ (x : ℤ). unsigned_abs x < 2 ^ 124) eb hb) in
    let e : wrap128 (wrap128 first -ℤ wrap128 second) ≡ a -ℤ b = ap (λ x. wrap128 (x -ℤ wrap128 second)) f ∙ (ap (λ x. wrap128 (a -ℤ x)) s ∙ whole_back (a -ℤ b) (omega (arith, size))) in
    record { value = e; small = subst (λ (x : ℤ). unsigned_abs x < 2 ^ 125) (sym e) size }

-- a product of numbers below the limit, as a call has it
pub product_plain : (t s : ℤ) → unsigned_abs t < 2 ^ 62 → unsigned_abs s < 2 ^ 62 → wrap t *ℤ wrap s ≡ t *ℤ s
product_plain t s ht hs = ap (λ a. a *ℤ wrap s) (back t (omega (arith, ht))) ∙ ap (λ a. t *ℤ a) (back s (omega (arith, hs)))

-- a number below the limit, as a call has it
pub small_at : (t : ℤ) → unsigned_abs t < 2 ^ 62 → unsigned_abs (wrap t) < 2 ^ 62
small_at t h = subst (λ (x : ℤ). unsigned_abs x < 2 ^ 62) (sym (back t (omega (arith, h)))) h

-- ---- one quotient more
pub over_none : (old : List ℤ) (s : ℤ) (other : List ℤ) (f : ℤ) (d : ℕ) (quotients : List ℤ) → IsOverBelow old s other f d quotients 0
over_none old s other f d quotients = record { done = λ j h. absurd (omega arith) }

pub over_more : (old : List ℤ) (s : ℤ) (other : List ℤ) (f : ℤ) (d : ℕ) (quotients : List ℤ) (k : ℕ) (q : ℤ) → k < length quotients → q *ℤ pos d ≡ top_at old k *ℤ s -ℤ top_at other k *ℤ f → IsOverBelow old s other f d quotients k → IsOverBelow old s other f d (set quotients k q) (k + 1)
over_more old s other f d quotients k q lt e h =
    record {
      done = below_more (λ j. top_at (set quotients k q) j *ℤ pos d ≡ top_at old j *ℤ s -ℤ top_at other j *ℤ f) k
          (λ j p. ap (λ x. x *ℤ pos d) (get_or-set_other quotients k j q (pos 0) (λ e. omega arith)) ∙ h.done j p)
          (ap (λ x. x *ℤ pos d) (get_or-set_same quotients k q (pos 0) lt) ∙ e);
    }

-- what the code makes of a place, where a quotient was found
pub record IsQuotientAt (q n : ℤ) (d : ℕ) : Type 0 where
  pub value : q *ℤ pos d ≡ n
  pub small : unsigned_abs q < 2 ^ 62

pub quotient_at : (t o s f q : ℤ) (d : ℕ) → unsigned_abs t < 2 ^ 62 → unsigned_abs o < 2 ^ 62 → q *ℤ pos d ≡ wrap t *ℤ s -ℤ wrap o *ℤ f → unsigned_abs q < 2 ^ 62 → IsQuotientAt (wrap q) (t *ℤ s -ℤ o *ℤ f) d
quotient_at t o s f q d ht ho eq hq =
    let t' : wrap t ≡ t = back t (omega (arith, ht)) in
    let o' : wrap o ≡ o = back o (omega (arith, ho)) in
    let q' : wrap q ≡ q = back q (omega (arith, hq)) in
    record {
      value = ap (λ x. x *ℤ pos d) q' ∙ (eq ∙ (ap (λ a. a *ℤ s -ℤ wrap o *ℤ f) t' ∙ ap (λ a. t *ℤ s -ℤ a *ℤ f) o'));
      small = subst (λ (x : ℤ). unsigned_abs x < 2 ^ 62) (sym q') hq;
    }

-- the quotient of the number that the code divides
pub quotient_told : (t s o f n : ℤ) (d : ℕ) (r : Option ℤ) → unsigned_abs t < 2 ^ 62 → unsigned_abs s < 2 ^ 62 → unsigned_abs o < 2 ^ 62 → unsigned_abs f < 2 ^ 62 → n ≡ wrap t *ℤ wrap s -ℤ wrap o *ℤ wrap f → unsigned_abs n < 2 ^ 125 →
    IfSome r (λ q. (q *ℤ pos d ≡ wrap128 n) × (unsigned_abs q < 2 ^ 62)) → IfSome r (λ q. (q *ℤ pos d ≡ t *ℤ s -ℤ o *ℤ f) × (unsigned_abs q < 2 ^ 62))
quotient_told t s o f n d None ht hs ho hf en hn h = tt
quotient_told t s o f n d (Some q) ht hs ho hf en hn h = (
  h.0 ∙ (whole_back n (omega (arith, hn)) ∙ (en ∙ (ap (λ x. x -ℤ wrap o *ℤ wrap f) (product_plain t s ht hs) ∙ ap (λ x. t *ℤ s -ℤ x) (product_plain o f ho hf)))),
  h.1,
)

-- ---- quotients by a lesser divisor
times_times : (q : ℤ) (m e : ℕ) → q *ℤ pos m *ℤ pos e ≡ q *ℤ pos (m * e)
times_times q m e = same_value (int q ⊗ nat m ⊗ nat e) (int q ⊗ nat (m * e)) (omega arith)

pub over_raised : (old : List ℤ) (s : ℤ) (other : List ℤ) (f : ℤ) (d e : ℕ) (quotients raised : List ℤ) (k : ℕ) → e ∣ d → ((j : ℕ) → j < k → top_at raised j ≡ top_at quotients j *ℤ pos (d / e)) → IsOverBelow old s other f d quotients k → IsOverBelow old s other f e raised k
over_raised old s other f d e quotients raised k divides r h =
    record { done = λ j lt. ap (λ x. x *ℤ pos e) (r j lt) ∙ (times_times (top_at quotients j) (d / e) e ∙ (ap (λ n. top_at quotients j *ℤ pos n) (div-mul_cancel e divides) ∙ h.done j lt)) }

pub within_raised : (quotients raised : List ℤ) (bound more k : ℕ) → ((j : ℕ) → j < k → top_at raised j ≡ top_at quotients j *ℤ pos more) → AreWithinBelow quotients bound k → AreWithinBelow raised (bound * more) k
within_raised quotients raised bound more k r h =
    record { within = λ j lt. subst (λ (x : ℤ). unsigned_abs x ≤ bound * more) (sym (r j lt)) (subst (λ (n : ℕ). n ≤ bound * more) (sym (unsigned_abs-mul (top_at quotients j) (pos more))) (mul-le-mul_right more (h.within j lt))) }

-- the product that the code computes
pub raised_at : (cur : ℤ) (q : ℤ) (m : ℕ) → cur ≡ q → unsigned_abs q < 2 ^ 62 → m < 2 ^ 62 → unsigned_abs q * m < 2 ^ 62 → wrap (wrap cur *ℤ to_z w64 m) ≡ q *ℤ pos m
raised_at cur q m e hq hm h =
    let size : unsigned_abs (q *ℤ pos m) < 2 ^ 62 = subst (λ (n : ℕ). n < 2 ^ 62) (sym (unsigned_abs-mul q (pos m))) h in
    ap (λ x. wrap (wrap x *ℤ to_z w64 m)) e ∙ (ap (λ x. wrap (x *ℤ to_z w64 m)) (back q (omega (arith, hq))) ∙ (ap (λ x. wrap (q *ℤ x)) (to_z_pos w64 m (omega (arith, hm))) ∙ back (q *ℤ pos m) (omega (arith, size))))
