-- Short ways: what the code computes on 64 bits is what the definitions say.
use Rattle.std.specs.Prelude.{◌≡◌, ℕ, ◌*◌, ◌/◌, ◌%◌, ◌<◌, ◌≤◌, ◌^◌, ℤ, pos, ◌+ℤ◌, ◌*ℤ◌, int_div, unsigned_abs}
use Rattle.std.specs.Int.{w64}
use Rattle.std.specs.Ordering.{MatchOrdering, int_cmp}
use Rattle.std.proofs.lemmas.Cmp.{int_ranked}
use Rattle.std.specs.declared.cmp.Ordering.{Ordering}
use Rattle.std.proofs.Common.{refl, sym, ap, subst, ◌∙◌, arith, to_z, of_z}
use Rattle.std.proofs.lemmas.Int.{ints}
use Rattle.std.proofs.lemmas.Nat.{mul-lt}
use Rattle.std.proofs.Math.IntN.{nat_abs}
use Rattle.std.proofs.Math.Nat.{div-le_self}
use Rattle.fractions.specs.Gcd.{gcd, gcd-mod}
use Rattle.fractions.specs.Fraction.{Fraction, frac, nat_abs-int_div, same_from_cross, ◌+ʳ◌, ◌*ʳ◌, ◌<ʳ◌}
use Rattle.fractions.specs.Stored.{IsStored, IsStoredSmall, num_frac, den_frac}
use Rattle.fractions.proofs.Parts.{wrap, whole_back, narrow_same}
use Rattle.fractions.proofs.Lowest.{IsLowest, product_lowest, lowest_stored, lowest_same}
use Rattle.fractions.proofs.SumLowest.{sum_lowest}
use Rattle.fractions.proofs.Sum.{IsCommon, common_parts}
use Rattle.fractions.proofs.Bounds.{den-frac-le}
use Rattle.fractions.proofs.Compare.{match_map}

-- a signed argument of a call on 64 bits
abbrev pub wrap64 : ℤ → ℤ
wrap64 k = to_z w64 (of_z w64 k)

pub small_back64 : (k : ℤ) → unsigned_abs k < 2 ^ 62 → wrap64 k ≡ k
small_back64 k h = omega (arith, ints)

-- what is stored in 64 bits
pub small_num : (a : ℤ) (b : ℕ) (x : Fraction) → IsStoredSmall a b → frac a b ≡ x → x.num ≡ a
small_num a b x h e = ap (λ (f : Fraction). f.num) (sym e) ∙ num_frac a b h.positive h.lowest

pub small_den : (a : ℤ) (b : ℕ) (x : Fraction) → IsStoredSmall a b → frac a b ≡ x → x.den ≡ b
small_den a b x h e = ap (λ (f : Fraction). f.den) (sym e) ∙ den_frac a b h.positive h.lowest

product_small : (b r d l : ℕ) → b < 2 ^ 62 → d < 2 ^ 62 → b / r * (d / l) < 2 ^ 127
product_small b r d l p q =
    let s : b / r < 2 ^ 62 = omega (arith, div-le_self b r) in
    let t : d / l < 2 ^ 62 = omega (arith, div-le_self d l) in
    let h : b / r * (d / l) < 2 ^ 62 * 2 ^ 62 = mul-lt _ _ _ _ s t in
    omega (arith, h)

-- what a result with these parts is
pub record IsResult (t : ℤ) (d : ℕ) (x : Fraction) : Type 0 where
  pub stored : IsStored t d
  pub same : frac t d ≡ x

result_of : (t n : ℤ) (d : ℕ) (x : Fraction) → IsLowest n d x → t ≡ n → nat_abs n < 2 ^ 127 → d < 2 ^ 127 → IsResult t d x
result_of t n d x l e hn hd = record { stored = lowest_stored n t d d x l hn hd e refl; same = lowest_same n t d d x l e refl }

pub product_result : (x y : Fraction) (a c s t k : ℤ) (b d m n l r : ℕ) → IsStoredSmall a b → frac a b ≡ x → IsStoredSmall c d → frac c d ≡ y → m ≡ unsigned_abs (wrap64 a) → l ≡ gcd m d → n ≡ unsigned_abs (wrap64 c) → r ≡ gcd n b → s ≡ int_div (wrap64 a) (pos l) → unsigned_abs s < 2 ^ 62 → t ≡ int_div (wrap64 c) (pos r) → unsigned_abs t < 2 ^ 62 → k ≡ wrap64 s *ℤ wrap64 t → unsigned_abs k < 2 ^ 124 → IsResult (wrap k) (b / r * (d / l)) (x *ʳ y)
product_result x y a c s t k b d m n l r ha ex hc ey em el en er es hs et ht ek hk =
    let a' : wrap64 a ≡ a = small_back64 a ha.small_top in
    let c' : wrap64 c ≡ c = small_back64 c hc.small_top in
    let gl : l ≡ gcd (nat_abs a) d = el ∙ ap (λ i. gcd i d) (em ∙ ap unsigned_abs a') in
    let gr : r ≡ gcd (nat_abs c) b = er ∙ ap (λ i. gcd i b) (en ∙ ap unsigned_abs c') in
    let low : IsLowest (int_div a (pos l) *ℤ int_div c (pos r)) (b / r * (d / l)) (frac a b *ʳ frac c d) = product_lowest a c b d l r ha.positive hc.positive ha.lowest hc.lowest gl gr in
    let top : k ≡ int_div a (pos l) *ℤ int_div c (pos r) = ek ∙ (ap (λ i. i *ℤ wrap64 t) (small_back64 s hs ∙ (es ∙ ap (λ i. int_div i (pos l)) a')) ∙ ap (λ i. int_div a (pos l) *ℤ i) (small_back64 t ht ∙ (et ∙ ap (λ i. int_div i (pos r)) c'))) in
    let narrow : nat_abs k < 2 ^ 127 = omega (arith, hk) in
    let value : frac a b *ʳ frac c d ≡ x *ʳ y = ap (λ f. f *ʳ frac c d) ex ∙ ap (λ f. x *ʳ f) ey in
    subst (λ (f : Fraction). IsResult (wrap k) (b / r * (d / l)) f) value
    (result_of (wrap k) _ (b / r * (d / l)) (frac a b *ʳ frac c d) low (whole_back k narrow ∙ top) (narrow_same k _ narrow top) (product_small b r d l ha.small_bottom hc.small_bottom))

-- the code's numerator of a sum
pub sum_top : (a c f s : ℤ) (b d g : ℕ) → IsStoredSmall a b → IsStoredSmall c d → f ≡ wrap64 a *ℤ pos (d / g) → unsigned_abs f < 2 ^ 124 → s ≡ wrap64 c *ℤ pos (b / g) → unsigned_abs s < 2 ^ 124 → wrap f +ℤ wrap s ≡ a *ℤ pos (d / g) +ℤ c *ℤ pos (b / g)
sum_top a c f s b d g ha hc ef hf es hs =
    let f' : wrap f ≡ a *ℤ pos (d / g) = whole_back f (omega (arith, hf)) ∙ (ef ∙ ap (λ i. i *ℤ pos (d / g)) (small_back64 a ha.small_top)) in
    let s' : wrap s ≡ c *ℤ pos (b / g) = whole_back s (omega (arith, hs)) ∙ (es ∙ ap (λ i. i *ℤ pos (b / g)) (small_back64 c hc.small_top)) in
    ap (λ i. i +ℤ wrap s) f' ∙ ap (λ i. a *ℤ pos (d / g) +ℤ i) s'

sum_narrow : (f s : ℤ) → unsigned_abs f < 2 ^ 124 → unsigned_abs s < 2 ^ 124 → unsigned_abs (wrap f +ℤ wrap s) < 2 ^ 125
sum_narrow f s p q = omega (arith, ints)

int_div_small : (n : ℤ) (g : ℕ) → nat_abs n < 2 ^ 127 → nat_abs (int_div n (pos g)) ≡ nat_abs n / g → nat_abs (int_div n (pos g)) < 2 ^ 127
int_div_small n g h e = omega (arith, e, div-le_self (nat_abs n) g)

pub sum_result : (x y : Fraction) (a c f s q : ℤ) (b d g h m : ℕ) → IsStoredSmall a b → frac a b ≡ x → IsStoredSmall c d → frac c d ≡ y → g ≡ gcd b d → f ≡ wrap64 a *ℤ pos (d / g) → unsigned_abs f < 2 ^ 124 → s ≡ wrap64 c *ℤ pos (b / g) → unsigned_abs s < 2 ^ 124 → m ≡ unsigned_abs (wrap (wrap f +ℤ wrap s)) → h ≡ gcd g (m % g) → q ≡ int_div (wrap (wrap f +ℤ wrap s)) (pos h) → IsResult (wrap q) (b / g * (d / h)) (x +ʳ y)
sum_result x y a c f s q b d g h m ha ex hc ey eg ef hf es hs em eh eq =
    let t : ℤ = wrap f +ℤ wrap s in
    let small : unsigned_abs t < 2 ^ 125 = sum_narrow f s hf hs in
    let back : wrap t ≡ t = whole_back t (omega (arith, small)) in
    let top : t ≡ a *ℤ pos (d / g) +ℤ c *ℤ pos (b / g) = sum_top a c f s b d g ha hc ef hf es hs in
    let xa : x.num ≡ a = small_num a b x ha ex in
    let xb : x.den ≡ b = small_den a b x ha ex in
    let yc : y.num ≡ c = small_num c d y hc ey in
    let yd : y.den ≡ d = small_den c d y hc ey in
    let eg' : g ≡ gcd x.den y.den = rw (xb, yd) eg in
    let et' : t ≡ x.num *ℤ pos (y.den / g) +ℤ y.num *ℤ pos (x.den / g) = rw (xb, yd, xa, yc) top in
    let eh' : h ≡ gcd (nat_abs t) g = eh ∙ (gcd-mod m g ∙ ap (λ i. gcd i g) (em ∙ ap unsigned_abs back)) in
    let low : IsLowest (int_div t (pos h)) (x.den / g * (y.den / h)) (x +ʳ y) = sum_lowest x y t g h eg' et' eh' in
    let same : q ≡ int_div t (pos h) = eq ∙ ap (λ i. int_div i (pos h)) back in
    let narrow : nat_abs (int_div t (pos h)) < 2 ^ 127 = int_div_small t h (omega (arith, small)) (nat_abs-int_div t h) in
    subst (λ (j : ℕ). IsResult (wrap q) j (x +ʳ y)) (ap (λ i. i / g * (y.den / h)) xb ∙ ap (λ i. b / g * (i / h)) yd)
    (result_of (wrap q) (int_div t (pos h)) (x.den / g * (y.den / h)) (x +ʳ y) low (whole_back q (narrow_same _ q narrow (sym same)) ∙ same) narrow
    (rw (xb, yd) (product_small b g d h ha.small_bottom hc.small_bottom)))

-- how two fractions of small parts compare
pub cmp_result : (x y : Fraction) (a c f s : ℤ) (b d : ℕ) → IsStoredSmall a b → frac a b ≡ x → IsStoredSmall c d → frac c d ≡ y → f ≡ wrap64 a *ℤ pos d → s ≡ wrap64 c *ℤ pos b → (f ≡ x.num *ℤ pos y.den) × (s ≡ y.num *ℤ pos x.den)
cmp_result x y a c f s b d ha ex hc ey ef es = (
  ef ∙ (ap (λ i. i *ℤ pos d) (small_back64 a ha.small_top ∙ sym (small_num a b x ha ex)) ∙ ap (λ i. x.num *ℤ pos i) (sym (small_den c d y hc ey))),
  es ∙ (ap (λ i. i *ℤ pos b) (small_back64 c hc.small_top ∙ sym (small_num c d y hc ey)) ∙ ap (λ i. y.num *ℤ pos i) (sym (small_den a b x ha ex))),
)

-- ---- the long way of a sum
den_bound : (x y : Fraction) (g : ℕ) → g ≡ gcd x.den y.den → (x +ʳ y).den ≤ x.den * (y.den / g)
den_bound x y g e =
    let c : IsCommon x y (x.den * (y.den / gcd x.den y.den)) (y.den / gcd x.den y.den) (x.den / gcd x.den y.den) = common_parts x y in
    let h : (x +ʳ y).den ≤ x.den * (y.den / gcd x.den y.den) = subst (λ (f : Fraction). f.den ≤ x.den * (y.den / gcd x.den y.den)) c.sum_is (den-frac-le _ _ c.positive) in
    rw e h

pub long_result : (x y : Fraction) (t q : ℤ) (b d g h m : ℕ) → b ≡ x.den → d ≡ y.den → g ≡ gcd b d → t ≡ x.num *ℤ pos (d / g) +ℤ y.num *ℤ pos (b / g) → nat_abs t < 2 ^ 127 → b * (d / g) < 2 ^ 127 → m ≡ nat_abs t → h ≡ gcd m g → q ≡ int_div t (pos h) → IsResult (wrap q) (b / g * (d / h)) (x +ʳ y)
long_result x y t q b d g h m eb ed eg et ht hl em eh eq =
    let eg' : g ≡ gcd x.den y.den = rw (← eb, ← ed) eg in
    let et' : t ≡ x.num *ℤ pos (y.den / g) +ℤ y.num *ℤ pos (x.den / g) = rw (← eb, ← ed) et in
    let eh' : h ≡ gcd (nat_abs t) g = eh ∙ ap (λ i. gcd i g) em in
    let low : IsLowest (int_div t (pos h)) (x.den / g * (y.den / h)) (x +ʳ y) = sum_lowest x y t g h eg' et' eh' in
    let low' : IsLowest (int_div t (pos h)) (b / g * (d / h)) (x +ʳ y) = rw (eb, ed) low in
    let hl' : x.den * (y.den / g) < 2 ^ 127 = rw (← eb, ← ed) hl in
    let bound : b / g * (d / h) < 2 ^ 127 = omega (arith, low'.den_is, den_bound x y g eg', hl') in
    let narrow : nat_abs (int_div t (pos h)) < 2 ^ 127 = int_div_small t h ht (nat_abs-int_div t h) in
    result_of (wrap q) (int_div t (pos h)) (b / g * (d / h)) (x +ʳ y) low' (whole_back q (narrow_same _ q narrow (sym eq)) ∙ eq) narrow bound

-- ---- two fractions by their cross products
pub cmp_by_cross : (x y : Fraction) (p q : ℤ) (r : Ordering) → p ≡ x.num *ℤ pos y.den → q ≡ y.num *ℤ pos x.den → r ≡ int_cmp p q → MatchOrdering r (x <ʳ y) (x ≡ y) (y <ʳ x)
cmp_by_cross x y p q r ep eq e =
    match_map r
    (λ h. record { cross = rw (← ep, ← eq) h })
    (λ h. same_from_cross x y (sym ep ∙ (h ∙ eq)))
    (λ h. record { cross = rw (← ep, ← eq) h })
    (int_ranked p q r e)
