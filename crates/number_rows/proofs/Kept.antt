-- What a row keeps, and the numbers that it shows.
use Rattle.std.specs.Prelude.{◌≡◌, ℕ, zero, suc, ◌<◌, ℤ, Bool, true, false, List, [], ◌∷◌, length, map}
use Rattle.std.proofs.Common.{refl, sym, ap, ◌∙◌, arith}
use Rattle.fractions.specs.Fraction.{Fraction, frac}
use Rattle.linear_table.specs.Plans.{number_at}
use Rattle.number_rows.specs.Changed.{Numbers}
use Rattle.number_rows.specs.Row.{kept}
use Rattle.number_rows.specs.Tops.{top_at, AreOver}

map_length : (b : ℕ) (ts : List ℤ) → length (map (λ t. frac t b) ts) ≡ length ts
map_length b [] = refl
map_length b (t ∷ ts) = ap suc (map_length b ts)

map_at : (b : ℕ) (ts : List ℤ) (k : ℕ) → k < length ts → number_at (map (λ t. frac t b) ts) k ≡ frac (top_at ts k) b
map_at b [] k h = absurd (omega arith)
map_at b (t ∷ ts) zero h = refl
map_at b (t ∷ ts) (suc k) h = map_at b ts k (omega arith)

pub kept_length : (b : ℕ) (ts : List ℤ) (ns : List Fraction) → length (kept true b ts ns) ≡ length ts
kept_length b ts ns = map_length b ts

pub kept_at : (b : ℕ) (ts : List ℤ) (ns : List Fraction) (k : ℕ) → k < length ts → number_at (kept true b ts ns) k ≡ frac (top_at ts k) b
kept_at b ts ns k h = map_at b ts k h

pub shown : Bool → ℕ → List ℤ → List Fraction → Numbers
shown s b ts ns = record { items = kept s b ts ns }

items_same : (x y : Numbers) → x ≡ y → x.items ≡ y.items
items_same x y e = ap (λ (z : Numbers). z.items) e

by_mode : (s : Bool) (b : ℕ) (ts : List ℤ) (ns : List Fraction) → (s ≡ false → length ts ≡ length ns) → length (kept s b ts ns) ≡ length ts
by_mode true b ts ns e = map_length b ts
by_mode false b ts ns e = sym (e refl)

pub length_shown : (s : Bool) (b : ℕ) (ts : List ℤ) (ns : List Fraction) (xs : Numbers) → record { items = kept s b ts ns } ≡ xs → (s ≡ false → length ts ≡ length ns) → length xs.items ≡ length ts
length_shown s b ts ns xs e l = sym (ap length (items_same _ xs e)) ∙ by_mode s b ts ns l

pub short_at : (s : Bool) (b : ℕ) (ts : List ℤ) (ns : List Fraction) (xs : Numbers) (k : ℕ) → record { items = kept s b ts ns } ≡ xs → s ≡ true → k < length ts → number_at xs.items k ≡ frac (top_at ts k) b
short_at s b ts ns xs k e m h =
    sym (ap (λ ys. number_at ys k) (items_same _ xs e)) ∙ (ap (λ t. number_at (kept t b ts ns) k) m ∙ map_at b ts k h)

pub long_items : (s : Bool) (b : ℕ) (ts : List ℤ) (ns : List Fraction) (xs : Numbers) → record { items = kept s b ts ns } ≡ xs → s ≡ false → xs.items ≡ ns
long_items s b ts ns xs e m = sym (items_same _ xs e) ∙ ap (λ t. kept t b ts ns) m

-- two lists of one length with the same numbers
pub same_numbers : (xs ys : List Fraction) → length xs ≡ length ys → ((k : ℕ) → k < length ys → number_at xs k ≡ number_at ys k) → xs ≡ ys
same_numbers [] [] l h = refl
same_numbers [] (y ∷ ys) l h = absurd (omega arith)
same_numbers (x ∷ xs) [] l h = absurd (omega arith)
same_numbers (x ∷ xs) (y ∷ ys) l h =
    ap (λ z. z ∷ xs) (h 0 (omega arith)) ∙ ap (λ zs. y ∷ zs) (same_numbers xs ys (omega arith) (λ k q. h (suc k) (omega arith)))

-- a row over a denominator shows the numbers that are over it
pub shown_over : (b : ℕ) (ts : List ℤ) (xs : List Fraction) → AreOver ts b xs → kept true b ts [] ≡ xs
shown_over b ts xs h =
    same_numbers (map (λ t. frac t b) ts) xs (map_length b ts ∙ sym h.length_is) (λ k q. map_at b ts k (omega (arith, h.length_is)) ∙ sym (h.numbers k (omega (arith, h.length_is))))
