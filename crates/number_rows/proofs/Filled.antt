-- The places of a row's numbers are those of the whole numbers that it keeps.
use Rattle.std.specs.Prelude.{◌≡◌, ◌⊎◌, ◌<◌, ◌≤◌, ℕ, ℤ, pos, Bool, true, List, length, Result, Ok, Err, IfOk}
use Rattle.std.proofs.Common.{ap, sym, subst, inl, inr, ◌∙◌, ◌++◌, take, arith}
use Rattle.std.proofs.lemmas.Bool.{cases_lt}
use Rattle.std.proofs.lemmas.Grind.{common_steps}
use Rattle.std.proofs.lemmas.List.{get_or_past}
use Rattle.fractions.specs.Fraction.{Fraction, frac, zero_fraction}
use Rattle.fractions.specs.Fracs.{zero-frac}
use Rattle.linear_table.specs.Plans.{number_at}
use Rattle.number_rows.specs.Changed.{Numbers}
use Rattle.number_rows.specs.Places.{HoldsBut, FailsAt, AreFilled}
use Rattle.number_rows.specs.Row.{kept, IsKept}
use Rattle.number_rows.specs.Tops.{top_at}
use Rattle.number_rows.proofs.Kept.{short_at, length_shown}
use Rattle.number_rows.proofs.Places.{but_map, fails_map}
use Rattle.number_rows.proofs.Signs.{top_none}

pub filled_tops : {room : ℕ} (s : Bool) (b bound : ℕ) (ts : List ℤ) (ns : List Fraction) (xs : Numbers) (ws : List ℤ) (places : List ℕ) → record { items = kept s b ts ns } ≡ xs → s ≡ true → IsKept s b bound ts ns room → ws ≡ ts → AreFilled places xs.items → HoldsBut (λ k. top_at ws k ≡ pos 0) 0 places (length ws)
filled_tops s b bound ts ns xs ws places ex es h ew filled =
    subst (λ (l : List ℤ). HoldsBut (λ k. top_at l k ≡ pos 0) 0 places (length l)) (sym ew)
    (but_map (λ k. number_at xs.items k ≡ zero_fraction) (λ k. top_at ts k ≡ pos 0) 0 places (length ts)
    (λ k q e. top_none (top_at ts k) b h.positive (sym (short_at s b ts ns xs k ex es q) ∙ e))
    (subst (λ (n : ℕ). HoldsBut (λ k. number_at xs.items k ≡ zero_fraction) 0 places n) (length_shown s b ts ns xs ex h.same_length) filled))

pub filled_row : {room : ℕ} (s : Bool) (b bound : ℕ) (ts : List ℤ) (ns : List Fraction) (xs : Numbers) (ws : List ℤ) (places : List ℕ) → record { items = kept s b ts ns } ≡ xs → s ≡ true → IsKept s b bound ts ns room → ws ≡ ts → HoldsBut (λ k. top_at ws k ≡ pos 0) 0 places (length ws) → AreFilled places xs.items
filled_row s b bound ts ns xs ws places ex es h ew listed =
    subst (λ (n : ℕ). HoldsBut (λ k. number_at xs.items k ≡ zero_fraction) 0 places n) (sym (length_shown s b ts ns xs ex h.same_length))
    (but_map (λ k. top_at ts k ≡ pos 0) (λ k. number_at xs.items k ≡ zero_fraction) 0 places (length ts)
    (λ k q e. short_at s b ts ns xs k ex es q ∙ (ap (λ t. frac t b) e ∙ zero-frac b h.positive))
    (subst (λ (l : List ℤ). HoldsBut (λ k. top_at l k ≡ pos 0) 0 places (length l)) ew listed))

pub filled_only : {room : ℕ} (s : Bool) (b bound : ℕ) (ts : List ℤ) (ns : List Fraction) (xs : Numbers) (ws : List ℤ) (places : List ℕ) → record { items = kept s b ts ns } ≡ xs → s ≡ true → IsKept s b bound ts ns room → ws ≡ ts → FailsAt (λ k. top_at ws k ≡ pos 0) places → FailsAt (λ k. number_at xs.items k ≡ zero_fraction) places
filled_only s b bound ts ns xs ws places ex es h ew listed =
    fails_map (λ k. top_at ts k ≡ pos 0) (λ k. number_at xs.items k ≡ zero_fraction) places (λ k e. none k e (cases_lt k (length ts)))
    (subst (λ (l : List ℤ). FailsAt (λ k. top_at l k ≡ pos 0) places) ew listed)
  where
    none : (k : ℕ) → number_at xs.items k ≡ zero_fraction → (k < length ts) ⊎ (length ts ≤ k) → top_at ts k ≡ pos 0
    none k e (inl inside) = top_none (top_at ts k) b h.positive (sym (short_at s b ts ns xs k ex es inside) ∙ e)
    none k e (inr past) = get_or_past ts k (pos 0) past

-- a list that was written in a vector's place
pub written_back : (len : ℕ) (new rest : List ℕ) → len ≡ length new → take len (new ++ rest) ≡ new
written_back len new rest e = grind (arith, common_steps, e)

-- what is said of a value that is there
pub there : {A E : Type 0} (P Q : A → Type 0) (r : Result A E) → ((a : A) → P a → Q a) → IfOk r P → IfOk r Q
there P Q (Ok a) f h = f a h
there P Q (Err e) f h = tt

-- the same places under other names of the same numbers
pub places_of : (ts us os ps : List ℤ) (places : List ℕ) → ts ≡ us → os ≡ ps → HoldsBut (λ k. (top_at ts k ≡ pos 0) × (top_at os k ≡ pos 0)) 0 places (length ts) → HoldsBut (λ k. (top_at us k ≡ pos 0) × (top_at ps k ≡ pos 0)) 0 places (length us)
places_of ts us os ps places et eo h =
    subst (λ (l : List ℤ). HoldsBut (λ k. (top_at us k ≡ pos 0) × (top_at l k ≡ pos 0)) 0 places (length us)) eo
    (subst (λ (l : List ℤ). HoldsBut (λ k. (top_at l k ≡ pos 0) × (top_at os k ≡ pos 0)) 0 places (length l)) et h)
