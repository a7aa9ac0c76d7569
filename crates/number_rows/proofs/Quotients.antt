-- Quotients of numbers that are combined, place by place.
use Rattle.std.specs.Prelude.{◌≡◌, ◌⊎◌, ℕ, ◌+◌, ◌*◌, ◌/◌, ◌<◌, ◌≤◌, ◌^◌, ℤ, pos, ◌*ℤ◌, ◌-ℤ◌, unsigned_abs, List, length}
use Rattle.std.specs.Int.{◌∣◌}
use Rattle.std.proofs.Common.{sym, ap, subst, inl, inr, ◌∙◌, arith, set, below_more}
use Rattle.std.proofs.lemmas.Bool.{cases_lt}
use Rattle.std.proofs.lemmas.Int.{ints}
use Rattle.std.proofs.lemmas.List.{get_or-set_same, get_or-set_other, get_or_past}
use Rattle.std.proofs.lemmas.Nat.Gcd.{le_of_dvd}
use Rattle.std.proofs.Math.Nat.{dvd-mul_left, mul-div_cancel}
use Rattle.fractions.specs.Ring.{int, nat, ◌⊗◌, ◌⊖◌, same_value}
use Rattle.number_rows.specs.Lowered.{IsLoweredBelow, IsRaised}
use Rattle.number_rows.specs.Tops.{top_at, AreWithinBelow, IsCombinedOver, IsDividedBy, IsLowered}
use Rattle.fractions.proofs.Parts.{whole_back}
use Rattle.number_rows.proofs.Lists.{wrap, back, within_none, within_more}
use Rattle.number_rows.proofs.Over.{wrap128}
use Rattle.number_rows.proofs.Parts.{second_some}
use Rattle.number_rows.proofs.Wider.{IsQuotientAt, product_plain, over_none, over_more, over_raised, within_raised}

-- ---- all numbers are 0
pub zero_more : (tops : List ℤ) (k : ℕ) (t : ℤ) → k < length tops → t ≡ pos 0 → ((j : ℕ) → j < k → top_at tops j ≡ pos 0) → (j : ℕ) → j < k + 1 → top_at (set tops k t) j ≡ pos 0
zero_more tops k t lt e h =
    below_more (λ j. top_at (set tops k t) j ≡ pos 0) k
    (λ j q. get_or-set_other tops k j t (pos 0) (λ e. omega arith) ∙ h j q)
    (get_or-set_same tops k t (pos 0) lt ∙ e)

pub zero_all : (tops : List ℤ) → ((j : ℕ) → j < length tops → top_at tops j ≡ pos 0) → (j : ℕ) → top_at tops j ≡ pos 0
zero_all tops h j = here (cases_lt j (length tops))
  where
    here : (j < length tops) ⊎ (length tops ≤ j) → top_at tops j ≡ pos 0
    here (inl before) = h j before
    here (inr past) = get_or_past tops j (pos 0) past

-- ---- the first quotient
pub lowered_none : (old : List ℤ) (s : ℤ) (other : List ℤ) (f : ℤ) (d : ℕ) (quotients : List ℤ) → 0 < d → d < 2 ^ 62 → ((j : ℕ) → top_at quotients j ≡ pos 0) → IsLoweredBelow old s other f d 0 quotients 0
lowered_none old s other f d quotients pd hd zero =
    record {
      positive = pd;
      divisor_small = hd;
      bound_small = omega arith;
      done = over_none old s other f d quotients;
      within = within_none quotients 0;
      rest = λ j h. zero j;
    }

-- ---- where both rows are 0, so is the quotient
nothing : (d : ℕ) (s f : ℤ) → pos 0 *ℤ pos d ≡ pos 0 *ℤ s -ℤ pos 0 *ℤ f
nothing d s f = same_value (nat 0 ⊗ nat d) (nat 0 ⊗ int s ⊖ nat 0 ⊗ int f) (omega arith)

nothing_at : (q t o s f : ℤ) (d : ℕ) → q ≡ pos 0 → t ≡ pos 0 → o ≡ pos 0 → q *ℤ pos d ≡ t *ℤ s -ℤ o *ℤ f
nothing_at q t o s f d eq et eo =
    ap (λ x. x *ℤ pos d) eq ∙ (nothing d s f ∙ sym (ap (λ x. x *ℤ s -ℤ o *ℤ f) et ∙ ap (λ x. pos 0 *ℤ s -ℤ x *ℤ f) eo))

size_nothing : (q : ℤ) (bound : ℕ) → q ≡ pos 0 → unsigned_abs q ≤ bound
size_nothing q bound e = omega (arith, ints, e)

pub lowered_gap : (old : List ℤ) (s : ℤ) (other : List ℤ) (f : ℤ) (d bound : ℕ) (quotients : List ℤ) (a b : ℕ) → a ≤ b → ((k : ℕ) → a ≤ k → k < b → (top_at old k ≡ pos 0) × (top_at other k ≡ pos 0)) → IsLoweredBelow old s other f d bound quotients a → IsLoweredBelow old s other f d bound quotients b
lowered_gap old s other f d bound quotients a b le none h =
    record {
      positive = h.positive;
      divisor_small = h.divisor_small;
      bound_small = h.bound_small;
      done = record { done = λ j q. over j q (cases_lt j a) };
      within = record { within = λ j q. most j q (cases_lt j a) };
      rest = λ j q. h.rest j (omega (arith, le, q));
    }
  where
    over : (j : ℕ) → j < b → (j < a) ⊎ (a ≤ j) → top_at quotients j *ℤ pos d ≡ top_at old j *ℤ s -ℤ top_at other j *ℤ f
    over j q (inl before) = h.done.done j before
    over j q (inr after) = nothing_at (top_at quotients j) (top_at old j) (top_at other j) s f d (h.rest j after) (none j after q).0 (none j after q).1

    most : (j : ℕ) → j < b → (j < a) ⊎ (a ≤ j) → unsigned_abs (top_at quotients j) ≤ bound
    most j q (inl before) = h.within.within j before
    most j q (inr after) = size_nothing (top_at quotients j) bound (h.rest j after)

-- ---- one quotient more
-- what the code finds of a place
pub quotient_exact : (t s o f n q : ℤ) (d : ℕ) → unsigned_abs t < 2 ^ 62 → unsigned_abs s < 2 ^ 62 → unsigned_abs o < 2 ^ 62 → unsigned_abs f < 2 ^ 62 → n ≡ wrap t *ℤ wrap s -ℤ wrap o *ℤ wrap f → unsigned_abs n < 2 ^ 125 → q *ℤ pos d ≡ wrap128 n → unsigned_abs q < 2 ^ 62 → IsQuotientAt (wrap q) (t *ℤ s -ℤ o *ℤ f) d
quotient_exact t s o f n q d ht hs ho hf en hn e hq =
    let q' : wrap q ≡ q = back q (omega (arith, hq)) in
    record {
      value = ap (λ x. x *ℤ pos d) q' ∙ (e ∙ (whole_back n (omega (arith, hn)) ∙ (en ∙ (ap (λ x. x -ℤ wrap o *ℤ wrap f) (product_plain t s ht hs) ∙ ap (λ x. t *ℤ s -ℤ x) (product_plain o f ho hf)))));
      small = subst (λ (x : ℤ). unsigned_abs x < 2 ^ 62) (sym q') hq;
    }

pub lowered_more : (old : List ℤ) (s : ℤ) (other : List ℤ) (f : ℤ) (d bound more : ℕ) (quotients : List ℤ) (k : ℕ) (q : ℤ) → k < length quotients → q *ℤ pos d ≡ top_at old k *ℤ s -ℤ top_at other k *ℤ f → bound ≤ more → unsigned_abs q ≤ more → more < 2 ^ 62 → IsLoweredBelow old s other f d bound quotients k → IsLoweredBelow old s other f d more (set quotients k q) (k + 1)
lowered_more old s other f d bound more quotients k q lt e grows fits small h =
    record {
      positive = h.positive;
      divisor_small = h.divisor_small;
      bound_small = small;
      done = over_more old s other f d quotients k q lt e h.done;
      within = within_more quotients bound k q more lt grows fits h.within;
      rest = λ j p. get_or-set_other quotients k j q (pos 0) (λ e. omega arith) ∙ h.rest j (omega arith);
    }

pub lowered_put : (old : List ℤ) (s : ℤ) (other : List ℤ) (f : ℤ) (d bound e more : ℕ) (quotients : List ℤ) (k : ℕ) (q : ℤ) → k < length quotients → IsQuotientAt q (top_at old k *ℤ s -ℤ top_at other k *ℤ f) d → e ≡ d → bound ≤ more → unsigned_abs q ≤ more → more < 2 ^ 62 → IsLoweredBelow old s other f d bound quotients k → IsLoweredBelow old s other f e more (set quotients k q) (k + 1)
lowered_put old s other f d bound e more quotients k q lt x ee grows fits small h =
    subst (λ (n : ℕ). IsLoweredBelow old s other f n more (set quotients k q) (k + 1)) (sym ee) (lowered_more old s other f d bound more quotients k q lt x.value grows fits small h)

-- ---- by a lesser divisor
pub raised_told : (d bound : ℕ) (old : List ℤ) (k e e' a raised : ℕ) (new : List ℤ) → e' ≡ e → a * e ≡ d → 0 < d → raised ≡ bound * a → bound * a < 2 ^ 62 → ((j : ℕ) → j < k → top_at new j ≡ top_at old j *ℤ pos a) → ((j : ℕ) → k ≤ j → top_at new j ≡ top_at old j) → IsRaised d bound old k e' raised new
raised_told d bound old k e e' a raised new ee is pd raised_is small numbers rest =
    let pe : 0 < e = second_some a e d is pd in
    let part : a ≡ d / e = sym (ap (λ n. n / e) (sym is) ∙ mul-div_cancel a pe) in
    subst (λ (n : ℕ). IsRaised d bound old k n raised new) (sym ee)
    (record {
      positive = pe;
      divides = subst (λ (n : ℕ). e ∣ n) is (dvd-mul_left e a);
      small = omega (arith, raised_is, small);
      bound_is = raised_is ∙ ap (λ n. bound * n) part;
      numbers = λ j q. numbers j q ∙ ap (λ n. top_at old j *ℤ pos n) part;
      rest = rest;
    })

pub lowered_raised : (old : List ℤ) (s : ℤ) (other : List ℤ) (f : ℤ) (d bound e raised : ℕ) (quotients new : List ℤ) (k : ℕ) → IsRaised d bound quotients k e raised new → IsLoweredBelow old s other f d bound quotients k → IsLoweredBelow old s other f e raised new k
lowered_raised old s other f d bound e raised quotients new k r h =
    record {
      positive = r.positive;
      divisor_small = omega (arith, le_of_dvd h.positive r.divides, h.divisor_small);
      bound_small = r.small;
      done = over_raised old s other f d e quotients new k r.divides r.numbers h.done;
      within = subst (λ (n : ℕ). AreWithinBelow new n k) (sym r.bound_is) (within_raised quotients new bound (d / e) k r.numbers h.within);
      rest = λ j q. r.rest j q ∙ h.rest j q;
    }

-- ---- all quotients
pub lowered_all : (old : List ℤ) (s s' : ℤ) (other : List ℤ) (f f' : ℤ) (bottom d bound : ℕ) (quotients : List ℤ) → length quotients ≡ length old → s' ≡ s → f' ≡ f → d ∣ bottom → IsLoweredBelow old s' other f' d bound quotients (length old) → IsLowered old s other f bottom d bound quotients
lowered_all old s s' other f f' bottom d bound quotients len es ef divides h =
    record {
      positive = h.positive;
      divides = divides;
      combined = record {
        length_is = len;
        numbers = λ k q. h.done.done k q ∙ (ap (λ a. top_at old k *ℤ a -ℤ top_at other k *ℤ f') es ∙ ap (λ a. top_at old k *ℤ s -ℤ top_at other k *ℤ a) ef);
      };
      within = λ k q. h.within.within k (omega (arith, q, len));
      small = h.bound_small;
    }

-- a row alone, where the factor is 0
alone : (t o : ℤ) → t *ℤ pos 1 -ℤ o *ℤ pos 0 ≡ t
alone t o = same_value (int t ⊗ nat 1 ⊖ int o ⊗ nat 0) (int t) (omega arith)

pub divided_alone : (old : List ℤ) (s : ℤ) (other : List ℤ) (f : ℤ) (d : ℕ) (new : List ℤ) → s ≡ pos 1 → f ≡ pos 0 → IsCombinedOver old s other f d new → IsDividedBy old d new
divided_alone old s other f d new es ef h =
    record {
      length_is = h.length_is;
      numbers = λ k q. h.numbers k q ∙ (ap (λ a. top_at old k *ℤ a -ℤ top_at other k *ℤ f) es ∙ (ap (λ a. top_at old k *ℤ pos 1 -ℤ top_at other k *ℤ a) ef ∙ alone (top_at old k) (top_at other k)));
    }
