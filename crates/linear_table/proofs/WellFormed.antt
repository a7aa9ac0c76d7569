-- The parts of being well formed make the whole, and it has each of them.
use Rattle.std.specs.Prelude.{◌≡◌, ◌≢◌, ℕ, zero, suc, ◌<◌, ◌≤◌, List, [], ◌∷◌, length, Option, Some, None, slice_get}
use Rattle.std.proofs.Common.{refl, sym, ap, subst, ◌∙◌, arith, inl, inr}
use Rattle.std.proofs.lemmas.Bool.{cases_lt}
use Rattle.std.proofs.lemmas.Option.{slice_get_within}
use Rattle.fractions.specs.Fraction.{Fraction, zero_fraction, ◌≤ʳ◌}
use Rattle.fractions.proofs.Order.{≤ʳ_refl}
use Rattle.linear_table.specs.Plans.{good_count, column_count, number_at, want_at, IsWellFormed}
use Rattle.linear_table.specs.Form.{HasSoundColumns, HasRisingKinds, HasNewNames, HasNewGoods, HasSoundWants}
use Rattle.linear_table.specs.declared.Linear.{Linear}
use Rattle.linear_table.specs.declared.LinearColumn.{LinearColumn}

number_past : (xs : List Fraction) (k : ℕ) → length xs ≤ k → number_at xs k ≡ zero_fraction
number_past [] k h = refl
number_past (x ∷ xs) zero h = absurd (omega arith)
number_past (x ∷ xs) (suc k) h = number_past xs k (omega arith)

pub wants_on : (l : Linear) → HasSoundWants l (length l.wants) → (g : ℕ) → zero_fraction ≤ʳ want_at l g
wants_on l h g =
    elim (cases_lt g (length l.wants)) [
      | inl lt ↦ h g lt
      | inr le ↦ subst (λ (x : Fraction). zero_fraction ≤ʳ x) (sym (number_past l.wants g le)) (≤ʳ_refl zero_fraction)
    ]

pub form_is : (l : Linear) → length l.wants ≡ length l.goods → HasSoundWants l (length l.wants) → HasNewGoods l (good_count l) → HasSoundColumns l (column_count l) → HasRisingKinds l (column_count l) → HasNewNames l (column_count l) → IsWellFormed l
form_is l fit wants goods columns kinds names =
    record {
      wants_fit = fit;
      wants = wants_on l wants;
      goods_differ = λ i j lt q. goods j q i lt;
      columns = λ j c e. columns j (slice_get_within l.columns j c e) c e;
      kinds_rise = λ j c d ec ed. kinds j c d (slice_get_within l.columns (suc j) d ed) ec ed;
      names_differ = λ i j c d lt ec ed. names j (slice_get_within l.columns j d ed) i c d lt ec ed;
    }

pub form_wants : (l : Linear) → IsWellFormed l → HasSoundWants l (length l.wants)
form_wants l h g q = h.wants g

pub form_goods : (l : Linear) → IsWellFormed l → HasNewGoods l (good_count l)
form_goods l h g q i lt = h.goods_differ i g lt q

pub form_columns : (l : Linear) → IsWellFormed l → HasSoundColumns l (column_count l)
form_columns l h j q c e = h.columns j c e

pub form_kinds : (l : Linear) → IsWellFormed l → HasRisingKinds l (column_count l)
form_kinds l h j c d q ec ed = h.kinds_rise j c d ec ed

pub form_names : (l : Linear) → IsWellFormed l → HasNewNames l (column_count l)
form_names l h j q i c d lt ec ed = h.names_differ i j c d lt ec ed
