-- Flows, one after another.
use Rattle.std.proofs.Common.{◌≡◌, ◌∙◌, ℕ, ◌+◌, ◌<◌, ◌≤◌, List, [], ◌∷◌, Bool, true, false, length, get_or, drop, map, refl, sym, ap}
use Rattle.std.specs.Prelude.{if◌then◌else◌}
use Rattle.std.specs.Bool.{Decides}
use Rattle.fractions.specs.Fraction.{Fraction, ◌*ʳ◌}
use Rattle.fractions.specs.Limits.{IsNarrow}
use Rattle.game_types.specs.Steps.{is_narrow}
use Rattle.game_types.proofs.StepLemmas.{narrow_decided}
use Rattle.game_types.proofs.Walks.{next as next_of, drop_all}
use Rattle.page_parts.specs.declared.amounts.Amount.TheVariants.{Exact, Wide}
use Rattle.page_parts.specs.Flows.{flow_of, flows_of, product}

some_if : {P : Type 0} (fits : Bool) (x y : Fraction) → Decides fits P → P → y ≡ x → Exact y ≡ (if fits then Exact x else Wide)
some_if true x y d p e = ap Exact e
some_if false x y d p e = absurd (let h : false ≡ true = d.1 p in cc)

none_if : {P : Type 0} (fits : Bool) (x : Fraction) → Decides fits P → ¬ P → Wide ≡ (if fits then Exact x else Wide)
none_if true x d p = absurd (p (d.0 refl))
none_if false x d p = refl

pub product_fits : (x y v : Fraction) → IsNarrow (x *ʳ y) → v ≡ x *ʳ y → Exact v ≡ product x y
unfolding product
product_fits x y v p e = some_if (is_narrow (x *ʳ y)) (x *ʳ y) v (narrow_decided (x *ʳ y)) p e

pub product_wide : (x y : Fraction) → ¬ IsNarrow (x *ʳ y) → Wide ≡ product x y
unfolding product
product_wide x y p = none_if (is_narrow (x *ʳ y)) (x *ʳ y) (narrow_decided (x *ʳ y)) p

pub flows_next : (rate : Fraction) (parts : List (ℕ × Fraction)) (k : ℕ) (part : ℕ × Fraction) → k < length parts → part ≡ get_or parts k part → flows_of rate (drop k parts) ≡ flow_of rate part ∷ flows_of rate (drop (k + 1) parts)
flows_next rate parts k part h e = ap (flows_of rate) (next_of parts k part h e)

pub flows_end : (rate : Fraction) (parts : List (ℕ × Fraction)) (k : ℕ) → length parts ≤ k → flows_of rate (drop k parts) ≡ []
flows_end rate parts k h = ap (flows_of rate) (drop_all parts k h)
