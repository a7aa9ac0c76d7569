use Rattle.std.proofs.Common.{◌≡◌, ◌∙◌, ◌+◌, ◌*◌, ◌<◌, ◌^◌, ◌*ℤ◌, ◌-ℤ◌, ap, sym, subst, arith, ℤ, unsigned_abs, FitsSigned}
use Rattle.std.specs.Int.{w64}
use Rattle.std.proofs.lemmas.Int.{to_z-of_z, fits_signed_from_abs}
use Rattle.number_rows.proofs.Lists.{wrap, back, combined_small, product_back}
use Rattle.number_rows.proofs.tops.combined.Goals as goal

both : (t s o f : ℤ) → wrap t ≡ t → wrap s ≡ s → wrap o ≡ o → wrap f ≡ f → unsigned_abs t * unsigned_abs s + unsigned_abs o * unsigned_abs f < 2 ^ 62 → wrap (wrap t *ℤ wrap s) -ℤ wrap (wrap o *ℤ wrap f) ≡ t *ℤ s -ℤ o *ℤ f
both t s o f et es eo ef h =
    ap (λ a. a -ℤ wrap (wrap o *ℤ wrap f)) (product_back t s (unsigned_abs o * unsigned_abs f) et es h)
    ∙ ap (λ a. t *ℤ s -ℤ a) (product_back o f (unsigned_abs t * unsigned_abs s) eo ef (omega (arith, h)))

pub overflow_sub-result : goal.overflow_sub-result
overflow_sub-result c =
    subst (λ (k : ℤ). FitsSigned w64 k) (sym (both c.args.top c.args.scale c.args.other c.args.factor (to_z-of_z w64 c.args.top c.ranges.top) (to_z-of_z w64 c.args.scale c.ranges.scale) (to_z-of_z w64 c.args.other c.ranges.other) (to_z-of_z w64 c.args.factor c.ranges.factor) c.requires))
    (fits_signed_from_abs w64 _ (omega (arith, combined_small c.args.top c.args.scale c.args.other c.args.factor c.requires)))

pub returns : goal.returns
returns c =
    let e : wrap (wrap (wrap c.args.top *ℤ wrap c.args.scale) -ℤ wrap (wrap c.args.other *ℤ wrap c.args.factor)) ≡ c.args.top *ℤ c.args.scale -ℤ c.args.other *ℤ c.args.factor =
    ap wrap (both c.args.top c.args.scale c.args.other c.args.factor (to_z-of_z w64 c.args.top c.ranges.top) (to_z-of_z w64 c.args.scale c.ranges.scale) (to_z-of_z w64 c.args.other c.ranges.other) (to_z-of_z w64 c.args.factor c.ranges.factor) c.requires)
    ∙ back _ (omega (arith, combined_small c.args.top c.args.scale c.args.other c.args.factor c.requires)) in
    record { value = e; small = subst (λ (k : ℤ). unsigned_abs k < 2 ^ 62) (sym e) (combined_small c.args.top c.args.scale c.args.other c.args.factor c.requires) }
