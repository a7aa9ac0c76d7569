use Rattle.std.proofs.Common.{◌≡◌, ◌∙◌, List, refl, sym, ap, subst}
use Rattle.std.specs.Prelude.{Bool, true, false, IsTrue, ◌↔◌, Ok, slice_get, slice_set}
use Rattle.fractions.specs.Fraction.{Fraction, zero_fraction, ◌≤ʳ◌, ◌<ʳ◌}
use Rattle.fractions.proofs.Order.{≤ʳ_from_not_<ʳ}
use Rattle.production_table.specs.declared.tables.TableRow.{TableRow}
use Rattle.production_table.specs.Changes.{with_price}
use Rattle.production_table.specs.Tables.{IsSoundTable}
use Rattle.production_table.proofs.Found.{no_price, low_price, fair_price, place_is, some_row}
use Rattle.production_table.proofs.Sound.{sound_set}
use Rattle.production_table.proofs.tables.Table.set_price.Goals as goal

fair : (price : Fraction) (b : Bool) → (IsTrue b ↔ (price <ʳ zero_fraction)) → b ≡ false → zero_fraction ≤ʳ price
fair price true h e = absurd (cc)
fair price false h e = ≤ʳ_from_not_<ʳ zero_fraction price (λ k. let t : false ≡ true = h.1 k in absurd (cc))

pub returns-in_default-clause-change : goal.returns-in_default-clause-change
returns-in_default-clause-change c = (no_price c.args.self.now c.args.label.now c.args.price.now (sym c.find_row.ensures ∙ c.in_default.is), refl)

pub returns-then-is_neg-clause-change : goal.returns-then-is_neg-clause-change
returns-then-is_neg-clause-change c = (low_price c.args.self.now c.args.label.now c.args.price.now c.in-Some.place (sym c.find_row.ensures ∙ c.in-Some.is) (c.is_neg.ensures.0 c.if-is_neg.true), refl)

pub returns-clause-change : goal.returns-clause-change
returns-clause-change c =
    let t = c.args.self.now in
    let taken : c.into_vec-rows.result.items ≡ t.rows = c.into_vec-rows.ensures ∙ c.replace.ensures.value in
    let at = place_is c.args.label.now t.rows c.in-Some.place (sym c.find_row.ensures ∙ c.in-Some.is) in
    let row = some_row t.rows c.in-Some.place at.1 in
    let told = c.set_price_at-old.ensures row.0 (ap (λ (rows : List TableRow). slice_get rows c.in-Some.place) taken ∙ row.1) in
    let left : c.from_vec.result ≡ slice_set t.rows c.in-Some.place (record row.0 { price = c.args.price.now })
    = c.from_vec.ensures ∙ told.1 ∙ ap (λ (rows : List TableRow). slice_set rows c.in-Some.place (record row.0 { price = c.args.price.now })) taken in
    let one : with_price c.args.label.now c.args.price.now t ≡ Ok (row.0.price, record t { rows = slice_set t.rows c.in-Some.place (record row.0 { price = c.args.price.now }) })
    = fair_price t c.args.label.now c.args.price.now c.in-Some.place row.0 (sym c.find_row.ensures ∙ c.in-Some.is) row.1 (fair c.args.price.now c.is_neg.result c.is_neg.ensures c.if-is_neg.false) in
    one ∙ ap (λ (rows : List TableRow). Ok (row.0.price, record t { rows = rows })) (sym left) ∙ ap (λ (price : Fraction). Ok (price, record t { rows = c.from_vec.result })) (sym told.0)

pub returns-clause-sound : goal.returns-clause-sound
returns-clause-sound c =
    let t = c.args.self.now in
    let taken : c.into_vec-rows.result.items ≡ t.rows = c.into_vec-rows.ensures ∙ c.replace.ensures.value in
    let at = place_is c.args.label.now t.rows c.in-Some.place (sym c.find_row.ensures ∙ c.in-Some.is) in
    let row = some_row t.rows c.in-Some.place at.1 in
    let told = c.set_price_at-old.ensures row.0 (ap (λ (rows : List TableRow). slice_get rows c.in-Some.place) taken ∙ row.1) in
    let left : c.from_vec.result ≡ slice_set t.rows c.in-Some.place (record row.0 { price = c.args.price.now })
    = c.from_vec.ensures ∙ told.1 ∙ ap (λ (rows : List TableRow). slice_set rows c.in-Some.place (record row.0 { price = c.args.price.now })) taken in
    subst (λ (rows : List TableRow). IsSoundTable (record t { rows = rows })) (sym left)
    (sound_set t c.in-Some.place row.0 (record row.0 { price = c.args.price.now }) row.1 refl (fair c.args.price.now c.is_neg.result c.is_neg.ensures c.if-is_neg.false) c.requires.sound)
