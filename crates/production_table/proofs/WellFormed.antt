-- The linear form of a table is well formed.
use Rattle.std.proofs.Common.{◌≡◌, ◌∙◌, ◌<◌, ◌≤◌, ◌+◌, ◌++◌, ℕ, zero, suc, List, [], ◌∷◌, length, refl, sym, ap, subst, arith, inl, inr}
use Rattle.std.specs.Prelude.{◌⊎◌, ◌≢◌, map, All, Bool, true, false, ◌==◌, Some, Ok, slice_get, if◌then◌else◌}
use Rattle.std.proofs.lemmas.List.{length-map}
use Rattle.std.proofs.lemmas.List.Elements.{All-head, All-tail}
use Rattle.fractions.specs.Fraction.{Fraction, zero_fraction, one_fraction, negated, ◌≤ʳ◌, ◌<ʳ◌}
use Rattle.fractions.proofs.Order.{≤ʳ_refl, <ʳ-≤ʳ}
use Rattle.plan_base.specs.declared.ids.GoodId.{GoodId}
use Rattle.game_types.specs.declared.games.Game.{Game}
use Rattle.linear_table.specs.Plans.{kind_rank, number_at, good_count, HasOnePart, IsSoundColumn, IsWellFormed, Rises as PlacesRise}
use Rattle.linear_table.specs.declared.Column.{Column}
use Rattle.linear_table.specs.declared.Column.TheVariants.{Line, Import, Surplus, Unit as UnitOf}
use Rattle.linear_table.specs.declared.Linear.{Linear}
use Rattle.linear_table.specs.declared.LinearColumn.{LinearColumn}
use Rattle.production_table.specs.declared.tables.Table.{Table}
use Rattle.production_table.specs.declared.tables.TableRow.{TableRow}
use Rattle.production_table.specs.Linear.{columns_of, import_column, linear_with, or_none, place_in, row_column, row_columns, surplus_column, table_goods, want_of, with_columns, with_goods}
use Rattle.production_table.specs.Numbers.{number_of}
use Rattle.production_table.specs.Tables.{GoodsRise, IsSoundTable, Rises}
use Rattle.production_table.proofs.Columns.{columns_rise, EachRises}
use Rattle.production_table.proofs.Places.{all_kept, columns_goods_rise, columns_in, each_kept, goods_in, goods_kept, goods_rise, parts_places, place_is_spot, spot, spot_get, spot_within, AllIn, EachIn, Has}

-- ---- what is wanted
wanted_test : (p : GoodId × Fraction) (ps : List (GoodId × Fraction)) (good : GoodId) (b : Bool) → zero_fraction ≤ʳ p.1 → zero_fraction ≤ʳ or_none (number_of ps good)
    → zero_fraction ≤ʳ or_none (if b then Some p.1 else number_of ps good)
wanted_test p ps good true h rest = h
wanted_test p ps good false h rest = rest

number_nonneg : (ps : List (GoodId × Fraction)) (good : GoodId) → All (λ want. zero_fraction <ʳ want.1) ps → zero_fraction ≤ʳ or_none (number_of ps good)
unfolding number_of
number_nonneg [] good each = ≤ʳ_refl zero_fraction
number_nonneg (p ∷ ps) good each =
    wanted_test p ps good (p.0.0 == good.0) (<ʳ-≤ʳ zero_fraction p.1 (All-head (λ (want : GoodId × Fraction). zero_fraction <ʳ want.1) p ps each))
    (number_nonneg ps good (All-tail (λ (want : GoodId × Fraction). zero_fraction <ʳ want.1) p ps each))

want_nonneg : (ps : List (GoodId × Fraction)) (good : GoodId) → All (λ want. zero_fraction <ʳ want.1) ps → zero_fraction ≤ʳ want_of ps good
unfolding want_of
want_nonneg ps good each = number_nonneg ps good each

each_nonneg : (f : GoodId → Fraction) (goods : List GoodId) (k : ℕ) → ((good : GoodId) → zero_fraction ≤ʳ f good) → zero_fraction ≤ʳ number_at (map f goods) k
each_nonneg f [] k h = ≤ʳ_refl zero_fraction
each_nonneg f (g ∷ goods) zero h = h g
each_nonneg f (g ∷ goods) (suc k) h = each_nonneg f goods k h

-- ---- goods that rise differ
get_low : (low : ℕ) (goods : List GoodId) (k : ℕ) (g : GoodId) → GoodsRise low goods → slice_get goods k ≡ Some g → low ≤ g.0
get_low low [] k g rise is = absurd (cc)
get_low low (h ∷ goods) zero g rise is = let same : h ≡ g = cc in subst (λ (x : GoodId). low ≤ x.0) same rise.0
get_low low (h ∷ goods) (suc k) g rise is = let first : low ≤ h.0 = rise.0 in let more : h.0 + 1 ≤ g.0 = get_low (h.0 + 1) goods k g rise.1 is in omega arith

goods_apart : (low : ℕ) (goods : List GoodId) (i j : ℕ) → GoodsRise low goods → i < j → j < length goods → slice_get goods i ≢ slice_get goods j
goods_apart low [] i j rise less within e = omega arith
goods_apart low (g ∷ goods) i zero rise less within e = omega arith
goods_apart low (g ∷ goods) zero (suc j) rise less within e = let above : g.0 + 1 ≤ g.0 = get_low (g.0 + 1) goods j g rise.1 (sym e) in omega arith
goods_apart low (g ∷ goods) (suc i) (suc j) rise less within e = goods_apart (g.0 + 1) goods i j rise.1 (omega arith) (omega arith) e

-- ---- columns: the kinds rise, and the numbers of each kind do
abbrev name_number : Column → ℕ
name_number (Line n) = n
name_number (Import good) = good.0
name_number (Surplus good) = good.0
name_number (UnitOf good) = good.0

abbrev After : ℕ → ℕ → ℕ → ℕ → Type 0
After kind number k n = (kind < k) ⊎ ((kind ≡ k) × (number ≤ n))

abbrev NamesFrom : ℕ → ℕ → List LinearColumn → Type 0
NamesFrom kind number [] = Unit {0}
NamesFrom kind number (c ∷ cs) = After kind number (kind_rank c.column) (name_number c.column) × NamesFrom (kind_rank c.column) (name_number c.column + 1) cs

after_on : (a b c d e f : ℕ) → After a b c d → After c (d + 1) e f → After a b e f
after_on a b c d e f (inl h) (inl k) = inl (omega arith)
after_on a b c d e f (inl h) (inr k) = let same = k.0 in inl (omega arith)
after_on a b c d e f (inr h) (inl k) = let same = h.0 in inl (omega arith)
after_on a b c d e f (inr h) (inr k) = let one = h.0 in let two = h.1 in let three = k.0 in let four = k.1 in inr (omega arith, omega arith)

after_kind : (a b c d : ℕ) → After a b c d → a ≤ c
after_kind a b c d (inl h) = omega arith
after_kind a b c d (inr h) = let same = h.0 in omega arith

not_after : (a b c d : ℕ) → After a (b + 1) c d → a ≡ c → b ≡ d → ⊥
not_after a b c d (inl h) e f = omega arith
not_after a b c d (inr h) e f = let less = h.1 in omega arith

after_up : (a b c d e : ℕ) → After a b c d → d ≤ e → After a b c e
after_up a b c d e (inl h) k = inl h
after_up a b c d e (inr h) k = let less = h.1 in inr (h.0, omega arith)

after_get : (kind number : ℕ) (cs : List LinearColumn) (j : ℕ) (d : LinearColumn) → NamesFrom kind number cs → slice_get cs j ≡ Some d → After kind number (kind_rank d.column) (name_number d.column)
after_get kind number [] j d names is = absurd (cc)
after_get kind number (c ∷ cs) zero d names is =
    let same : c ≡ d = cc in subst (λ (x : LinearColumn). After kind number (kind_rank x.column) (name_number x.column)) same names.0
after_get kind number (c ∷ cs) (suc j) d names is =
    after_on kind number (kind_rank c.column) (name_number c.column) (kind_rank d.column) (name_number d.column) names.0 (after_get (kind_rank c.column) (name_number c.column + 1) cs j d names.1 is)

kinds_rise : (kind number : ℕ) (cs : List LinearColumn) (j : ℕ) (c d : LinearColumn) → NamesFrom kind number cs → slice_get cs j ≡ Some c → slice_get cs (suc j) ≡ Some d → kind_rank c.column ≤ kind_rank d.column
kinds_rise kind number [] j c d names is other = absurd (cc)
kinds_rise kind number (x ∷ cs) zero c d names is other =
    let same : x ≡ c = cc in
    let up : kind_rank x.column ≤ kind_rank d.column = after_kind (kind_rank x.column) (name_number x.column + 1) (kind_rank d.column) (name_number d.column) (after_get (kind_rank x.column) (name_number x.column + 1) cs zero d names.1 other) in
    subst (λ (y : LinearColumn). kind_rank y.column ≤ kind_rank d.column) same up
kinds_rise kind number (x ∷ cs) (suc j) c d names is other = kinds_rise (kind_rank x.column) (name_number x.column + 1) cs j c d names.1 is other

names_apart : (kind number : ℕ) (cs : List LinearColumn) (i j : ℕ) (c d : LinearColumn) → NamesFrom kind number cs → i < j → slice_get cs i ≡ Some c → slice_get cs j ≡ Some d → c.column ≢ d.column
names_apart kind number [] i j c d names less is other e = absurd (cc)
names_apart kind number (x ∷ cs) i zero c d names less is other e = omega arith
names_apart kind number (x ∷ cs) zero (suc j) c d names less is other e =
    let same : x ≡ c = cc in
    let alike : x.column ≡ d.column = ap (λ (y : LinearColumn). y.column) same ∙ e in
    not_after (kind_rank x.column) (name_number x.column) (kind_rank d.column) (name_number d.column) (after_get (kind_rank x.column) (name_number x.column + 1) cs j d names.1 other) (ap kind_rank alike) (ap name_number alike)
names_apart kind number (x ∷ cs) (suc i) (suc j) c d names less is other e = names_apart (kind_rank x.column) (name_number x.column + 1) cs i j c d names.1 (omega arith) is other e

surpluses_from : (goods : List GoodId) (kind number low : ℕ) (ps : List (GoodId × Fraction)) → After kind number 2 low → Rises low ps → NamesFrom kind number (map (surplus_column goods) ps)
surpluses_from goods kind number low [] after rise = tt
surpluses_from goods kind number low (p ∷ ps) after rise = (after_up kind number 2 low p.0.0 after rise.0, surpluses_from goods 2 (p.0.0 + 1) (p.0.0 + 1) ps (inr (refl, omega arith)) rise.1)

past_kind : (a b d : ℕ) → After a b 1 d → After a b 2 0
past_kind a b d (inl h) = inl (omega arith)
past_kind a b d (inr h) = let same = h.0 in inl (omega arith)

imports_from : (goods : List GoodId) (kind number low : ℕ) (ps qs : List (GoodId × Fraction)) → After kind number 1 low → Rises low ps → Rises 0 qs
    → NamesFrom kind number (map (import_column goods) ps ++ map (surplus_column goods) qs)
imports_from goods kind number low [] qs after rise others = surpluses_from goods kind number 0 qs (past_kind kind number low after) others
imports_from goods kind number low (p ∷ ps) qs after rise others =
    (after_up kind number 1 low p.0.0 after rise.0, imports_from goods 1 (p.0.0 + 1) (p.0.0 + 1) ps qs (inr (refl, omega arith)) rise.1 others)

rows_from : (goods : List GoodId) (number first : ℕ) (rows : List TableRow) (columns : List (List (GoodId × Fraction))) (ps qs : List (GoodId × Fraction)) → number ≤ first → Rises 0 ps → Rises 0 qs
    → NamesFrom 0 number (row_columns goods first rows columns ++ (map (import_column goods) ps ++ map (surplus_column goods) qs))
unfolding row_columns
rows_from goods number first [] columns ps qs h rise others = imports_from goods 0 number 0 ps qs (inl (omega arith)) rise others
rows_from goods number first (row ∷ rows) [] ps qs h rise others = imports_from goods 0 number 0 ps qs (inl (omega arith)) rise others
rows_from goods number first (row ∷ rows) (column ∷ columns) ps qs h rise others = (inr (refl, h), rows_from goods (first + 1) (first + 1) rows columns ps qs (omega arith) rise others)

-- ---- columns are sound
each_append : {A : Type 0} (P : ℕ → A → Type 0) (xs ys : List A) → ((j : ℕ) (c : A) → slice_get xs j ≡ Some c → P j c) → ((n j : ℕ) (c : A) → slice_get ys j ≡ Some c → P n c)
    → (j : ℕ) (c : A) → slice_get (xs ++ ys) j ≡ Some c → P j c
each_append P [] ys h k j c is = k j j c is
each_append P (x ∷ xs) ys h k zero c is = h zero c is
each_append P (x ∷ xs) ys h k (suc j) c is = each_append (λ n d. P (suc n) d) xs ys (λ n d e. h (suc n) d e) (λ n i d e. k (suc n) i d e) j c is

any_append : {A : Type 0} (P : A → Type 0) (xs ys : List A) → ((j : ℕ) (c : A) → slice_get xs j ≡ Some c → P c) → ((j : ℕ) (c : A) → slice_get ys j ≡ Some c → P c)
    → (j : ℕ) (c : A) → slice_get (xs ++ ys) j ≡ Some c → P c
any_append P [] ys h k j c is = k j c is
any_append P (x ∷ xs) ys h k zero c is = h zero c is
any_append P (x ∷ xs) ys h k (suc j) c is = any_append P xs ys (λ n d e. h (suc n) d e) k j c is

row_sound : (l : Linear) (first n j : ℕ) (rows : List TableRow) (columns : List (List (GoodId × Fraction))) (c : LinearColumn) → GoodsRise 0 l.goods → All (λ row. zero_fraction ≤ʳ row.price) rows
    → EachRises columns → EachIn l.goods columns → n ≡ first + j → slice_get (row_columns l.goods first rows columns) j ≡ Some c → IsSoundColumn l n c
unfolding row_columns
row_sound l first n j [] columns c goods_up prices rise each at is = absurd (cc)
row_sound l first n j (row ∷ rows) [] c goods_up prices rise each at is = absurd (cc)
row_sound l first n zero (row ∷ rows) (column ∷ columns) c goods_up prices rise each at is =
    let same : row_column l.goods first row column ≡ c = cc in
    subst (λ (x : LinearColumn). IsSoundColumn l n x) same (record {
      parts_rise = parts_places l.goods 0 0 column goods_up rise.0 each.0 (λ x h has. omega arith);
      price = All-head (λ (r : TableRow). zero_fraction ≤ʳ r.price) row rows prices;
      name_fits = omega arith;
    })
row_sound l first n (suc j) (row ∷ rows) (column ∷ columns) c goods_up prices rise each at is =
    row_sound l (first + 1) n j rows columns c goods_up (All-tail (λ (r : TableRow). zero_fraction ≤ʳ r.price) row rows prices) rise.1 each.1 (omega arith) is

one_place : (l : Linear) (good : GoodId) (x : Fraction) → Has l.goods good.0 → PlacesRise 0 (good_count l) ((place_in l.goods good.0, x) ∷ []) × HasOnePart l good x ((place_in l.goods good.0, x) ∷ [])
one_place l good x has =
    let at : place_in l.goods good.0 ≡ spot good.0 l.goods = place_is_spot good.0 l.goods has in
    let inside : spot good.0 l.goods < length l.goods = spot_within good.0 l.goods has in
    ((omega arith, omega arith, tt), record { place = place_in l.goods good.0; place_of = ap (slice_get l.goods) at ∙ spot_get good l.goods has; parts_are = refl })

import_sound : (l : Linear) (n j : ℕ) (ps : List (GoodId × Fraction)) (c : LinearColumn) → All (λ import_. zero_fraction ≤ʳ import_.1) ps → AllIn l.goods ps → slice_get (map (import_column l.goods) ps) j ≡ Some c → IsSoundColumn l n c
import_sound l n j [] c prices each is = absurd (cc)
import_sound l n zero (p ∷ ps) c prices each is =
    let same : import_column l.goods p ≡ c = cc in
    let one = one_place l p.0 one_fraction each.0 in
    subst (λ (x : LinearColumn). IsSoundColumn l n x) same (record { parts_rise = one.0; price = All-head (λ (r : GoodId × Fraction). zero_fraction ≤ʳ r.1) p ps prices; name_fits = one.1 })
import_sound l n (suc j) (p ∷ ps) c prices each is = import_sound l n j ps c (All-tail (λ (r : GoodId × Fraction). zero_fraction ≤ʳ r.1) p ps prices) each.1 is

surplus_sound : (l : Linear) (n j : ℕ) (ps : List (GoodId × Fraction)) (c : LinearColumn) → All (λ surplus. zero_fraction ≤ʳ surplus.1) ps → AllIn l.goods ps → slice_get (map (surplus_column l.goods) ps) j ≡ Some c → IsSoundColumn l n c
surplus_sound l n j [] c prices each is = absurd (cc)
surplus_sound l n zero (p ∷ ps) c prices each is =
    let same : surplus_column l.goods p ≡ c = cc in
    let one = one_place l p.0 (negated one_fraction) each.0 in
    subst (λ (x : LinearColumn). IsSoundColumn l n x) same (record { parts_rise = one.0; price = All-head (λ (r : GoodId × Fraction). zero_fraction ≤ʳ r.1) p ps prices; name_fits = one.1 })
surplus_sound l n (suc j) (p ∷ ps) c prices each is = surplus_sound l n j ps c (All-tail (λ (r : GoodId × Fraction). zero_fraction ≤ʳ r.1) p ps prices) each.1 is

-- ---- the whole
-- the goods are in order, and all that a table mentions is among them
pub record IsOrdered (t : Table) (goods : List GoodId) (columns : List (List (GoodId × Fraction))) : Type 0 where
  pub goods_up : GoodsRise 0 goods
  pub columns_up : EachRises columns
  pub columns_in : EachIn goods columns
  pub imports_in : AllIn goods t.imports
  pub surpluses_in : AllIn goods t.surpluses

form_with : (t : Table) (goods : List GoodId) (columns : List (List (GoodId × Fraction))) → IsSoundTable t → IsOrdered t goods columns → IsWellFormed (linear_with t goods columns)
form_with t goods columns s o = record {
  wants_fit = length-map goods (want_of t.wants);
  wants = λ g. each_nonneg (want_of t.wants) goods g (λ good. want_nonneg t.wants good s.wants.each);
  goods_differ = λ i j less within. goods_apart 0 goods i j o.goods_up less within;
  columns =
      each_append (IsSoundColumn (linear_with t goods columns)) (row_columns goods 0 t.rows columns) (map (import_column goods) t.imports ++ map (surplus_column goods) t.surpluses)
      (λ j c is. row_sound (linear_with t goods columns) 0 j j t.rows columns c o.goods_up s.prices o.columns_up o.columns_in (omega arith) is)
      (λ n. any_append (IsSoundColumn (linear_with t goods columns) n) (map (import_column goods) t.imports) (map (surplus_column goods) t.surpluses)
      (λ j c is. import_sound (linear_with t goods columns) n j t.imports c s.imports.each o.imports_in is)
      (λ j c is. surplus_sound (linear_with t goods columns) n j t.surpluses c s.surpluses.each o.surpluses_in is));
  kinds_rise = λ j c d is other. kinds_rise 0 0 (linear_with t goods columns).columns j c d (rows_from goods 0 0 t.rows columns t.imports t.surpluses (omega arith) s.imports.rise s.surpluses.rise) is other;
  names_differ = λ i j c d less is other. names_apart 0 0 (linear_with t goods columns).columns i j c d (rows_from goods 0 0 t.rows columns t.imports t.surpluses (omega arith) s.imports.rise s.surpluses.rise) less is other;
}

pub table_goods_rise : (t : Table) (columns : List (List (GoodId × Fraction))) → GoodsRise 0 (table_goods t columns)
table_goods_rise t columns =
    let a : List GoodId = with_columns [] columns in
    let b : List GoodId = with_goods a t.wants in
    let c : List GoodId = with_goods b t.imports in
    goods_rise c t.surpluses (goods_rise b t.imports (goods_rise a t.wants (columns_goods_rise [] columns tt)))

pub ordered : (g : Game) (t : Table) (columns : List (List (GoodId × Fraction))) → columns_of g t.power t.rows ≡ Ok columns → IsOrdered t (table_goods t columns) columns
ordered g t columns e =
    let a : List GoodId = with_columns [] columns in
    let b : List GoodId = with_goods a t.wants in
    let c : List GoodId = with_goods b t.imports in
    let d : List GoodId = with_goods c t.surpluses in
    record {
      goods_up = table_goods_rise t columns;
      columns_up = columns_rise g t.power t.rows columns e;
      columns_in = each_kept a d columns (λ x has. goods_kept c t.surpluses x (goods_kept b t.imports x (goods_kept a t.wants x has))) (columns_in [] columns);
      imports_in = all_kept c d t.imports (λ x has. goods_kept c t.surpluses x has) (goods_in b t.imports);
      surpluses_in = goods_in c t.surpluses;
    }

pub formed : (g : Game) (t : Table) (columns : List (List (GoodId × Fraction))) (goods : List GoodId) → IsSoundTable t → columns_of g t.power t.rows ≡ Ok columns → goods ≡ table_goods t columns → IsWellFormed (linear_with t goods columns)
formed g t columns goods s e same =
    subst (λ (gs : List GoodId). IsWellFormed (linear_with t gs columns)) (sym same) (form_with t (table_goods t columns) columns s (ordered g t columns e))
