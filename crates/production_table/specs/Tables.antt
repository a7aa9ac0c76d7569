-- When a table is well formed.
use Rattle.std.specs.Prelude.{◌≡◌, ℕ, ◌+◌, ◌<◌, ◌≤◌, Bool, false, List, [], ◌∷◌, map, length, All}
use Rattle.std.specs.List.{list_any}
use Rattle.std.specs.Str.{bytes_eq}
use Rattle.fractions.specs.Fraction.{Fraction, zero_fraction, ◌≤ʳ◌, ◌<ʳ◌}
use Rattle.plan_base.specs.declared.ids.GoodId.{GoodId}
use Rattle.game_types.specs.declared.games.Game.{Game}
use Rattle.game_types.specs.Goods.{good_count}
use Rattle.production_table.specs.declared.tables.Table.{Table}
use Rattle.production_table.specs.declared.tables.TableRow.{TableRow}

abbrev pub is_label : List ℕ → TableRow → Bool
is_label label row = bytes_eq label row.label

abbrev pub labels_of : List TableRow → List (List ℕ)
labels_of rows = map (λ row. row.label) rows

-- no label stands twice
abbrev pub HasOwnLabels : List TableRow → Type 0
HasOwnLabels [] = Unit {0}
HasOwnLabels (row ∷ rows) = (list_any (is_label row.label) rows ≡ false) × HasOwnLabels rows

-- the goods rise, from this one on
abbrev pub Rises : ℕ → List (GoodId × Fraction) → Type 0
Rises low [] = Unit {0}
Rises low (p ∷ ps) = (low ≤ p.0.0) × Rises (p.0.0 + 1) ps

-- the same of goods alone
abbrev pub GoodsRise : ℕ → List GoodId → Type 0
GoodsRise low [] = Unit {0}
GoodsRise low (good ∷ goods) = (low ≤ good.0) × GoodsRise (good.0 + 1) goods

abbrev pub goods_of : List (GoodId × Fraction) → List ℕ
goods_of pairs = map (λ pair. pair.0.0) pairs

-- numbers of goods: in the order of goods, each of them such a number, and no more than there may be
pub record IsSoundList (IsNumber : Fraction → Type 0) (pairs : List (GoodId × Fraction)) : Type 0 where
  pub rise : Rises 0 pairs
  pub each : All (λ pair. IsNumber pair.1) pairs
  pub few : length pairs ≤ 512

-- labels differ, wants are above 0, and prices are not below it
pub record IsSoundTable (t : Table) : Type 0 where
  pub labels : HasOwnLabels t.rows
  pub prices : All (λ row. zero_fraction ≤ʳ row.price) t.rows
  pub few_rows : length t.rows ≤ 512
  pub wants : IsSoundList (λ rate. zero_fraction <ʳ rate) t.wants
  pub imports : IsSoundList (λ price. zero_fraction ≤ʳ price) t.imports
  pub surpluses : IsSoundList (λ price. zero_fraction ≤ʳ price) t.surpluses

-- the goods that a table names are of a game: items, fluids, electricity and units of technologies
pub record IsOfGame (g : Game) (t : Table) : Type 0 where
  pub wants : All (λ want. want.0.0 < good_count g) t.wants
  pub imports : All (λ import_. import_.0.0 < good_count g) t.imports
  pub surpluses : All (λ surplus. surplus.0.0 < good_count g) t.surpluses
