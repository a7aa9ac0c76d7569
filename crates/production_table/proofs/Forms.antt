-- The loops of linear forms.
use Rattle.std.proofs.Common.{◌≡◌, ◌∙◌, ◌≤◌, ◌+◌, ◌++◌, ℕ, List, [], ◌∷◌, length, drop, arith, append_assoc, refl, sym, ap, subst, Result}
use Rattle.std.proofs.lemmas.List.{map-append}
use Rattle.std.specs.Prelude.{map, Bool, true, false, Ok, Err, if◌then◌else◌}
use Rattle.fractions.specs.Fraction.{Fraction}
use Rattle.plan_base.specs.declared.denied.Denied.{Denied}
use Rattle.plan_base.specs.declared.ids.GoodId.{GoodId}
use Rattle.plan_base.specs.Outcomes.{Gives, IsRefused}
use Rattle.game_types.specs.declared.effects.Effects.{Effects}
use Rattle.game_types.specs.declared.effects.Rates.{Rates}
use Rattle.game_types.specs.declared.effects.Wide.{Wide}
use Rattle.game_types.specs.declared.games.Game.{Game}
use Rattle.game_types.specs.Steps.{◌▸◌}
use Rattle.game_types.proofs.Walks.{drop_all}
use Rattle.table_rows.specs.Columns.{column_of, figures_of}
use Rattle.linear_table.specs.declared.LinearColumn.{LinearColumn}
use Rattle.production_table.specs.declared.faults.TableFault.{TableFault}
use Rattle.production_table.specs.declared.tables.TableRow.{TableRow}
use Rattle.production_table.specs.Linear.{columns_of, figures_of_row, HasFigures, of_row, parts_at, place_in, row_column, row_columns}
use Rattle.fractions.specs.Signs.{is_zero}

append_none : {A : Type 0} (xs : List A) → xs ++ [] ≡ xs
append_none [] = refl
append_none {A} (x ∷ xs) = ap (λ (ys : List A). x ∷ ys) (append_none xs)

-- ---- parts
parts_first : (goods : List GoodId) (p : GoodId × Fraction) (ps : List (GoodId × Fraction)) → parts_at goods (p ∷ ps) ≡ parts_at goods (p ∷ []) ++ parts_at goods ps
unfolding parts_at
parts_first goods p ps = by_test (is_zero p.1)
  where
    by_test : (b : Bool) → (if b then parts_at goods ps else (place_in goods p.0.0, p.1) ∷ parts_at goods ps) ≡ (if b then [] else (place_in goods p.0.0, p.1) ∷ []) ++ parts_at goods ps
    by_test true = refl
    by_test false = refl

pub parts_on : (goods : List GoodId) (done : List (ℕ × Fraction)) (column : List (GoodId × Fraction)) (k : ℕ) (p : GoodId × Fraction) → drop k column ≡ p ∷ drop (k + 1) column
    → done ++ parts_at goods (drop k column) ≡ (done ++ parts_at goods (p ∷ [])) ++ parts_at goods (drop (k + 1) column)
parts_on goods done column k p at =
    ap (λ (ps : List (GoodId × Fraction)). done ++ parts_at goods ps) at
    ∙ ap (λ (parts : List (ℕ × Fraction)). done ++ parts) (parts_first goods p (drop (k + 1) column))
    ∙ sym (append_assoc done (parts_at goods (p ∷ [])) (parts_at goods (drop (k + 1) column)))

pub parts_end : (goods : List GoodId) (done : List (ℕ × Fraction)) (column : List (GoodId × Fraction)) (k : ℕ) → length column ≤ k → done ++ parts_at goods (drop k column) ≡ done
unfolding parts_at
parts_end goods done column k end = ap (λ (ps : List (GoodId × Fraction)). done ++ parts_at goods ps) (drop_all column k end) ∙ append_none done

-- ---- columns of rows
after : List (List (GoodId × Fraction)) → Result (List (List (GoodId × Fraction))) TableFault → Result (List (List (GoodId × Fraction))) TableFault
after done rest = rest ▸ λ columns. Ok (done ++ columns)

one_more : (done : List (List (GoodId × Fraction))) (column : List (GoodId × Fraction)) (rest : Result (List (List (GoodId × Fraction))) TableFault) → after done (rest ▸ λ columns. Ok (column ∷ columns)) ≡ after (done ++ column ∷ []) rest
unfolding after
one_more done column (Ok columns) = ap (λ (cs : List (List (GoodId × Fraction))). Ok cs) (sym (append_assoc done (column ∷ []) columns))
one_more done column (Err fault) = refl

pub rows_on : (g : Game) (power : Bool) (rows : List TableRow) (done : List (List (GoodId × Fraction))) (k : ℕ) (row : TableRow) (column : List (GoodId × Fraction)) → drop k rows ≡ row ∷ drop (k + 1) rows
    → of_row row (column_of g power row.setup) ≡ Ok column
    → (columns_of g power (drop k rows) ▸ λ rest. Ok (done ++ rest)) ≡ (columns_of g power (drop (k + 1) rows) ▸ λ rest. Ok ((done ++ column ∷ []) ++ rest))
unfolding columns_of after
rows_on g power rows done k row column at h =
    ap (λ (rs : List TableRow). columns_of g power rs ▸ λ rest. Ok (done ++ rest)) at
    ∙ ap (λ (r : Result (List (GoodId × Fraction)) TableFault). (r ▸ λ column. columns_of g power (drop (k + 1) rows) ▸ λ columns. Ok (column ∷ columns)) ▸ λ rest. Ok (done ++ rest)) h
    ∙ one_more done column (columns_of g power (drop (k + 1) rows))

pub rows_stop : (g : Game) (power : Bool) (rows : List TableRow) (done : List (List (GoodId × Fraction))) (k : ℕ) (row : TableRow) (fault : Denied TableFault) (r : Result (List (List (GoodId × Fraction))) (Denied TableFault))
    → columns_of g power rows ≡ (columns_of g power (drop k rows) ▸ λ rest. Ok (done ++ rest)) → drop k rows ≡ row ∷ drop (k + 1) rows
    → IsRefused (of_row row (column_of g power row.setup)) fault → r ≡ Err fault → Gives (columns_of g power rows) r
unfolding columns_of
rows_stop g power rows done k row fault r whole at h e =
    subst (λ (o : Result (List (List (GoodId × Fraction))) (Denied TableFault)). Gives (columns_of g power rows) o) (sym e)
    (λ refusal is.
    whole ∙ ap (λ (rs : List TableRow). columns_of g power rs ▸ λ rest. Ok (done ++ rest)) at
    ∙ ap (λ (r : Result (List (GoodId × Fraction)) TableFault). (r ▸ λ column. columns_of g power (drop (k + 1) rows) ▸ λ columns. Ok (column ∷ columns)) ▸ λ rest. Ok (done ++ rest)) (h refusal is))

pub rows_end : (g : Game) (power : Bool) (rows : List TableRow) (done : List (List (GoodId × Fraction))) (k : ℕ) → length rows ≤ k → (columns_of g power (drop k rows) ▸ λ rest. Ok (done ++ rest)) ≡ Ok done
unfolding columns_of
rows_end g power rows done k end =
    ap (λ (rs : List TableRow). columns_of g power rs ▸ λ rest. Ok (done ++ rest)) (drop_all rows k end) ∙ ap (λ (cs : List (List (GoodId × Fraction))). Ok cs) (append_none done)

-- ---- a loop that makes one of each
pub made_on : {X Y : Type 0} (f : X → Y) (done : List Y) (xs : List X) (k : ℕ) (x : X) (y : Y) → drop k xs ≡ x ∷ drop (k + 1) xs → y ≡ f x → done ++ map f (drop k xs) ≡ (done ++ y ∷ []) ++ map f (drop (k + 1) xs)
made_on {X} {Y} f done xs k x y at e =
    ap (λ (ys : List X). done ++ map f ys) at ∙ ap (λ (z : Y). done ++ z ∷ map f (drop (k + 1) xs)) (sym e) ∙ sym (append_assoc done (y ∷ []) (map f (drop (k + 1) xs)))

pub made_end : {X Y : Type 0} (f : X → Y) (done : List Y) (xs : List X) (k : ℕ) → length xs ≤ k → done ++ map f (drop k xs) ≡ done
made_end {X} {Y} f done xs k end = ap (λ (ys : List X). done ++ map f ys) (drop_all xs k end) ∙ append_none done

-- ---- the figures of rows
-- those of the rows before the k-th are at hand
abbrev pub HasFiguresTo : Game → List TableRow → ℕ → List (Effects × Rates × Fraction) → Type 0
HasFiguresTo g rows k done = map (figures_of_row g) rows ≡ map Ok done ++ map (figures_of_row g) (drop k rows)

pub figures_on : (g : Game) (rows : List TableRow) (done more : List (Effects × Rates × Fraction)) (k : ℕ) (row : TableRow) (one : Effects × Rates × Fraction) → drop k rows ≡ row ∷ drop (k + 1) rows
    → figures_of g row.setup ≡ Ok one → more ≡ done ++ one ∷ [] → HasFiguresTo g rows k done → HasFiguresTo g rows (k + 1) more
figures_on g rows done more k row one at is new had =
    had ∙ made_on (figures_of_row g) (map Ok done) rows k row (Ok one) at (sym is)
    ∙ ap (λ (fine : List (Result (Effects × Rates × Fraction) Wide)). fine ++ map (figures_of_row g) (drop (k + 1) rows))
    (sym (ap (λ (all : List (Effects × Rates × Fraction)). map Ok all) new ∙ map-append Ok done (one ∷ [])))

pub figures_end : (g : Game) (rows : List TableRow) (done all : List (Effects × Rates × Fraction)) (k : ℕ) → length rows ≤ k → all ≡ done → HasFiguresTo g rows k done → HasFigures g rows all
figures_end g rows done all k end e had =
    had ∙ made_end (figures_of_row g) (map Ok done) rows k end ∙ ap (λ (all : List (Effects × Rates × Fraction)). map Ok all) (sym e)

-- ---- the columns of rows, made
pub lines_on : (goods : List GoodId) (done : List LinearColumn) (rows : List TableRow) (columns : List (List (GoodId × Fraction))) (k : ℕ) (row : TableRow) (column : List (GoodId × Fraction)) (one : LinearColumn)
    → drop k rows ≡ row ∷ drop (k + 1) rows → drop k columns ≡ column ∷ drop (k + 1) columns → one ≡ row_column goods k row column
    → done ++ row_columns goods k (drop k rows) (drop k columns) ≡ (done ++ one ∷ []) ++ row_columns goods (k + 1) (drop (k + 1) rows) (drop (k + 1) columns)
unfolding row_columns
lines_on goods done rows columns k row column one at other e =
    ap (λ (rs : List TableRow). done ++ row_columns goods k rs (drop k columns)) at
    ∙ ap (λ (cs : List (List (GoodId × Fraction))). done ++ row_columns goods k (row ∷ drop (k + 1) rows) cs) other
    ∙ ap (λ (c : LinearColumn). done ++ c ∷ row_columns goods (k + 1) (drop (k + 1) rows) (drop (k + 1) columns)) (sym e)
    ∙ sym (append_assoc done (one ∷ []) (row_columns goods (k + 1) (drop (k + 1) rows) (drop (k + 1) columns)))

pub lines_end : (goods : List GoodId) (done : List LinearColumn) (rows : List TableRow) (columns : List (List (GoodId × Fraction))) (k : ℕ) → length rows ≤ k → done ++ row_columns goods k (drop k rows) (drop k columns) ≡ done
unfolding row_columns
lines_end goods done rows columns k end = ap (λ (rs : List TableRow). done ++ row_columns goods k rs (drop k columns)) (drop_all rows k end) ∙ append_none done

-- as many columns as rows
count_cases : (g : Game) (power : Bool) (rows : List TableRow) (columns : List (List (GoodId × Fraction))) (r : Result (List (GoodId × Fraction)) TableFault) (s : Result (List (List (GoodId × Fraction))) TableFault)
    → ((cs : List (List (GoodId × Fraction))) → s ≡ Ok cs → length cs ≡ length rows) → (r ▸ λ column. s ▸ λ rest. Ok (column ∷ rest)) ≡ Ok columns → length columns ≡ length rows + 1
count_cases g power rows columns (Ok column) (Ok rest) h e =
    let same : column ∷ rest ≡ columns = cc in
    let count : length rest ≡ length rows = h rest refl in
    sym (ap (λ (cs : List (List (GoodId × Fraction))). length cs) same) ∙ omega arith
count_cases g power rows columns (Ok column) (Err fault) h e = absurd (cc)
count_cases g power rows columns (Err fault) s h e = absurd (cc)

pub columns_count : (g : Game) (power : Bool) (rows : List TableRow) (columns : List (List (GoodId × Fraction))) → columns_of g power rows ≡ Ok columns → length columns ≡ length rows
unfolding columns_of
columns_count g power [] columns h = let same : [] ≡ columns = cc in sym (ap (λ (cs : List (List (GoodId × Fraction))). length cs) same)
columns_count g power (row ∷ rows) columns h =
    count_cases g power rows columns (of_row row (column_of g power row.setup)) (columns_of g power rows) (λ cs e. columns_count g power rows cs e) h ∙ omega arith
