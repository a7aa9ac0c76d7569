-- What is answered about tables.
use Rattle.std.proofs.Common.{◌≡◌, ◌∙◌, ℕ, ◌+◌, ◌<◌, ◌≤◌, List, [], ◌∷◌, length, get_or, drop, map, Some, None, Ok, Err, refl, sym, ap, subst}
use Rattle.std.specs.Prelude.{All, Bool, true, false, cond, find, Result}
use Rattle.std.proofs.lemmas.List.Elements.{All-head, All-tail}
use Rattle.plan_base.specs.declared.denied.Denied.{Denied}
use Rattle.plan_base.specs.declared.denied.Denied.TheVariants.{Refused, NoMemory}
use Rattle.plan_base.specs.Outcomes.{Gives, IsRefused}
use Rattle.plan_base.proofs.Outcomes.{refused_same}
use Rattle.linear_table.specs.declared.Linear.{Linear}
use Rattle.linear_table.specs.declared.LinearColumn.{LinearColumn}
use Rattle.fractions.specs.Fraction.{Fraction}
use Rattle.game_types.specs.declared.effects.Effects.{Effects}
use Rattle.game_types.specs.declared.effects.Rates.{Rates}
use Rattle.game_types.specs.declared.effects.Wide.{Wide}
use Rattle.game_types.specs.declared.games.Game.{Game}
use Rattle.game_types.specs.Steps.{◌▸◌}
use Rattle.game_types.proofs.Walks.{next as next_of, drop_all}
use Rattle.production_table.specs.declared.faults.TableFault.{TableFault}
use Rattle.production_table.specs.declared.tables.Table.{Table}
use Rattle.production_table.specs.declared.tables.TableRow.{TableRow}
use Rattle.production_table.specs.Linear.{HasFigures}
use Rattle.production_table.specs.Tables.{labels_of}
use Rattle.plan_lines.specs.declared.reply.Reply.{Reply}
use Rattle.table_rows.specs.declared.refusals.TableRefusal.{TableRefusal}
use Rattle.planner_tables.specs.Causes.{cause, caused, denied_as}
use Rattle.planner_tables.specs.Effects.{table_at, table_named}
use Rattle.planner_tables.specs.Questions.{column_names, rate_outcome, row_rates_outcome, IsSolved, IsSolvedWhere, IsSolvedWith, IsSolveReply, IsSolveReplyAt, linear_named, linear_outcome}
use Rattle.table_rows.specs.Refusals.{refused}

-- ---- labels
pub labels_next : (rows : List TableRow) (k : ℕ) (row : TableRow) → k < length rows → row ≡ get_or rows k row → labels_of (drop k rows) ≡ row.label ∷ labels_of (drop (k + 1) rows)
labels_next rows k row h e = ap labels_of (next_of rows k row h e)

pub labels_end : (rows : List TableRow) (k : ℕ) → length rows ≤ k → labels_of (drop k rows) ≡ []
labels_end rows k h = ap labels_of (drop_all rows k h)

-- ---- names of columns
pub names_next : (columns : List LinearColumn) (k : ℕ) (column : LinearColumn) → k < length columns → column ≡ get_or columns k column → column_names (drop k columns) ≡ column.column ∷ column_names (drop (k + 1) columns)
names_next columns k column h e = ap column_names (next_of columns k column h e)

pub names_end : (columns : List LinearColumn) (k : ℕ) → length columns ≤ k → column_names (drop k columns) ≡ []
names_end columns k h = ap column_names (drop_all columns k h)

-- ---- the rates of a row
pub found_all : {A : Type 0} (P : A → Type 0) (p : A → Bool) (xs : List A) (x : A) → find p xs ≡ Some x → All P xs → P x
found_all P p [] x h hs = absurd (cc)
found_all P p (y ∷ ys) x h hs = by_test (p y) (λ e. found_all P p ys x e (All-tail P y ys hs)) h
  where
    by_test : (b : Bool) → (find p ys ≡ Some x → P x) → cond b (Some y) (find p ys) ≡ Some x → P x
    by_test true rest e = let same : y ≡ x = cc in subst P same (All-head P y ys hs)
    by_test false rest e = rest e

pub rate_at : (g : Game) (ts : List Table) (name label : List ℕ) (place : ℕ) (t : Table) → table_named ts name ≡ Ok place → table_at ts place ≡ t → rate_outcome g ts name label ≡ row_rates_outcome g t label
unfolding rate_outcome
rate_at g ts name label place t h e =
    ap (λ (o : Result ℕ TableRefusal). o ▸ λ p. row_rates_outcome g (table_at ts p) label) h ∙ ap (λ (x : Table). row_rates_outcome g x label) e

-- ---- solving
pub solve_refused : (g : Game) (ts : List Table) (name : List ℕ) (budget : ℕ) (refusal : TableRefusal) (r : Reply) → table_named ts name ≡ Err refusal → r ≡ refused g refusal None → IsSolveReply g ts name budget r
unfolding IsSolveReply
solve_refused g ts name budget refusal r h e = subst (λ (o : Result ℕ TableRefusal). IsSolveReplyAt g ts budget o r) (sym h) e

pub solve_asked : (g : Game) (ts : List Table) (name : List ℕ) (budget place : ℕ) (t : Table) (r : Reply) → table_named ts name ≡ Ok place → table_at ts place ≡ t → IsSolvedWhere g t budget (linear_outcome g t) r → IsSolveReply g ts name budget r
unfolding IsSolveReply
solve_asked g ts name budget place t r h e s =
    subst (λ (o : Result ℕ TableRefusal). IsSolveReplyAt g ts budget o r) (sym h)
    (subst (λ (x : Table). IsSolvedWhere g x budget (linear_outcome g x) r) (sym e) s)

-- what the solver says with figures at hand that are the rows' own
pub solved_known : (g : Game) (t : Table) (l : Linear) (known : List (Effects × Rates × Fraction)) (budget : ℕ) (r : Reply) → HasFigures g t.rows known → IsSolvedWith t l (map Ok known) budget r → IsSolved g t l budget r
solved_known g t l known budget r has said = subst (λ (rows : List (Result (Effects × Rates × Fraction) Wide)). IsSolvedWith t l rows budget r) (sym has) said

pub solved_where : (g : Game) (t : Table) (l : Linear) (known : List (Effects × Rates × Fraction)) (budget : ℕ) (r : Reply) → linear_outcome g t ≡ Ok l → HasFigures g t.rows known → IsSolvedWith t l (map Ok known) budget r
    → IsSolvedWhere g t budget (linear_outcome g t) r
solved_where g t l known budget r is has said = subst (λ (o : Result Linear TableRefusal). IsSolvedWhere g t budget o r) (sym is) (solved_known g t l known budget r has said)

pub linear_refused : (g : Game) (ts : List Table) (name : List ℕ) (fault : Denied TableRefusal) → Gives (table_named ts name) (Err fault) → Gives (linear_named g ts name) (Err fault)
unfolding linear_named
linear_refused g ts name fault given = λ refusal is. ap (λ (o : Result ℕ TableRefusal). o ▸ λ place. linear_outcome g (table_at ts place)) (given refusal is)

pub linear_asked : (g : Game) (ts : List Table) (name : List ℕ) (place : ℕ) (t : Table) (r : Result Linear (Denied TableRefusal)) → table_named ts name ≡ Ok place → table_at ts place ≡ t → Gives (linear_outcome g t) r → Gives (linear_named g ts name) r
unfolding linear_named
linear_asked g ts name place t r h e given =
    subst (λ (o : Result ℕ TableRefusal). Gives (o ▸ λ p. linear_outcome g (table_at ts p)) r) (sym h)
    (subst (λ (x : Table). Gives (linear_outcome g x) r) (sym e) given)

-- a linear form that is refused
pub caused_as : {A : Type 0} (meant : Result A TableFault) (unknown refusal : TableRefusal) (fault : Denied TableFault) → IsRefused meant fault → denied_as unknown fault ≡ Refused refusal → caused unknown meant ≡ Err refusal
caused_as meant unknown refusal (Refused fault) h k = ap (caused unknown) (h fault refl) ∙ ap Err (refused_same (cause unknown fault) refusal k)
caused_as meant unknown refusal NoMemory h k = absurd cc
