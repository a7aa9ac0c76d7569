-- Changes of a book and its tables, one after another, and back.
use Rattle.std.proofs.Common.{◌≡◌, ◌∙◌, ℕ, ◌+◌, ◌<◌, ◌≤◌, ◌||◌, ◌&&◌, zero, suc, Bool, false, true, List, [], ◌∷◌, ◌++◌, Option, None, Some, Result, Ok, Err, length, get_or, drop, refl, sym, ap, subst, arith}
use Rattle.std.specs.List.{list_all, list_any}
use Rattle.std.proofs.lemmas.List.{append_assoc, append-nil, drop_all, drop_more}
use Rattle.std.proofs.lemmas.Bool.{or_parts}
use Rattle.plan_base.specs.declared.ids.NodeId.{NodeId}
use Rattle.plan_base.specs.declared.shape.Shape.{Shape}
use Rattle.graph_store.specs.Rows.{has_node}
use Rattle.game_types.specs.Nodes.{shape_of}
use Rattle.game_types.specs.declared.games.Game.{Game}
use Rattle.data_edit.specs.declared.books.Book.{Book}
use Rattle.data_edit.specs.declared.edits.Edit.{Edit}
use Rattle.data_edit.specs.declared.edits.Edit.TheVariants as edit
use Rattle.data_edit.specs.declared.edits.EditFault.{EditFault}
use Rattle.data_edit.specs.declared.parts.Inverse.{Inverse}
use Rattle.data_edit.specs.Books.{IsSoundBook}
use Rattle.data_edit.specs.Edits.{effect}
use Rattle.data_edit.specs.Names.{KeepsNames}
use Rattle.data_edit.proofs.EffectLaw.{effect_law}
use Rattle.data_edit.proofs.NamesKept.{edit_keeps}
use Rattle.depend_rows.specs.Touched.{touched_by, StaysAs}
use Rattle.depend_index.specs.Alike.{AlikeBut}
use Rattle.depend_rows.proofs.AlikeLaw.{alike_law}
use Rattle.depend_index.proofs.AlikeLemmas.{alike_more, alike_same}
use Rattle.depend_rows.proofs.TouchLemmas.{touches_all}
use Rattle.edit_undo.specs.Edits.{apply_edits, apply_from, then_apply}
use Rattle.plan_lines.specs.declared.change.Change.{Change}
use Rattle.plan_lines.specs.declared.change.Change.TheVariants.{Grant, Revoke, Forbid, Permit, Milestone, Unmilestone, Ingredient, Product, Unlock, Time, Enabled, Table, Untable, Row, Unrow, Price, Want, Import, Surplus, Power}
use Rattle.production_table.specs.declared.tables.Table.{Table as ProductionTable}
use Rattle.production_table.specs.Tables.{IsOfGame}
use Rattle.table_rows.specs.declared.refusals.TableRefusal.{TableRefusal}
use Rattle.planner_tables.specs.declared.undos.TableUndo.{TableUndo}
use Rattle.planner_tables.specs.Effects.{AreSoundTables, IsSoundOn, is_of_tables, tables_effect}
use Rattle.planner_tables.specs.Undoing.{tables_restored}
use Rattle.production_table.proofs.Edited.{edit_kept, goods_kept}
use Rattle.state_changes.specs.declared.refusals.Refusal.{Refusal}
use Rattle.state_changes.specs.declared.refusals.Refusal.TheVariants.{OfEdit, OfTables}
use Rattle.state_changes.specs.declared.undos.Undo.{Undo}
use Rattle.state_changes.specs.declared.undos.Undo.TheVariants.{Part, OfTables as TablesUndo}
use Rattle.state_changes.specs.Actions.{◌▸◌, can_be_held, edit_named, good_named, ingredient_edit, node_named, product_edit, recipe_named, tech_named, edit_and, edits_named}
use Rattle.state_changes.specs.States.{State, state_of}
use Rattle.state_changes.specs.Effects.{book_effect, edited, effect_of, table_effect, with_book, with_tables}
use Rattle.state_changes.specs.Undoing.{all_restored, all_tables_restored, part_restored, table_part_restored}
use Rattle.state_changes.specs.Books.{Applies, AppliesNext, AppliesOne, RestoresPart, RestoresTables, is_of_mark, is_part_undo, is_touched}
use Rattle.state_changes.proofs.NameLemmas.{edits-same}

-- ---- one change
pub effect-book : (s : State) (change : Change) → can_be_held change ≡ true → is_of_tables change ≡ false → effect_of s change ≡ book_effect s change
unfolding effect_of
effect-book s (Grant object) h t = refl
effect-book s (Revoke object) h t = refl
effect-book s (Forbid object) h t = refl
effect-book s (Permit object) h t = refl
effect-book s (Milestone object) h t = absurd cc
effect-book s (Unmilestone object) h t = absurd cc
effect-book s (Ingredient recipe good amount) h t = refl
effect-book s (Product recipe good amount) h t = refl
effect-book s (Unlock tech recipe on) h t = refl
effect-book s (Time recipe seconds) h t = refl
effect-book s (Enabled recipe on) h t = refl
effect-book s (Table table) h t = absurd cc
effect-book s (Untable table) h t = absurd cc
effect-book s (Row table label activity machine parts) h t = absurd cc
effect-book s (Unrow table label) h t = absurd cc
effect-book s (Price table label price) h t = absurd cc
effect-book s (Want table good amount) h t = absurd cc
effect-book s (Import table good price) h t = absurd cc
effect-book s (Surplus table good price) h t = absurd cc
effect-book s (Power table on) h t = absurd cc

pub effect-tables : (s : State) (change : Change) → is_of_tables change ≡ true → effect_of s change ≡ table_effect s change
unfolding effect_of
effect-tables s (Grant object) t = absurd cc
effect-tables s (Revoke object) t = absurd cc
effect-tables s (Forbid object) t = absurd cc
effect-tables s (Permit object) t = absurd cc
effect-tables s (Milestone object) t = absurd cc
effect-tables s (Unmilestone object) t = absurd cc
effect-tables s (Ingredient recipe good amount) t = absurd cc
effect-tables s (Product recipe good amount) t = absurd cc
effect-tables s (Unlock tech recipe on) t = absurd cc
effect-tables s (Time recipe seconds) t = absurd cc
effect-tables s (Enabled recipe on) t = absurd cc
effect-tables s (Table table) t = refl
effect-tables s (Untable table) t = refl
effect-tables s (Row table label activity machine parts) t = refl
effect-tables s (Unrow table label) t = refl
effect-tables s (Price table label price) t = refl
effect-tables s (Want table good amount) t = refl
effect-tables s (Import table good price) t = refl
effect-tables s (Surplus table good price) t = refl
effect-tables s (Power table on) t = refl

-- a change of the tables asks for no edit of the book, and one of the book does
pub no-edit : (g : Game) (change : Change) → is_of_tables change ≡ true → edit_named g change ≡ Ok None
unfolding edit_named
no-edit g (Grant object) t = absurd cc
no-edit g (Revoke object) t = absurd cc
no-edit g (Forbid object) t = absurd cc
no-edit g (Permit object) t = absurd cc
no-edit g (Milestone object) t = absurd cc
no-edit g (Unmilestone object) t = absurd cc
no-edit g (Ingredient recipe good amount) t = absurd cc
no-edit g (Product recipe good amount) t = absurd cc
no-edit g (Unlock tech recipe on) t = absurd cc
no-edit g (Time recipe seconds) t = absurd cc
no-edit g (Enabled recipe on) t = absurd cc
no-edit g (Table table) t = refl
no-edit g (Untable table) t = refl
no-edit g (Row table label activity machine parts) t = refl
no-edit g (Unrow table label) t = refl
no-edit g (Price table label price) t = refl
no-edit g (Want table good amount) t = refl
no-edit g (Import table good price) t = refl
no-edit g (Surplus table good price) t = refl
no-edit g (Power table on) t = refl

asks-one : {A : Type 0} (o : Result A Refusal) (f : A → Edit) → (o ▸ λ a. Ok (Some (f a))) ≡ Ok None → ⊥
asks-one (Ok a) f e = absurd cc
asks-one (Err refusal) f e = absurd cc

asks-two : {A B : Type 0} (o : Result A Refusal) (p : Result B Refusal) (f : A → B → Edit) → (o ▸ λ a. p ▸ λ b. Ok (Some (f a b))) ≡ Ok None → ⊥
asks-two (Ok a) p f e = asks-one p (f a) e
asks-two (Err refusal) p f e = absurd cc

pub asks-edit : (g : Game) (change : Change) → can_be_held change ≡ true → is_of_tables change ≡ false → edit_named g change ≡ Ok None → ⊥
unfolding edit_named
asks-edit g (Grant object) h t e = asks-one (node_named g object) (λ node. edit.Grant node) e
asks-edit g (Revoke object) h t e = asks-one (node_named g object) (λ node. edit.Revoke node) e
asks-edit g (Forbid object) h t e = asks-one (node_named g object) (λ node. edit.Forbid node) e
asks-edit g (Permit object) h t e = asks-one (node_named g object) (λ node. edit.Permit node) e
asks-edit g (Ingredient recipe good amount) h t e = asks-two (recipe_named g recipe) (good_named g good) (λ r x. ingredient_edit r x amount) e
asks-edit g (Product recipe good amount) h t e = asks-two (recipe_named g recipe) (good_named g good) (λ r x. product_edit r x amount) e
asks-edit g (Unlock tech recipe on) h t e = asks-two (tech_named g tech) (recipe_named g recipe) (λ u r. edit.SetUnlock u r on) e
asks-edit g (Time recipe seconds) h t e = asks-one (recipe_named g recipe) (λ r. edit.SetTime r seconds) e
asks-edit g (Enabled recipe on) h t e = asks-one (recipe_named g recipe) (λ r. edit.SetEnabled r on) e
asks-edit g (Milestone object) h t e = absurd cc
asks-edit g (Unmilestone object) h t e = absurd cc
asks-edit g (Table table) h t e = absurd cc
asks-edit g (Untable table) h t e = absurd cc
asks-edit g (Row table label activity machine parts) h t e = absurd cc
asks-edit g (Unrow table label) h t e = absurd cc
asks-edit g (Price table label price) h t e = absurd cc
asks-edit g (Want table good amount) h t e = absurd cc
asks-edit g (Import table good price) h t e = absurd cc
asks-edit g (Surplus table good price) h t e = absurd cc
asks-edit g (Power table on) h t e = absurd cc

module _ (book : Book) (milestones : List NodeId) (tables : List ProductionTable) (change : Change) where
  pub refused-name : (refusal : Refusal) → can_be_held change ≡ true → is_of_tables change ≡ false → edit_named book.game change ≡ Err refusal → effect_of (state_of book milestones tables) change ≡ Err refusal
  refused-name refusal h t e =
      effect-book (state_of book milestones tables) change h t ∙ ap (λ (o : Result (Option Edit) Refusal). o ▸ edited (state_of book milestones tables)) e

  pub refused-edit : (edit : Edit) (fault : EditFault) → can_be_held change ≡ true → is_of_tables change ≡ false → edit_named book.game change ≡ Ok (Some edit) → effect edit book ≡ Err fault → effect_of (state_of book milestones tables) change ≡ Err (OfEdit fault)
  refused-edit edit fault h t e f =
      effect-book (state_of book milestones tables) change h t
      ∙ (ap (λ (o : Result (Option Edit) Refusal). o ▸ edited (state_of book milestones tables)) e ∙ ap (with_book (state_of book milestones tables)) f)

  pub accepted-edit : (after : Book) (edit : Edit) → can_be_held change ≡ true → is_of_tables change ≡ false → edit_named book.game change ≡ Ok (Some edit) → effect edit book ≡ Ok after → effect_of (state_of book milestones tables) change ≡ Ok (state_of after milestones tables)
  accepted-edit after edit h t e f =
      effect-book (state_of book milestones tables) change h t
      ∙ (ap (λ (o : Result (Option Edit) Refusal). o ▸ edited (state_of book milestones tables)) e ∙ ap (with_book (state_of book milestones tables)) f)

  pub refused-tables : (refusal : TableRefusal) → is_of_tables change ≡ true → tables_effect book.game tables change ≡ Err refusal → effect_of (state_of book milestones tables) change ≡ Err (OfTables refusal)
  refused-tables refusal t e = effect-tables (state_of book milestones tables) change t ∙ ap (with_tables (state_of book milestones tables)) e

  pub accepted-tables : (left : List ProductionTable) → is_of_tables change ≡ true → tables_effect book.game tables change ≡ Ok left → effect_of (state_of book milestones tables) change ≡ Ok (state_of book milestones left)
  accepted-tables left t e = effect-tables (state_of book milestones tables) change t ∙ ap (with_tables (state_of book milestones tables)) e

-- ---- tables on a game that is edited
sound-on : (edit : Edit) (old new : Book) (t : ProductionTable) → effect edit old ≡ Ok new → IsSoundOn old.game t → IsSoundOn new.game t
sound-on edit old new t e on =
    let own : IsOfGame old.game t = record { wants = on.goods.wants; imports = on.goods.imports; surpluses = on.goods.surpluses } in
    let kept : IsOfGame new.game t = goods_kept edit old new t e own in
    record {
      table = on.table;
      goods = record { wants = kept.wants; imports = kept.imports; surpluses = kept.surpluses };
      rows = λ k d inside. edit_kept edit old new (get_or t.rows k d).setup e (on.rows k d inside);
    }

tables-kept : (edit : Edit) (old new : Book) (tables : List ProductionTable) → effect edit old ≡ Ok new → AreSoundTables old.game tables → AreSoundTables new.game tables
tables-kept edit old new tables e sound = record {
  names = sound.names;
  few = sound.few;
  each = λ k d inside. sound-on edit old new (get_or tables k d) e (sound.each k d inside);
}

-- ---- names
pub names-refl : (g : Game) → KeepsNames g g
names-refl g = record { shape = refl; names = λ kind. refl }

pub names-trans : (g h k : Game) → KeepsNames g h → KeepsNames h k → KeepsNames g k
names-trans g h k a b = record { shape = b.shape ∙ a.shape; names = λ kind. b.names kind ∙ a.names kind }

pub names-sym : (g h : Game) → KeepsNames g h → KeepsNames h g
names-sym g h a = record { shape = sym a.shape; names = λ kind. sym (a.names kind) }

-- ---- what stays
pub stays-refl : (book : Book) (n : ℕ) → StaysAs book book n
stays-refl book n = record { row = refl; barred = refl; granted = refl }

pub stays-trans : (a b c : Book) (n : ℕ) → StaysAs a b n → StaysAs b c n → StaysAs a c n
stays-trans a b c n x y = record { row = y.row ∙ x.row; barred = y.barred ∙ x.barred; granted = y.granted ∙ x.granted }

pub stays-sym : (a b : Book) (n : ℕ) → StaysAs a b n → StaysAs b a n
stays-sym a b n x = record { row = sym x.row; barred = sym x.barred; granted = sym x.granted }

any-append : {A : Type 0} (test : A → Bool) (xs ys : List A) → list_any test (xs ++ ys) ≡ (list_any test xs || list_any test ys)
any-append test [] ys = refl
any-append test (x ∷ xs) ys = elim (test x) as (λ b. (b || list_any test (xs ++ ys)) ≡ ((b || list_any test xs) || list_any test ys)) [ true ↦ refl | false ↦ any-append test xs ys ]

all-append : {A : Type 0} (test : A → Bool) (xs ys : List A) → list_all test xs ≡ true → list_all test ys ≡ true → list_all test (xs ++ ys) ≡ true
all-append test [] ys a b = b
all-append test (x ∷ xs) ys a b =
    let parts : (test x ≡ true) × (list_all test xs ≡ true) = both (test x) (list_all test xs) a in
    ap (λ c. c && list_all test (xs ++ ys)) parts.0 ∙ all-append test xs ys parts.1 b
  where
    both : (a b : Bool) → (a && b) ≡ true → (a ≡ true) × (b ≡ true)
    both true true e = (refl, refl)
    both true false e = absurd cc
    both false b e = absurd cc

pub all-at : {A : Type 0} (test : A → Bool) (xs : List A) (i : ℕ) (d : A) → i < length xs → list_all test xs ≡ true → test (get_or xs i d) ≡ true
all-at test [] i d inside a = absurd (omega (arith, inside))
all-at test (x ∷ xs) zero d inside a = both (test x) (list_all test xs) a
  where
    both : (a b : Bool) → (a && b) ≡ true → a ≡ true
    both true b e = refl
    both false b e = absurd cc
all-at test (x ∷ xs) (suc i) d inside a = all-at test xs i d (omega (arith, inside)) (both (test x) (list_all test xs) a)
  where
    both : (a b : Bool) → (a && b) ≡ true → b ≡ true
    both true b e = e
    both false b e = absurd cc

-- ---- marks leave the game as it was
pub marks-game : (edit : Edit) (old new : Book) → effect edit old ≡ Ok new → is_of_mark edit ≡ true → new.game ≡ old.game
marks-game (edit.SetIngredient recipe good amount) old new e h = absurd cc
marks-game (edit.DropIngredient recipe good) old new e h = absurd cc
marks-game (edit.SetProduct recipe good amount) old new e h = absurd cc
marks-game (edit.DropProduct recipe good) old new e h = absurd cc
marks-game (edit.SetUnlock tech recipe on) old new e h = absurd cc
marks-game (edit.SetTime recipe time) old new e h = absurd cc
marks-game (edit.SetEnabled recipe on) old new e h = absurd cc
marks-game (edit.Forbid node) old new e h = ap (λ (b : Book). b.game) ((effect_law (edit.Forbid node) old).0 new e).0
marks-game (edit.Permit node) old new e h = ap (λ (b : Book). b.game) ((effect_law (edit.Permit node) old).0 new e).0
marks-game (edit.Grant node) old new e h = ap (λ (b : Book). b.game) ((effect_law (edit.Grant node) old).0 new e).0
marks-game (edit.Revoke node) old new e h = ap (λ (b : Book). b.game) ((effect_law (edit.Revoke node) old).0 new e).0

pub all-parts : {A : Type 0} (test : A → Bool) (xs ys : List A) → list_all test (xs ++ ys) ≡ true → (list_all test xs ≡ true) × (list_all test ys ≡ true)
all-parts test [] ys e = (refl, e)
all-parts test (x ∷ xs) ys e =
    let parts : (test x ≡ true) × (list_all test (xs ++ ys) ≡ true) = both (test x) (list_all test (xs ++ ys)) e in
    let rest : (list_all test xs ≡ true) × (list_all test ys ≡ true) = all-parts test xs ys parts.1 in
    (ap (λ c. c && list_all test xs) parts.0 ∙ rest.0, rest.1)
  where
    both : (a b : Bool) → (a && b) ≡ true → (a ≡ true) × (b ≡ true)
    both true true e = (refl, refl)
    both true false e = absurd cc
    both false b e = absurd cc

pub one-mark : (old : Book) (change : Change) (edit : Edit) → edit_named old.game change ≡ Ok (Some edit) → list_all is_of_mark (edits_named old.game (change ∷ [])) ≡ true → is_of_mark edit ≡ true
one-mark old change edit named e = first (is_of_mark edit) (ap (λ (o : Result (Option Edit) Refusal). list_all is_of_mark (edit_and o [])) (sym named) ∙ e)
  where
    first : (b : Bool) → (b && true) ≡ true → b ≡ true
    first true e = refl
    first false e = absurd cc

-- ---- parts put back
pub restored-push : (undos : List Undo) (undo : Undo) (book : Book) → all_restored (undos ++ undo ∷ []) book ≡ all_restored undos (part_restored undo book)
restored-push [] undo book = refl
restored-push (first ∷ undos) undo book = ap (part_restored first) (restored-push undos undo book)

pub tables-push : (undos : List Undo) (undo : Undo) (tables : List ProductionTable) → all_tables_restored (undos ++ undo ∷ []) tables ≡ all_tables_restored undos (table_part_restored undo tables)
tables-push [] undo tables = refl
tables-push (first ∷ undos) undo tables = ap (table_part_restored first) (tables-push undos undo tables)

pub restored-more : (undos : List Undo) (i : ℕ) (d : Undo) (old book new : Book) → i < length undos → book ≡ all_restored (drop (i + 1) undos) old → new ≡ part_restored (get_or undos i d) book → new ≡ all_restored (drop i undos) old
restored-more undos i d old book new inside e f =
    f ∙ (ap (part_restored (get_or undos i d)) e ∙ sym (ap (λ us. all_restored us old) (drop_more undos i d inside)))

pub tables-more : (undos : List Undo) (i : ℕ) (d : Undo) (old tables new : List ProductionTable) → i < length undos → tables ≡ all_tables_restored (drop (i + 1) undos) old → new ≡ table_part_restored (get_or undos i d) tables → new ≡ all_tables_restored (drop i undos) old
tables-more undos i d old tables new inside e f =
    f ∙ (ap (table_part_restored (get_or undos i d)) e ∙ sym (ap (λ us. all_tables_restored us old) (drop_more undos i d inside)))

-- ---- one more change
pub untouched-more : (old : Book) (edits more : List Edit) (n : ℕ) → is_touched old (edits ++ more) n ≡ false → (is_touched old edits n ≡ false) × (is_touched old more n ≡ false)
untouched-more old edits more n e =
    or_parts (is_touched old edits n) (is_touched old more n) (sym (any-append (λ edit. has_node (touched_by (shape_of old.game) edit) n) edits more) ∙ e)

pub untouched-one : (old : Book) (change : Change) (edit : Edit) (n : ℕ) → edit_named old.game change ≡ Ok (Some edit) → is_touched old (edits_named old.game (change ∷ [])) n ≡ false → has_node (touched_by (shape_of old.game) edit) n ≡ false
untouched-one old change edit n named e =
    (or_parts (has_node (touched_by (shape_of old.game) edit) n) false (ap (λ (o : Result (Option Edit) Refusal). is_touched old (edit_and o []) n) (sym named) ∙ e)).0

pub next-book : (old new : Book) (tables : List ProductionTable) (change : Change) (edits more_edits : List Edit) (undos more_undos : List Undo) (edit : Edit) (part : Inverse)
    → can_be_held change ≡ true → is_of_tables change ≡ false → AppliesOne old change edit part new → more_edits ≡ edits ++ edit ∷ [] → more_undos ≡ undos ++ Part part ∷ [] → AreSoundTables old.game tables
    → AppliesNext old tables change edits undos new tables more_edits more_undos
next-book old new tables change edits more_edits undos more_undos edit part held of_book one e f fit = record {
  accepted = λ milestones. accepted-edit old milestones tables change new edit held of_book one.named one.effect_is;
  sound = one.sound;
  fit = tables-kept edit old new tables one.effect_is fit;
  names = edit_keeps edit old new one.effect_is;
  edits_are = e ∙ ap (λ (o : Result (Option Edit) Refusal). edits ++ edit_and o []) (sym one.named);
  parts = λ all. ap (list_all is_part_undo) f ∙ all-append is_part_undo undos (Part part ∷ []) all refl;
  back = ap (λ l. all_restored l new) f ∙ (restored-push undos (Part part) new ∙ ap (all_restored undos) one.back);
  tables_back = ap (λ l. all_tables_restored l tables) f ∙ tables-push undos (Part part) tables;
  stays = λ n untouched. touches_all edit old new one.effect_is n (untouched-one old change edit n one.named untouched);
  alike = subst (λ (o : Result (Option Edit) Refusal). AlikeBut (edit_and o []) old.game new.game) (sym one.named) (alike_law edit old new one.effect_is);
  game = λ marks. marks-game edit old new one.effect_is (one-mark old change edit one.named marks);
}

pub next-tables : (book : Book) (tables left : List ProductionTable) (change : Change) (edits : List Edit) (undos more_undos : List Undo) (undo : TableUndo)
    → IsSoundBook book → is_of_tables change ≡ true → tables_effect book.game tables change ≡ Ok left → tables_restored undo left ≡ tables → AreSoundTables book.game left → more_undos ≡ undos ++ TablesUndo undo ∷ []
    → AppliesNext book tables change edits undos book left edits more_undos
next-tables book tables left change edits undos more_undos undo sound of_tables e back fit f = record {
  accepted = λ milestones. accepted-tables book milestones tables change left of_tables e;
  sound = sound;
  fit = fit;
  names = names-refl book.game;
  edits_are = sym (append-nil edits) ∙ ap (λ (o : Result (Option Edit) Refusal). edits ++ edit_and o []) (sym (no-edit book.game change of_tables));
  parts = λ all. ap (list_all is_part_undo) f ∙ all-append is_part_undo undos (TablesUndo undo ∷ []) all refl;
  back = ap (λ l. all_restored l book) f ∙ restored-push undos (TablesUndo undo) book;
  tables_back = ap (λ l. all_tables_restored l left) f ∙ (tables-push undos (TablesUndo undo) left ∙ ap (all_tables_restored undos) back);
  stays = λ n untouched. stays-refl book n;
  alike = alike_same (edits_named book.game (change ∷ [])) book.game;
  game = λ marks. refl;
}

-- ---- several changes
pub edits-split : (o : Result (Option Edit) Refusal) (edits : List Edit) → edit_and o edits ≡ edit_and o [] ++ edits
edits-split (Ok (Some edit)) edits = refl
edits-split (Ok None) edits = refl
edits-split (Err refusal) edits = refl

edits-more : (g : Game) (changes : List Change) (i : ℕ) (d : Change) → i < length changes → edits_named g (drop i changes) ≡ edits_named g (get_or changes i d ∷ []) ++ edits_named g (drop (i + 1) changes)
edits-more g changes i d inside =
    ap (edits_named g) (drop_more changes i d inside) ∙ edits-split (edit_named g (get_or changes i d)) (edits_named g (drop (i + 1) changes))

one-accepted : (s t : State) (i : ℕ) (changes : List Change) (d : Change) → i < length changes → effect_of s (get_or changes i d) ≡ Ok t → apply_from effect_of i s (drop i changes) ≡ apply_from effect_of (i + 1) t (drop (i + 1) changes)
one-accepted s t i changes d inside e =
    ap (apply_from effect_of i s) (drop_more changes i d inside) ∙ ap (λ (r : Result State Refusal). then_apply r i (λ u. apply_from effect_of (i + 1) u (drop (i + 1) changes))) e

one-refused : (s : State) (i : ℕ) (refusal : Refusal) (changes : List Change) (d : Change) → i < length changes → effect_of s (get_or changes i d) ≡ Err refusal → apply_from effect_of i s (drop i changes) ≡ Err (i, refusal)
one-refused s i refusal changes d inside e =
    ap (apply_from effect_of i s) (drop_more changes i d inside) ∙ ap (λ (r : Result State Refusal). then_apply r i (λ u. apply_from effect_of (i + 1) u (drop (i + 1) changes))) e

-- the first changes, and what is left of them
pub record SoFar (old : Book) (stood : List ProductionTable) (changes : List Change) (i : ℕ) (edits : List Edit) (undos : List Undo) (book : Book) (tables : List ProductionTable) : Type 0 where
  pub rest : (milestones : List NodeId) → apply_from effect_of i (state_of book milestones tables) (drop i changes) ≡ apply_edits effect_of (state_of old milestones stood) changes
  pub sound : IsSoundBook book
  pub fit : AreSoundTables book.game tables
  pub names : KeepsNames old.game book.game
  pub edits_are : edits ++ edits_named old.game (drop i changes) ≡ edits_named old.game changes
  pub parts : list_all is_part_undo undos ≡ true
  pub back : all_restored undos book ≡ old
  pub tables_back : all_tables_restored undos tables ≡ stood
  pub stays : (n : ℕ) → is_touched old edits n ≡ false → StaysAs old book n
  pub alike : AlikeBut edits old.game book.game
  pub game : list_all is_of_mark edits ≡ true → book.game ≡ old.game

pub so_far-first : (old : Book) (stood : List ProductionTable) (changes : List Change) → IsSoundBook old → AreSoundTables old.game stood → SoFar old stood changes 0 [] [] old stood
so_far-first old stood changes sound fit = record {
  rest = λ milestones. refl;
  sound = sound;
  fit = fit;
  names = names-refl old.game;
  edits_are = refl;
  parts = refl;
  back = refl;
  tables_back = refl;
  stays = λ n untouched. stays-refl old n;
  alike = alike_same [] old.game;
  game = λ marks. refl;
}

pub so_far-more : (old book new : Book) (stood tables left : List ProductionTable) (changes : List Change) (i : ℕ) (d : Change) (edits more_edits : List Edit) (undos more_undos : List Undo)
    → i < length changes → AppliesNext book tables (get_or changes i d) edits undos new left more_edits more_undos
    → SoFar old stood changes i edits undos book tables → SoFar old stood changes (i + 1) more_edits more_undos new left
so_far-more old book new stood tables left changes i d edits more_edits undos more_undos inside next s = record {
  rest = λ milestones. sym (one-accepted (state_of book milestones tables) (state_of new milestones left) i changes d inside (next.accepted milestones)) ∙ s.rest milestones;
  sound = next.sound;
  fit = next.fit;
  names = names-trans old.game book.game new.game s.names next.names;
  edits_are = ap (λ l. l ++ edits_named old.game (drop (i + 1) changes)) own ∙ (append_assoc edits one (edits_named old.game (drop (i + 1) changes)) ∙ (ap (λ l. edits ++ l) (sym (edits-more old.game changes i d inside)) ∙ s.edits_are));
  parts = next.parts s.parts;
  back = next.back ∙ s.back;
  tables_back = next.tables_back ∙ s.tables_back;
  stays = λ n untouched.
      let apart : (is_touched old edits n ≡ false) × (is_touched old one n ≡ false) = untouched-more old edits one n (subst (λ l. is_touched old l n ≡ false) own untouched) in
      stays-trans old book new n (s.stays n apart.0) (next.stays n
      (ap (λ (h : Shape). list_any (λ edit. has_node (touched_by h edit) n) (edits_named book.game (get_or changes i d ∷ []))) s.names.shape
      ∙ (ap (λ es. is_touched old es n) (edits-same old.game book.game s.names (get_or changes i d ∷ [])) ∙ apart.1)));
  alike = subst (λ es. AlikeBut es old.game new.game) (sym own)
      (alike_more edits one old.game book.game new.game s.alike (subst (λ es. AlikeBut es book.game new.game) (edits-same old.game book.game s.names (get_or changes i d ∷ [])) next.alike));
  game = λ marks.
      let apart : (list_all is_of_mark edits ≡ true) × (list_all is_of_mark one ≡ true) = all-parts is_of_mark edits one (ap (list_all is_of_mark) (sym own) ∙ marks) in
      next.game (ap (list_all is_of_mark) (edits-same old.game book.game s.names (get_or changes i d ∷ [])) ∙ apart.1) ∙ s.game apart.0;
}
  where
    one : List Edit
    one = edits_named old.game (get_or changes i d ∷ [])

    own : more_edits ≡ edits ++ one
    own = next.edits_are ∙ ap (λ l. edits ++ l) (edits-same old.game book.game s.names (get_or changes i d ∷ []))

pub so_far-refused : (old book : Book) (stood tables : List ProductionTable) (changes : List Change) (i : ℕ) (d : Change) (edits : List Edit) (undos : List Undo) (refusal : Refusal) (milestones : List NodeId)
    → i < length changes → effect_of (state_of book milestones tables) (get_or changes i d) ≡ Err refusal → SoFar old stood changes i edits undos book tables
    → apply_edits effect_of (state_of old milestones stood) changes ≡ Err (i, refusal)
so_far-refused old book stood tables changes i d edits undos refusal milestones inside e s =
    sym (s.rest milestones) ∙ one-refused (state_of book milestones tables) i refusal changes d inside e

pub so_far-last : (old book : Book) (stood tables : List ProductionTable) (changes : List Change) (i : ℕ) (edits : List Edit) (undos : List Undo) → length changes ≤ i → SoFar old stood changes i edits undos book tables → Applies old stood changes edits undos book tables
so_far-last old book stood tables changes i edits undos past s =
    let none : drop i changes ≡ [] = drop_all i changes past in
    record {
      accepted = λ milestones. sym (s.rest milestones) ∙ ap (apply_from effect_of i (state_of book milestones tables)) none;
      sound = s.sound;
      fit = s.fit;
      names = s.names;
      edits_are = sym (append-nil edits) ∙ (ap (λ l. edits ++ edits_named old.game l) (sym none) ∙ s.edits_are);
      parts = s.parts;
      back = s.back;
      tables_back = s.tables_back;
      stays = s.stays;
      alike = s.alike;
      game = s.game;
    }

-- ---- a part put back, and what takes that back
pub restores-part : (undo stands : Undo) (book new : Book) (forward more : List Undo) → new ≡ part_restored undo book → part_restored stands new ≡ book → more ≡ forward ++ stands ∷ [] → RestoresPart undo book forward new more
restores-part undo stands book new forward more e f h = record {
  after = e;
  back = ap (λ l. all_restored l new) h ∙ (restored-push forward stands new ∙ ap (all_restored forward) f);
}

pub restores-tables : (undo stands : Undo) (tables new : List ProductionTable) (forward more : List Undo) → new ≡ table_part_restored undo tables → table_part_restored stands new ≡ tables → more ≡ forward ++ stands ∷ [] → RestoresTables undo tables forward new more
restores-tables undo stands tables new forward more e f h = record {
  after = e;
  back = ap (λ l. all_tables_restored l new) h ∙ (tables-push forward stands new ∙ ap (all_tables_restored forward) f);
}
