-- Entries that change the book and the tables, and how they are taken back.
use Rattle.std.proofs.Common.{◌≡◌, ◌∙◌, ℕ, ◌+◌, ◌*◌, ◌≤◌, Bool, false, true, List, [], ◌∷◌, Option, None, Some, Result, Ok, Err, refl, sym, ap, subst}
use Rattle.std.specs.List.{list_all, list_any}
use Rattle.std.proofs.lemmas.Bool.{and_parts}
use Rattle.plan_base.specs.declared.ids.NodeId.{NodeId}
use Rattle.plan_base.specs.declared.shape.Shape.{Shape}
use Rattle.graph_store.specs.declared.Row.{Row}
use Rattle.graph_store.specs.Rows.{has_node}
use Rattle.game_types.specs.Nodes.{shape_of}
use Rattle.data_edit.specs.declared.books.Book.{Book}
use Rattle.data_edit.specs.declared.edits.Edit.{Edit}
use Rattle.data_edit.specs.declared.edits.EditFault.{EditFault}
use Rattle.data_edit.specs.Edits.{effect}
use Rattle.data_edit.specs.Names.{KeepsNames}
use Rattle.data_edit.proofs.NamesKept.{edit_keeps}
use Rattle.depend_rows.specs.Rows.{rows_of}
use Rattle.depend_rows.specs.Touched.{touched_by, touched_by_all, StaysAs}
use Rattle.depend_index.specs.Alike.{AlikeBut}
use Rattle.depend_rows.proofs.AlikeLaw.{alike_law}
use Rattle.depend_index.proofs.AlikeLemmas.{alike_back, alike_more, alike_same}
use Rattle.depend_rows.proofs.TouchLemmas.{touches_all}
use Rattle.milestone_masks.specs.Worlds.{AreWorlds, Kept, milestones_of, size_of_all}
use Rattle.edit_undo.specs.Edits.{apply_from, then_apply, IsEntry, Leads}
use Rattle.plan_lines.specs.declared.change.Change.{Change}
use Rattle.state_changes.specs.declared.refusals.Refusal.{Refusal}
use Rattle.state_changes.specs.declared.undos.Undo.{Undo}
use Rattle.state_changes.specs.declared.undos.Undo.TheVariants.{Part, OfTables, Added, Taken}
use Rattle.production_table.specs.declared.tables.Table.{Table as ProductionTable}
use Rattle.table_rows.specs.declared.refusals.TableRefusal.{TableRefusal}
use Rattle.planner_tables.specs.Effects.{AreSoundTables, is_of_tables, tables_effect}
use Rattle.state_changes.specs.Actions.{◌▸◌, can_be_held, edit_named, edit_and, edits_named}
use Rattle.state_changes.specs.States.{State, state_of}
use Rattle.state_changes.specs.Effects.{edited, effect_of, is_entry, with_book, with_tables}
use Rattle.state_changes.specs.Undoing.{Fits, LeadsBack, all_restored, all_tables_restored, is_of_milestone, taken_back}
use Rattle.planning_state.specs.Work.{touched_in, work_of_book}
use Rattle.planning_state.specs.Worlds.{worlds_of, IsKept}
use Rattle.state_changes.specs.Books.{Applies, is_of_mark, is_part_undo, is_touched}
use Rattle.planning_state.specs.Books.{TakesBack}
use Rattle.planning_state.proofs.Kept.{kept-is}
use Rattle.state_changes.proofs.NameLemmas.{edits-same}
use Rattle.state_changes.proofs.Changing.{all-parts, edits-split, effect-book, effect-tables, names-refl, names-sym, names-trans, marks-game, one-mark, stays-refl, stays-sym, stays-trans, untouched-more, untouched-one}

-- ---- a book that stays
pub names-still : (before after : Book) → after ≡ before → KeepsNames before.game after.game
names-still before after same = subst (λ (b : Book). KeepsNames before.game b.game) (sym same) (names-refl before.game)

-- ---- the work of an entry
pub work-held : (before after : Book) (tables left : List ProductionTable) (changes : List Change) (edits : List Edit) (old_kept new_kept : Kept) (old new : ℕ) → AreWorlds (rows_of before.game) before.barred before.granted old_kept → AreWorlds (rows_of after.game) after.barred after.granted new_kept
    → KeepsNames before.game after.game → edits ≡ edits_named before.game changes → new ≤ old + 8 * size_of_all (rows_of after.game) (touched_by_all (shape_of after.game) edits) old_kept new_kept
    → new ≤ old + work_of_book changes (state_of before (milestones_of old_kept) tables) (state_of after (milestones_of new_kept) left)
work-held before after tables left changes edits old_kept new_kept old new old_are new_are names e h =
    let same : size_of_all (rows_of after.game) (touched_by_all (shape_of after.game) edits) old_kept new_kept ≡ size_of_all (rows_of after.game) (touched_in before.game changes) (worlds_of (state_of before (milestones_of old_kept) tables)) (worlds_of (state_of after (milestones_of new_kept) left)) =
    ap (λ (s : Shape). size_of_all (rows_of after.game) (touched_by_all s edits) old_kept new_kept) names.shape
    ∙ (ap (λ es. size_of_all (rows_of after.game) (touched_by_all (shape_of before.game) es) old_kept new_kept) e
    ∙ (ap (λ k. size_of_all (rows_of after.game) (touched_in before.game changes) k new_kept) (kept-is before old_kept tables old_are)
    ∙ ap (λ k. size_of_all (rows_of after.game) (touched_in before.game changes) (worlds_of (state_of before (milestones_of old_kept) tables)) k) (kept-is after new_kept left new_are))) in
    subst (λ (n : ℕ). new ≤ old + 8 * n) same h

-- ---- an entry of the book and the tables
back-of_parts : (undos : List Undo) (s : State) → list_all is_part_undo undos ≡ true → taken_back undos s ≡ state_of (all_restored undos s.book) s.milestones (all_tables_restored undos s.tables)
back-of_parts [] s parts = refl
back-of_parts (Part part ∷ []) s parts = refl
back-of_parts (Part part ∷ undo ∷ undos) s parts = refl
back-of_parts (OfTables part ∷ []) s parts = refl
back-of_parts (OfTables part ∷ undo ∷ undos) s parts = refl
back-of_parts (Added node ∷ undos) s parts = absurd cc
back-of_parts (Taken node place ∷ undos) s parts = absurd cc

fits-parts : (changes : List Change) (undos : List Undo) (s : State) → list_all is_part_undo undos ≡ true → list_all can_be_held changes ≡ true → Fits changes undos s
fits-parts changes [] s parts held = held
fits-parts changes (Part part ∷ []) s parts held = held
fits-parts changes (Part part ∷ undo ∷ undos) s parts held = held
fits-parts changes (OfTables part ∷ []) s parts held = held
fits-parts changes (OfTables part ∷ undo ∷ undos) s parts held = held
fits-parts changes (Added node ∷ undos) s parts held = absurd cc
fits-parts changes (Taken node place ∷ undos) s parts held = absurd cc

pub held-leads : (before after : Book) (tables left : List ProductionTable) (rows : List Row) (old_kept : Kept) (nodes : List NodeId) (changes : List Change) (edits : List Edit) (undos : List Undo)
    → IsKept before rows old_kept → AreSoundTables before.game tables → IsEntry is_entry changes → list_all can_be_held changes ≡ true
    → nodes ≡ milestones_of old_kept → Applies before tables changes edits undos after left → Leads effect_of is_entry LeadsBack (state_of before (milestones_of old_kept) tables) changes undos (state_of after nodes left)
held-leads before after tables left rows old_kept nodes changes edits undos kept fit entry held same applies =
    subst (λ ms. Leads effect_of is_entry LeadsBack (state_of before (milestones_of old_kept) tables) changes undos (state_of after ms left)) (sym same)
    (record {
      entry = entry;
      accepted = applies.accepted (milestones_of old_kept);
      back = record {
        sound = record { milestones = kept.sound; tables = fit };
        names = applies.names;
        fits = fits-parts changes undos (state_of after (milestones_of old_kept) left) applies.parts held;
        back = back-of_parts undos (state_of after (milestones_of old_kept) left) applies.parts
            ∙ (ap (λ b. state_of b (milestones_of old_kept) (all_tables_restored undos left)) applies.back
            ∙ ap (state_of before (milestones_of old_kept)) applies.tables_back);
      };
    })

-- ---- what was accepted, from the states alone
pub record Held (s : State) (changes : List Change) (t : State) : Type 0 where
  pub names : KeepsNames s.book.game t.book.game
  pub stays : (n : ℕ) → is_touched s.book (edits_named s.book.game changes) n ≡ false → StaysAs s.book t.book n
  pub alike : AlikeBut (edits_named s.book.game changes) s.book.game t.book.game
  pub game : list_all is_of_mark (edits_named s.book.game changes) ≡ true → t.book.game ≡ s.book.game

held-none : (s t : State) (changes : List Change) → s.book ≡ t.book → Held s changes t
held-none s t changes same = record {
  names = subst (λ (b : Book). KeepsNames s.book.game b.game) same (names-refl s.book.game);
  stays = λ n untouched. subst (λ (b : Book). StaysAs s.book b n) same (stays-refl s.book n);
  alike = subst (λ (b : Book). AlikeBut (edits_named s.book.game changes) s.book.game b.game) same (alike_same (edits_named s.book.game changes) s.book.game);
  game = λ marks. ap (λ (b : Book). b.game) (sym same);
}

pub ok-same : (s t : State) → (let o : Result State Refusal = Ok s in o) ≡ Ok t → s ≡ t
ok-same s t f = cc

held-edit : (s t : State) (change : Change) (edit : Edit) → edit_named s.book.game change ≡ Ok (Some edit) → (outcome : Result Book EditFault) → effect edit s.book ≡ outcome → with_book s outcome ≡ Ok t → Held s (change ∷ []) t
held-edit s t change edit named (Ok book) e f =
    let same : book ≡ t.book = ap (λ (u : State). u.book) (ok-same (state_of book s.milestones s.tables) t f) in
    let effect_is : effect edit s.book ≡ Ok t.book = e ∙ ap Ok same in
    record {
      names = edit_keeps edit s.book t.book effect_is;
      stays = λ n untouched. touches_all edit s.book t.book effect_is n (untouched-one s.book change edit n named untouched);
      alike = subst (λ (o : Result (Option Edit) Refusal). AlikeBut (edit_and o []) s.book.game t.book.game) (sym named) (alike_law edit s.book t.book effect_is);
      game = λ marks. marks-game edit s.book t.book effect_is (one-mark s.book change edit named marks);
    }
held-edit s t change edit named (Err fault) e f = absurd cc

held-named : (s t : State) (change : Change) (outcome : Result (Option Edit) Refusal) → edit_named s.book.game change ≡ outcome → (outcome ▸ edited s) ≡ Ok t → Held s (change ∷ []) t
held-named s t change (Ok (Some edit)) e f = held-edit s t change edit e (effect edit s.book) refl f
held-named s t change (Ok None) e f = held-none s t (change ∷ []) (ap (λ (u : State). u.book) (ok-same s t f))
held-named s t change (Err refusal) e f = absurd cc

held-tables : (s t : State) (change : Change) (outcome : Result (List ProductionTable) TableRefusal) → with_tables s outcome ≡ Ok t → Held s (change ∷ []) t
held-tables s t change (Ok tables) f =
    held-none s t (change ∷ []) (ap (λ (u : State). u.book) (ok-same (state_of s.book s.milestones tables) t f))
held-tables s t change (Err refusal) f = absurd cc

held-one : (s t : State) (change : Change) → can_be_held change ≡ true → effect_of s change ≡ Ok t → Held s (change ∷ []) t
held-one s t change held e = by-kind (is_of_tables change) refl
  where
    by-kind : (b : Bool) → is_of_tables change ≡ b → Held s (change ∷ []) t
    by-kind true is = held-tables s t change (tables_effect s.book.game s.tables change) (sym (effect-tables s change is) ∙ e)
    by-kind false is = held-named s t change (edit_named s.book.game change) refl (sym (effect-book s change held is) ∙ e)

pub then-ok : (r : Result State Refusal) (place : ℕ) (next : State → Result State (ℕ × Refusal)) (t : State) → then_apply r place next ≡ Ok t → (u : State) × (r ≡ Ok u) × (next u ≡ Ok t)
then-ok (Ok u) place next t e = (u, refl, e)
then-ok (Err refusal) place next t e = absurd cc

held-more : (s u t : State) (change : Change) (changes : List Change) → Held s (change ∷ []) u → Held u changes t → Held s (change ∷ changes) t
held-more s u t change changes one rest = record {
  names = names-trans s.book.game u.book.game t.book.game one.names rest.names;
  stays = λ n untouched.
      let split : (is_touched s.book (edits_named s.book.game (change ∷ [])) n ≡ false) × (is_touched s.book (edits_named s.book.game changes) n ≡ false) =
      untouched-more s.book (edits_named s.book.game (change ∷ [])) (edits_named s.book.game changes) n
      (ap (λ es. is_touched s.book es n) (sym (edits-split (edit_named s.book.game change) (edits_named s.book.game changes))) ∙ untouched) in
      let later : is_touched u.book (edits_named u.book.game changes) n ≡ false =
      ap (λ (h : Shape). list_any (λ edit. has_node (touched_by h edit) n) (edits_named u.book.game changes)) one.names.shape
      ∙ (ap (λ es. is_touched s.book es n) (edits-same s.book.game u.book.game one.names changes) ∙ split.1) in
      stays-trans s.book u.book t.book n (one.stays n split.0) (rest.stays n later);
  alike = subst (λ es. AlikeBut es s.book.game t.book.game) (sym (edits-split (edit_named s.book.game change) (edits_named s.book.game changes)))
      (alike_more (edits_named s.book.game (change ∷ [])) (edits_named s.book.game changes) s.book.game u.book.game t.book.game one.alike
      (subst (λ es. AlikeBut es u.book.game t.book.game) (edits-same s.book.game u.book.game one.names changes) rest.alike));
  game = λ marks.
      let split : (list_all is_of_mark (edits_named s.book.game (change ∷ [])) ≡ true) × (list_all is_of_mark (edits_named s.book.game changes) ≡ true) =
      all-parts is_of_mark (edits_named s.book.game (change ∷ [])) (edits_named s.book.game changes)
      (ap (list_all is_of_mark) (sym (edits-split (edit_named s.book.game change) (edits_named s.book.game changes))) ∙ marks) in
      rest.game (ap (list_all is_of_mark) (edits-same s.book.game u.book.game one.names changes) ∙ split.1) ∙ one.game split.0;
}

pub held-all : (s t : State) (place : ℕ) (changes : List Change) → list_all can_be_held changes ≡ true → apply_from effect_of place s changes ≡ Ok t → Held s changes t
held-all s t place [] held e =
    let same : s ≡ t = cc in
    subst (Held s []) same (record { names = names-refl s.book.game; stays = λ n untouched. stays-refl s.book n; alike = alike_same [] s.book.game; game = λ marks. refl })
held-all s t place (change ∷ changes) held e =
    let apart : (can_be_held change ≡ true) × (list_all can_be_held changes ≡ true) = and_parts (can_be_held change) (list_all can_be_held changes) held in
    let found : (u : State) × (effect_of s change ≡ Ok u) × (apply_from effect_of (place + 1) u changes ≡ Ok t) = then-ok (effect_of s change) place _ t e in
    held-more s found.0 t change changes (held-one s found.0 change apart.0 found.1) (held-all found.0 t (place + 1) changes apart.1 found.2)

-- ---- an entry of the book and the tables taken back
pub back-of_book : (undos : List Undo) (s : State) → is_of_milestone undos ≡ false → taken_back undos s ≡ state_of (all_restored undos s.book) s.milestones (all_tables_restored undos s.tables)
back-of_book [] s is_no = refl
back-of_book (Part part ∷ []) s is_no = refl
back-of_book (Part part ∷ undo ∷ undos) s is_no = refl
back-of_book (OfTables part ∷ []) s is_no = refl
back-of_book (OfTables part ∷ undo ∷ undos) s is_no = refl
back-of_book (Added node ∷ []) s is_no = absurd cc
back-of_book (Added node ∷ undo ∷ undos) s is_no = refl
back-of_book (Taken node place ∷ []) s is_no = absurd cc
back-of_book (Taken node place ∷ undo ∷ undos) s is_no = refl

held-fits : (changes : List Change) (undos : List Undo) (s : State) → is_of_milestone undos ≡ false → Fits changes undos s → list_all can_be_held changes ≡ true
held-fits changes [] s is_no fits = fits
held-fits changes (Part part ∷ []) s is_no fits = fits
held-fits changes (Part part ∷ undo ∷ undos) s is_no fits = fits
held-fits changes (OfTables part ∷ []) s is_no fits = fits
held-fits changes (OfTables part ∷ undo ∷ undos) s is_no fits = fits
held-fits changes (Added node ∷ []) s is_no fits = absurd cc
held-fits changes (Added node ∷ undo ∷ undos) s is_no fits = fits
held-fits changes (Taken node place ∷ []) s is_no fits = absurd cc
held-fits changes (Taken node place ∷ undo ∷ undos) s is_no fits = fits

pub held-changes : (s t : State) (changes : List Change) (undos : List Undo) → is_of_milestone undos ≡ false → Leads effect_of is_entry LeadsBack s changes undos t → list_all can_be_held changes ≡ true
held-changes s t changes undos is_no leads = held-fits changes undos t is_no leads.back.fits

pub takes-back : (s t : State) (changes : List Change) (undos : List Undo) → is_of_milestone undos ≡ false → Leads effect_of is_entry LeadsBack s changes undos t → TakesBack t.book t.tables changes undos s.book s.tables
takes-back s t changes undos is_no leads =
    let held : Held s changes t = held-all s t 0 changes (held-changes s t changes undos is_no leads) leads.accepted in
    let stood : state_of (all_restored undos t.book) t.milestones (all_tables_restored undos t.tables) ≡ s = sym (back-of_book undos t is_no) ∙ leads.back.back in
    record {
      sound = leads.back.sound.milestones.book;
      fit = leads.back.sound.tables;
      comes = record {
        names = names-sym s.book.game t.book.game held.names;
        stays = λ n untouched. stays-sym s.book t.book n (held.stays n
            (ap (λ (h : Shape). list_any (λ edit. has_node (touched_by h edit) n) (edits_named s.book.game changes)) (sym held.names.shape)
            ∙ (ap (λ es. is_touched t.book es n) (sym (edits-same s.book.game t.book.game held.names changes)) ∙ untouched)));
        alike = subst (λ es. AlikeBut es t.book.game s.book.game) (sym (edits-same s.book.game t.book.game held.names changes)) (alike_back (edits_named s.book.game changes) s.book.game t.book.game held.alike);
        game = λ marks. sym (held.game (ap (list_all is_of_mark) (sym (edits-same s.book.game t.book.game held.names changes)) ∙ marks));
      };
      back = ap (λ (u : State). u.book) stood;
      tables_back = ap (λ (u : State). u.tables) stood;
    }
