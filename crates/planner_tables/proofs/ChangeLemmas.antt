-- What a change makes of a list of tables, and that its part leads back.
use Rattle.std.proofs.Common.{◌≡◌, ◌∙◌, ℕ, zero, suc, ◌-◌, ◌<◌, ◌≤◌, List, [], ◌∷◌, ◌++◌, Bool, true, false, length, get_or, set, drop, take, Result, Ok, Err, refl, sym, ap, subst, arith, length-append}
use Rattle.std.specs.Prelude.{◌||◌, ◌==◌, ◌&&◌, nat_lt, nat_le, IfErr, IsErr, IsErrAnd, insert, remove, slice_set, vec_capacity, vec_len, Vec}
use Rattle.std.specs.List.{list_any}
use Rattle.std.specs.Str.{bytes_eq}
use Rattle.std.specs.Global.{Global}
use Rattle.std.proofs.lemmas.Bool.Decides.{nat_tests}
use Rattle.std.proofs.lemmas.List.Edits.{length-remove}
use Rattle.std.proofs.lemmas.List.Elements.{All-push, All-set, All-take, All-drop, All-append}
use Rattle.std.proofs.lemmas.List.{get_or_default, length-set}
use Rattle.std.proofs.lemmas.Slice.Eq.{bytes_eq-Decides}
use Rattle.std.proofs.lemmas.Bool.{cond-false, cond-true, or_from, or_parts}
use Rattle.game_types.specs.declared.games.Game.{Game}
use Rattle.game_types.specs.Steps.{◌▸◌}
use Rattle.game_types.proofs.Walks.{returned}
use Rattle.plan_lines.specs.declared.change.Change.{Change}
use Rattle.plan_lines.specs.declared.change.Change.TheVariants as change
use Rattle.production_table.specs.declared.tables.Table.{Table}
use Rattle.production_table.specs.Changes.{empty_table}
use Rattle.production_table.specs.Tables.{IsSoundTable}
use Rattle.table_rows.specs.declared.refusals.TableRefusal.{TableRefusal}
use Rattle.table_rows.specs.declared.refusals.TableRefusal.TheVariants.{NameUsed, Full}
use Rattle.planner_tables.specs.declared.splices.Splice.TheVariants.{Remove}
use Rattle.planner_tables.specs.declared.steps.Step.{Step}
use Rattle.planner_tables.specs.declared.steps.Step.TheVariants as step
use Rattle.planner_tables.specs.declared.undos.TablePart.{TablePart}
use Rattle.planner_tables.specs.declared.undos.TableUndo.{TableUndo}
use Rattle.planner_tables.specs.declared.undos.TableUndo.TheVariants as undo
use Rattle.planner_tables.specs.Effects.{AreSoundTables, HaveOwnNames, IsSoundOn, is_name, placed, table_at, table_named, tables_effect, with_table}
use Rattle.table_rows.specs.Names.{good_named, setup_named}
use Rattle.planner_tables.specs.Steps.{MakesTable, MakesTables, is_step, step_effect, step_named, step_table}
use Rattle.planner_tables.specs.Undoing.{has_room, part_restored, spliced, tables_restored}
use Rattle.plan_base.proofs.Places.{put_back}
use Rattle.planner_tables.proofs.SpliceLemmas.{goes_again, insert-end}

-- ---- what `?` returns
pub passed : {A E : Type 0} (P : E → Type 0) (result : Result A E) (fault : E) → IsErr result × IsErrAnd result (λ e. e ≡ fault) → P fault → IfErr result P
passed P result fault from h = subst (λ r. IfErr r P) (sym (returned result fault from)) h

-- ---- steps
bound : {A B F : Type 0} (r : Result A F) (x : A) (f : A → Result B F) → r ≡ Ok x → (r ▸ f) ≡ f x
bound (Ok y) x f h = let same : y ≡ x = cc in ap f same
bound (Err e) x f h = absurd (cc)

unbound : {A B F : Type 0} (r : Result A F) (e : F) (f : A → Result B F) → r ≡ Err e → (r ▸ f) ≡ Err e
unbound (Ok y) e f h = absurd (cc)
unbound (Err d) e f h = let same : d ≡ e = cc in ap Err same

regrouped : {A B C F : Type 0} (r : Result A F) (f : A → B) (k : B → Result C F) → ((r ▸ λ x. Ok (f x)) ▸ k) ≡ (r ▸ λ x. k (f x))
regrouped (Ok x) f k = refl
regrouped (Err e) f k = refl

same_after : {A B F : Type 0} (r : Result A F) (f k : A → Result B F) → ((x : A) → f x ≡ k x) → (r ▸ f) ≡ (r ▸ k)
same_after (Ok x) f k h = h x
same_after (Err e) f k h = refl

-- what follows a table's place
abbrev after : Game → List Table → Change → ℕ → Result (List Table) TableRefusal
after g ts c place = step_named g c ▸ λ s. placed ts place (step_effect g s (table_at ts place))

-- a step is taken: its table, its names, and what the table makes of it
pub by_steps : (g : Game) (ts : List Table) (c : Change) → is_step c ≡ true → tables_effect g ts c ≡ (table_named ts (step_table c) ▸ after g ts c)
unfolding tables_effect step_named
by_steps g ts (change.Row table label does machine parts) h =
    same_after (table_named ts table) (λ place. setup_named g does machine parts ▸ λ setup. placed ts place (step_effect g (step.Row label setup) (table_at ts place)))
    (after g ts (change.Row table label does machine parts))
    (λ place. sym (regrouped (setup_named g does machine parts) (λ setup. step.Row label setup) (λ s. placed ts place (step_effect g s (table_at ts place)))))
by_steps g ts (change.Unrow table label) h = refl
by_steps g ts (change.Price table label price) h = refl
by_steps g ts (change.Want table object amount) h =
    same_after (table_named ts table) (λ place. good_named g object ▸ λ good. placed ts place (step_effect g (step.Want object good amount) (table_at ts place)))
    (after g ts (change.Want table object amount))
    (λ place. sym (regrouped (good_named g object) (λ good. step.Want object good amount) (λ s. placed ts place (step_effect g s (table_at ts place)))))
by_steps g ts (change.Import table object price) h =
    same_after (table_named ts table) (λ place. good_named g object ▸ λ good. placed ts place (step_effect g (step.Import object good price) (table_at ts place)))
    (after g ts (change.Import table object price))
    (λ place. sym (regrouped (good_named g object) (λ good. step.Import object good price) (λ s. placed ts place (step_effect g s (table_at ts place)))))
by_steps g ts (change.Surplus table object price) h =
    same_after (table_named ts table) (λ place. good_named g object ▸ λ good. placed ts place (step_effect g (step.Surplus object good price) (table_at ts place)))
    (after g ts (change.Surplus table object price))
    (λ place. sym (regrouped (good_named g object) (λ good. step.Surplus object good price) (λ s. placed ts place (step_effect g s (table_at ts place)))))
by_steps g ts (change.Power table on) h = refl
by_steps g ts (change.Grant object) h = absurd (cc)
by_steps g ts (change.Revoke object) h = absurd (cc)
by_steps g ts (change.Forbid object) h = absurd (cc)
by_steps g ts (change.Permit object) h = absurd (cc)
by_steps g ts (change.Milestone object) h = absurd (cc)
by_steps g ts (change.Unmilestone object) h = absurd (cc)
by_steps g ts (change.Ingredient recipe good amount) h = absurd (cc)
by_steps g ts (change.Product recipe good amount) h = absurd (cc)
by_steps g ts (change.Unlock tech recipe on) h = absurd (cc)
by_steps g ts (change.Time recipe seconds) h = absurd (cc)
by_steps g ts (change.Enabled recipe on) h = absurd (cc)
by_steps g ts (change.Table name) h = absurd (cc)
by_steps g ts (change.Untable name) h = absurd (cc)

pub step_refused_name : (g : Game) (ts : List Table) (c : Change) (name : List ℕ) (refusal : TableRefusal) → is_step c ≡ true → step_table c ≡ name → table_named ts name ≡ Err refusal → tables_effect g ts c ≡ Err refusal
step_refused_name g ts c name refusal s n h =
    by_steps g ts c s ∙ (ap (λ (t : List ℕ). table_named ts t ▸ after g ts c) n ∙ unbound (table_named ts name) refusal (after g ts c) h)

pub step_at : (g : Game) (ts : List Table) (c : Change) (name : List ℕ) (place : ℕ) → is_step c ≡ true → step_table c ≡ name → table_named ts name ≡ Ok place → tables_effect g ts c ≡ after g ts c place
step_at g ts c name place s n h =
    by_steps g ts c s ∙ (ap (λ (t : List ℕ). table_named ts t ▸ after g ts c) n ∙ bound (table_named ts name) place (after g ts c) h)

pub step_refused_names : (g : Game) (ts : List Table) (c : Change) (name : List ℕ) (place : ℕ) (refusal : TableRefusal) → is_step c ≡ true → step_table c ≡ name → table_named ts name ≡ Ok place
    → step_named g c ≡ Err refusal → tables_effect g ts c ≡ Err refusal
step_refused_names g ts c name place refusal s n h k =
    step_at g ts c name place s n h ∙ unbound (step_named g c) refusal (λ t. placed ts place (step_effect g t (table_at ts place))) k

pub step_taken : (g : Game) (ts : List Table) (c : Change) (name : List ℕ) (place : ℕ) (t : Step) → is_step c ≡ true → step_table c ≡ name → table_named ts name ≡ Ok place → step_named g c ≡ Ok t
    → tables_effect g ts c ≡ placed ts place (step_effect g t (table_at ts place))
step_taken g ts c name place t s n h k =
    step_at g ts c name place s n h ∙ bound (step_named g c) t (λ x. placed ts place (step_effect g x (table_at ts place))) k

pub step_refused : (g : Game) (ts : List Table) (c : Change) (name : List ℕ) (place : ℕ) (t : Step) (old : Table) (refusal : TableRefusal) → is_step c ≡ true → step_table c ≡ name → table_named ts name ≡ Ok place → step_named g c ≡ Ok t
    → table_at ts place ≡ old → step_effect g t old ≡ Err refusal → tables_effect g ts c ≡ Err refusal
step_refused g ts c name place t old refusal s n h k e r =
    step_taken g ts c name place t s n h k ∙ (ap (λ (x : Table). placed ts place (step_effect g t x)) e ∙ unbound (step_effect g t old) refusal (λ x. Ok (slice_set ts place x)) r)

-- ---- names that differ
turned : (one other : List ℕ) (b : Bool) → bytes_eq other one ≡ b → bytes_eq one other ≡ false → b ≡ false
turned one other false h k = refl
turned one other true h k =
    let same : other ≡ one = (bytes_eq-Decides other one).0 h in
    let back : bytes_eq one other ≡ true = (bytes_eq-Decides one other).1 (sym same) in
    absurd (cc)

any_remove : (p : Table → Bool) (ts : List Table) (k : ℕ) → list_any p ts ≡ false → list_any p (remove ts k) ≡ false
any_remove p [] zero h = refl
any_remove p [] (suc k) h = refl
any_remove p (t ∷ ts) zero h = (or_parts (p t) (list_any p ts) h).1
any_remove p (t ∷ ts) (suc k) h =
    let both = or_parts (p t) (list_any p ts) h in or_from (p t) (list_any p (remove ts k)) both.0 (any_remove p ts k both.1)

own_remove : (ts : List Table) (k : ℕ) → HaveOwnNames ts → HaveOwnNames (remove ts k)
own_remove [] zero h = tt
own_remove [] (suc k) h = tt
own_remove (t ∷ ts) zero h = h.1
own_remove (t ∷ ts) (suc k) h = (any_remove (is_name t.name) ts k h.0, own_remove ts k h.1)

any_push : (p : Table → Bool) (ts : List Table) (t : Table) → p t ≡ false → list_any p ts ≡ false → list_any p (ts ++ t ∷ []) ≡ false
any_push p [] t h l = or_from (p t) false h refl
any_push p (x ∷ ts) t h l =
    let both = or_parts (p x) (list_any p ts) l in or_from (p x) (list_any p (ts ++ t ∷ [])) both.0 (any_push p ts t h both.1)

own_push : (ts : List Table) (t : Table) → HaveOwnNames ts → list_any (is_name t.name) ts ≡ false → HaveOwnNames (ts ++ t ∷ [])
own_push [] t h l = (refl, tt)
own_push (x ∷ ts) t h l =
    let both = or_parts (is_name t.name x) (list_any (is_name t.name) ts) l in
    (any_push (is_name x.name) ts t (turned t.name x.name (bytes_eq x.name t.name) refl both.0) h.0, own_push ts t h.1 both.1)

any_set : (name : List ℕ) (ts : List Table) (k : ℕ) (d new : Table) → k < length ts → new.name ≡ (get_or ts k d).name → list_any (is_name name) (set ts k new) ≡ list_any (is_name name) ts
any_set name [] k d new h e = absurd (omega arith)
any_set name (x ∷ ts) zero d new h e = ap (λ (l : List ℕ). bytes_eq name l || list_any (is_name name) ts) e
any_set name (x ∷ ts) (suc k) d new h e = ap (λ b. bytes_eq name x.name || b) (any_set name ts k d new (omega arith) e)

own_set : (ts : List Table) (k : ℕ) (d new : Table) → k < length ts → new.name ≡ (get_or ts k d).name → HaveOwnNames ts → HaveOwnNames (set ts k new)
own_set [] k d new h e own = absurd (omega arith)
own_set (x ∷ ts) zero d new h e own = (subst (λ (l : List ℕ). list_any (is_name l) ts ≡ false) (sym e) own.0, own.1)
own_set (x ∷ ts) (suc k) d new h e own = (any_set x.name ts k d new (omega arith) e ∙ own.0, own_set ts k d new (omega arith) e own.1)

-- ---- another table at a place
pub step_made : (g : Game) (ts : List Table) (c : Change) (name : List ℕ) (place : ℕ) (t : Step) (d new : Table) (p : TablePart) → AreSoundTables g ts → place < length ts
    → is_step c ≡ true → step_table c ≡ name → table_named ts name ≡ Ok place → step_named g c ≡ Ok t → table_at ts place ≡ get_or ts place d
    → MakesTable g (step_effect g t (get_or ts place d)) p (get_or ts place d) new
    → MakesTables g (tables_effect g ts c) (undo.Part place p) ts (set ts place new)
step_made g ts c name place t d new p s within is n h k e m = record {
  made = step_taken g ts c name place t is n h k ∙ (ap (λ (x : Table). placed ts place (step_effect g t x)) e ∙ bound (step_effect g t (get_or ts place d)) new (λ x. Ok (slice_set ts place x)) m.made);
  back = put_back (part_restored p) place ts d new within m.back;
  sound = record {
    names = own_set ts place d new within m.name s.names;
    few = subst (λ n. n ≤ 64) (sym (length-set ts place new)) s.few;
    each = All-set (IsSoundOn g) ts place new m.sound s.each;
  };
}

pub table_read : (ts : List Table) (place : ℕ) (d : Table) → place < length ts → table_at ts place ≡ get_or ts place d
unfolding table_at
table_read ts place d within = sym (get_or_default ts place d (empty_table []) within)

-- ---- a table more, a table less
pub table_used : (g : Game) (ts : List Table) (name : List ℕ) (refusal : TableRefusal) → list_any (is_name name) ts ≡ true → NameUsed ≡ refusal → tables_effect g ts (change.Table name) ≡ Err refusal
unfolding tables_effect with_table
table_used g ts name refusal h e = cond-true (list_any (is_name name) ts) _ _ h ∙ ap Err e

pub tables_full : (g : Game) (ts : List Table) (name : List ℕ) (refusal : TableRefusal) → list_any (is_name name) ts ≡ false → 64 ≤ length ts → Full ≡ refusal → tables_effect g ts (change.Table name) ≡ Err refusal
unfolding tables_effect with_table
tables_full g ts name refusal h few e = cond-false (list_any (is_name name) ts) _ _ h ∙ (cond-false (nat_lt (length ts) 64) _ _ (grind (arith, nat_tests)) ∙ ap Err e)

empty_sound : (g : Game) (name : List ℕ) → IsSoundTable (empty_table name) → IsSoundOn g (empty_table name)
empty_sound g name h = record {
  table = h;
  goods = record { wants = λ k d w. absurd (omega arith); imports = λ k d w. absurd (omega arith); surpluses = λ k d w. absurd (omega arith) };
  rows = λ k d w. absurd (omega arith);
}

pub table_made : (g : Game) (ts us : List Table) (t : Table) (name : List ℕ) (place : ℕ) (room : Vec Table Global) → AreSoundTables g ts → list_any (is_name name) ts ≡ false → length ts < 64
    → us ≡ ts ++ t ∷ [] → t ≡ empty_table name → IsSoundTable t → place ≡ length ts → vec_len room ≡ 0 → place ≤ vec_capacity room
    → MakesTables g (tables_effect g ts (change.Table name)) (undo.Tables (Remove place room)) ts us
unfolding tables_effect with_table
table_made g ts us t name place room s new few e is st p z k =
    let e' : us ≡ ts ++ empty_table name ∷ [] = e ∙ ap (λ (x : Table). ts ++ x ∷ []) is in
    let on : AreSoundTables g (ts ++ empty_table name ∷ []) = record {
      names = own_push ts (empty_table name) s.names new;
      few = (let n = length-append ts (empty_table name ∷ []) in omega arith);
      each = All-push (IsSoundOn g) ts (empty_table name) s.each (empty_sound g name (subst IsSoundTable is st));
    } in
    record {
      made = cond-false (list_any (is_name name) ts) _ _ new ∙ (cond-true (nat_lt (length ts) 64) _ _ (grind (arith, nat_tests)) ∙ ap Ok (sym e'));
      back = goes_again ts us place (empty_table name) room (omega arith) (e' ∙ sym (ap (λ n. insert ts n (empty_table name)) p ∙ insert-end ts (empty_table name))) z (omega arith);
      sound = subst (AreSoundTables g) (sym e') on;
    }

pub drop_refused : (g : Game) (ts : List Table) (name : List ℕ) (refusal : TableRefusal) → table_named ts name ≡ Err refusal → tables_effect g ts (change.Untable name) ≡ Err refusal
unfolding tables_effect
drop_refused g ts name refusal h = unbound (table_named ts name) refusal (λ place. Ok (remove ts place)) h

gone : (place n size room : ℕ) → place < n → size ≡ 0 → n ≤ room → (nat_lt place n && ((size == 0) && nat_le (n - 1) room)) ≡ true
gone place n size room h e k = grind (arith, nat_tests)

pub drop_made : (g : Game) (ts us : List Table) (name : List ℕ) (place : ℕ) (room : Vec Table Global) (back : TableUndo) → AreSoundTables g ts → table_named ts name ≡ Ok place → place < length ts
    → vec_len room ≡ 0 → length ts ≤ vec_capacity room → us ≡ spliced (Remove place room) ts → tables_restored back us ≡ ts
    → MakesTables g (tables_effect g ts (change.Untable name)) back ts us
unfolding tables_effect
drop_made g ts us name place room back s h within z k e b =
    let is : us ≡ remove ts place = e ∙ cond-true (nat_lt place (length ts) && has_room room (length ts - 1)) (remove ts place) ts (gone place (length ts) (vec_len room) (vec_capacity room) within z k) in
    let on : AreSoundTables g (remove ts place) = record {
      names = own_remove ts place s.names;
      few = (let n = length-remove ts place within in let few = s.few in omega arith);
      each = All-append (IsSoundOn g) (take place ts) (drop (suc place) ts) (All-take (IsSoundOn g) place ts s.each) (All-drop (IsSoundOn g) (suc place) ts s.each);
    } in
    record {
      made = bound (table_named ts name) place (λ p. Ok (remove ts p)) h ∙ ap Ok (sym is);
      back = b;
      sound = subst (AreSoundTables g) (sym is) on;
    }
