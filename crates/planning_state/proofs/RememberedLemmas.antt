-- Ranks that are remembered.
use Rattle.std.proofs.Common.{◌≡◌, ◌≢◌, ◌∙◌, ℕ, ◌<◌, ◌≤◌, ◌||◌, Bool, true, false, List, [], ◌∷◌, Option, None, Some, length, slice_get, get_or, ap, sym, refl, subst, arith}
use Rattle.std.specs.Prelude.{IfSome, ◌==◌, unwrap_or}
use Rattle.std.proofs.Math.ListN.{set}
use Rattle.std.proofs.lemmas.List.{length-set, same_lists}
use Rattle.std.proofs.lemmas.Option.{slice_get-get_or, unwrap_or-slice_get}
use Rattle.plan_base.specs.declared.ids.NodeId.{NodeId}
use Rattle.graph_store.specs.declared.Row.{Row}
use Rattle.graph_store.specs.Rows.{has_node}
use Rattle.data_edit.specs.declared.books.Book.{Book}
use Rattle.milestone_masks.proofs.SlotLemmas.{get-set_other, get-set_same}
use Rattle.planning_state.specs.declared.remembered.Before.{Before}
use Rattle.planning_state.specs.declared.remembered.Marks.{Marks}
use Rattle.planning_state.specs.declared.remembered.Remembered.{Remembered}
use Rattle.planning_state.specs.Remembered.{AreMarksBut, AreMarksOf, AreRight, Remembers}

-- ---- lists of marks
pub record HaveSame (k : ℕ) (left right : List Bool) : Type 0 where
  pub as_long : length left ≡ length right
  pub each : (n : ℕ) → n < k → (d : Bool) → get_or left n d ≡ get_or right n d

pub have-same : (k : ℕ) (left right : List Bool) → length left ≤ k → HaveSame k left right → left ≡ right
have-same k left right le same = same_lists left right same.as_long (λ n d inside. same.each n (omega (arith, inside, le)) d)

same-slots : (xs ys : List Bool) → length xs ≡ length ys → ((n : ℕ) → slice_get xs n ≡ slice_get ys n) → xs ≡ ys
same-slots xs ys long each =
    same_lists xs ys long (λ n d inside.
    sym (unwrap_or-slice_get xs n d) ∙ (ap (λ (o : Option Bool). unwrap_or o d) (each n) ∙ unwrap_or-slice_get ys n d))

-- ---- marks that are taken from the book, node by node
one-taken : (olds news books : List Bool) (node : NodeId) (rest : List NodeId) (n : ℕ) → node.0 < length books → node.0 < length olds → news ≡ set olds node.0 (get_or books node.0 false)
    → (has_node (node ∷ rest) n ≡ false → slice_get olds n ≡ slice_get books n) → has_node rest n ≡ false → slice_get news n ≡ slice_get books n
one-taken olds news books node rest n inside within is others outside = by (node.0 == n) refl
  where
    by : (b : Bool) → (node.0 == n) ≡ b → slice_get news n ≡ slice_get books n
    by true same =
        let e : n ≡ node.0 = grind (arith, same) in
        ap (slice_get news) e
        ∙ (ap (λ xs. slice_get xs node.0) is
        ∙ (get-set_same olds node.0 (get_or books node.0 false) within
        ∙ (sym (slice_get-get_or books node.0 false inside) ∙ sym (ap (slice_get books) e))))
    by false differ =
        let other : n ≢ node.0 = grind (arith, differ) in
        ap (λ xs. slice_get xs n) is
        ∙ (get-set_other olds node.0 n (get_or books node.0 false) other ∙ others (ap (λ b. b || has_node rest n) differ ∙ outside))

pub mark-taken : (book : Book) (node : NodeId) (rest : List NodeId) (old new : Marks) → node.0 < length book.barred → AreMarksBut (node ∷ rest) book old
    → new.barred.items ≡ set old.barred.items node.0 (get_or book.barred node.0 false) → new.granted.items ≡ set old.granted.items node.0 (get_or book.granted node.0 false) → AreMarksBut rest book new
mark-taken book node rest old new inside but barred_is granted_is = record {
  barred_long = ap length barred_is ∙ (length-set old.barred.items node.0 (get_or book.barred node.0 false) ∙ but.barred_long);
  granted_long = ap length granted_is ∙ (length-set old.granted.items node.0 (get_or book.granted node.0 false) ∙ but.granted_long);
  as_long = but.as_long;
  barred = λ n outside. one-taken old.barred.items new.barred.items book.barred node rest n inside (omega (arith, inside, but.barred_long)) barred_is (but.barred n) outside;
  granted = λ n outside. one-taken old.granted.items new.granted.items book.granted node rest n (omega (arith, inside, but.as_long)) (omega (arith, inside, but.granted_long)) granted_is (but.granted n) outside;
}

pub all-taken : (book : Book) (marks : Marks) → AreMarksBut [] book marks → AreMarksOf book marks
all-taken book marks but = record {
  barred = same-slots marks.barred.items book.barred but.barred_long (λ n. but.barred n refl);
  granted = same-slots marks.granted.items book.granted (but.granted_long ∙ sym but.as_long) (λ n. but.granted n refl);
}

-- ---- what stands at first
pub remembers-nothing : (book : Book) (rows : List Row) (remembered : Remembered) → remembered.marks ≡ None → remembered.before ≡ None → Remembers book rows remembered
remembers-nothing book rows remembered no_marks none_before = record {
  marks = subst (λ (o : Option Marks). IfSome o (AreMarksOf book)) (sym no_marks) tt;
  before = subst (λ (o : Option Before). IfSome o (λ b. AreRight rows b.marks b.worlds)) (sym none_before) tt;
}
