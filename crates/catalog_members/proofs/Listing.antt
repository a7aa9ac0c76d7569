-- Lists of values, written one by one.
use Rattle.std.proofs.Common.{◌≡◌, ◌∙◌, ◌<◌, ◌≤◌, ◌+◌, ℕ, List, [], ◌∷◌, ◌++◌, length, drop, get_or, refl, sym, ap, ap₂, append_assoc, append-nil}
use Rattle.std.specs.Prelude.{Bool, true, false, ◌==◌}
use Rattle.plan_base.proofs.Walks.{next, drop_all}
use Rattle.serde_json.specs.Data.{array, Data, Items, item, Members, put}
use Rattle.serde_json.specs.View.{items_view, view}
use Rattle.serde_json.specs.declared.value.Value.{Value}
use Rattle.catalog_members.specs.Members.{items_tree, with_items}

-- so much was written of a list: what the rest is written as stands behind that
pub record WroteSoFar {A : Type 0} (tree : A → Data) (xs : List A) (k : ℕ) (written : List Value) : Type 0 where
  pub behind : (rest : List Value) → items_view rest ≡ items_tree tree (drop k xs) → items_view (written ++ rest) ≡ items_tree tree xs

pub none_written : {A : Type 0} (tree : A → Data) (xs : List A) → WroteSoFar tree xs 0 []
none_written tree xs = record { behind = λ rest is. is }

pub one_written : {A : Type 0} (tree : A → Data) (xs : List A) (k : ℕ) (written more : List Value) (x : A) (v : Value) → k < length xs → x ≡ get_or xs k x → view v ≡ tree x → more ≡ written ++ v ∷ []
    → WroteSoFar tree xs k written → WroteSoFar tree xs (k + 1) more
one_written {A} tree xs k written more x v within at is put so =
    let ahead = next xs k x within at in
    record {
      behind = λ rest after. ap (λ l. items_view (l ++ rest)) put ∙ ap items_view (append_assoc written (v ∷ []) rest)
          ∙ so.behind (v ∷ rest) (ap₂ (λ (d : Data) (ds : Items). item d ds) is after ∙ sym (ap (items_tree tree) ahead));
    }

pub all_written : {A : Type 0} (tree : A → Data) (xs : List A) (k : ℕ) (written : List Value) → length xs ≤ k → WroteSoFar tree xs k written → items_view written ≡ items_tree tree xs
all_written {A} tree xs k written end so =
    let none = drop_all xs k end in
    ap items_view (sym (append-nil written)) ∙ so.behind [] (sym (ap (items_tree tree) none))

-- a list that isn't empty has a member
some_listed : (key : List ℕ) (values : List Value) (ms : Members) → (length values == 0) ≡ false → put key (array (items_view values)) ms ≡ with_items key (items_view values) ms
unfolding with_items
some_listed key [] ms some = absurd (let e : true ≡ false = some in cc)
some_listed key (v ∷ vs) ms some = refl

pub listed : (key : List ℕ) (values seen : List Value) (ms : Members) (is_empty : Bool) → seen ≡ values → is_empty ≡ (length seen == 0) → is_empty ≡ false
    → put key (array (items_view values)) ms ≡ with_items key (items_view values) ms
listed key values seen ms is_empty same tells none = some_listed key values ms (ap (λ l. length l == 0) (sym same) ∙ sym tells ∙ none)
