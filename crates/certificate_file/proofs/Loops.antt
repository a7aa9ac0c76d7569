-- Loops that read an array or write one, value by value.
use Rattle.std.proofs.Common.{◌≡◌, ◌∙◌, ◌<◌, ◌≤◌, ◌+◌, ℕ, List, [], ◌∷◌, ◌++◌, length, drop, get_or, sym, ap, ap₂, subst, append_assoc, append-nil}
use Rattle.plan_base.proofs.Walks.{next, drop_all}
use Rattle.serde_json.specs.Data.{Data, Items, item}
use Rattle.serde_json.specs.View.{items_view, view}
use Rattle.serde_json.specs.declared.value.Value.{Value}
use Rattle.certificate_file.specs.Said.{EachSays}
use Rattle.certificate_file.specs.Tree.{items_tree}
use Rattle.certificate_file.specs.Narrow.{EachIs}

-- so much was read of the values: what the rest says stands behind that, and where the rest says nothing nor do all
pub record ReadSoFar {A : Type 0} (Says : Data → A → Type 0) (values : List Value) (k : ℕ) (found : List A) : Type 0 where
  pub behind : (rest : List A) → EachSays Says (items_view (drop k values)) rest → EachSays Says (items_view values) (found ++ rest)
  pub nothing : ((rest : List A) → ¬ EachSays Says (items_view (drop k values)) rest) → (all : List A) → ¬ EachSays Says (items_view values) all

pub none_read : {A : Type 0} (Says : Data → A → Type 0) (values : List Value) → ReadSoFar Says values 0 []
none_read Says values = record { behind = λ rest says. says; nothing = λ none. none }

tail_says : {A : Type 0} (Says : Data → A → Type 0) (v : Value) (values : List Value) → ((rest : List A) → ¬ EachSays Says (items_view values) rest) → (all : List A) → ¬ EachSays Says (items_view (v ∷ values)) all
tail_says Says v values none [] says = says
tail_says Says v values none (x ∷ xs) says = none xs says.1

pub one_read : {A : Type 0} (Says : Data → A → Type 0) (values : List Value) (k : ℕ) (found : List A) (v : Value) (x : A) → k < length values → v ≡ get_or values k v → Says (view v) x
    → ReadSoFar Says values k found → ReadSoFar Says values (k + 1) (found ++ x ∷ [])
one_read {A} Says values k found v x within is says so =
    let ahead = next values k v within is in
    record {
      behind = λ rest after. subst (λ (all : List A). EachSays Says (items_view values) all) (sym (append_assoc found (x ∷ []) rest))
          (so.behind (x ∷ rest) (subst (λ (vs : List Value). EachSays Says (items_view vs) (x ∷ rest)) (sym ahead) (says, after)));
      nothing = λ none. so.nothing (subst (λ (vs : List Value). (rest : List A) → ¬ EachSays Says (items_view vs) rest) (sym ahead) (tail_says Says v (drop (k + 1) values) none));
    }

no_head : {A : Type 0} (Says : Data → A → Type 0) (v : Value) (values : List Value) → ((x : A) → ¬ Says (view v) x) → (all : List A) → ¬ EachSays Says (items_view (v ∷ values)) all
no_head Says v values none [] says = says
no_head Says v values none (x ∷ xs) says = none x says.0

pub not_read : {A : Type 0} (Says : Data → A → Type 0) (values : List Value) (k : ℕ) (found : List A) (v : Value) → k < length values → v ≡ get_or values k v → ((x : A) → ¬ Says (view v) x)
    → ReadSoFar Says values k found → (all : List A) → ¬ EachSays Says (items_view values) all
not_read {A} Says values k found v within is none so =
    so.nothing (subst (λ (vs : List Value). (rest : List A) → ¬ EachSays Says (items_view vs) rest) (sym (next values k v within is)) (no_head Says v (drop (k + 1) values) none))

pub all_read : {A : Type 0} (Says : Data → A → Type 0) (values : List Value) (k : ℕ) (found : List A) → length values ≤ k → ReadSoFar Says values k found → EachSays Says (items_view values) found
all_read {A} Says values k found end so =
    subst (λ (all : List A). EachSays Says (items_view values) all) (append-nil found)
    (so.behind [] (subst (λ (vs : List Value). EachSays Says (items_view vs) []) (sym (drop_all values k end)) tt))

-- so much was written of a list: what the rest is written as stands behind that
pub record WroteSoFar {A : Type 0} (tree : A → Data) (P : A → Type 0) (xs : List A) (k : ℕ) (written : List Value) : Type 0 where
  pub behind : (rest : List Value) → items_view rest ≡ items_tree tree (drop k xs) → items_view (written ++ rest) ≡ items_tree tree xs
  pub each : EachIs P (drop k xs) → EachIs P xs

pub none_written : {A : Type 0} (tree : A → Data) (P : A → Type 0) (xs : List A) → WroteSoFar tree P xs 0 []
none_written tree P xs = record { behind = λ rest is. is; each = λ all. all }

pub one_written : {A : Type 0} (tree : A → Data) (P : A → Type 0) (xs : List A) (k : ℕ) (written : List Value) (x : A) (v : Value) → k < length xs → x ≡ get_or xs k x → view v ≡ tree x → P x
    → WroteSoFar tree P xs k written → WroteSoFar tree P xs (k + 1) (written ++ v ∷ [])
one_written {A} tree P xs k written x v within at is holds so =
    let ahead = next xs k x within at in
    record {
      behind = λ rest after. ap items_view (append_assoc written (v ∷ []) rest)
          ∙ so.behind (v ∷ rest) (ap₂ (λ (d : Data) (ds : Items). item d ds) is after ∙ sym (ap (items_tree tree) ahead));
      each = λ all. so.each (subst (EachIs P) (sym ahead) (holds, all));
    }

pub all_written : {A : Type 0} (tree : A → Data) (P : A → Type 0) (xs : List A) (k : ℕ) (written : List Value) → length xs ≤ k → WroteSoFar tree P xs k written → (items_view written ≡ items_tree tree xs) × EachIs P xs
all_written {A} tree P xs k written end so =
    let none = drop_all xs k end in
    (ap items_view (sym (append-nil written)) ∙ so.behind [] (sym (ap (items_tree tree) none)), so.each (subst (EachIs P) (sym none) tt))
