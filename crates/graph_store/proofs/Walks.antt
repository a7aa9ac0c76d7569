-- Lists, walked element by element.
use Rattle.std.proofs.Common.{◌≡◌, ◌∙◌, ◌<◌, ◌≤◌, ◌+◌, ◌++◌, ℕ, zero, suc, Bool, true, false, List, [], ◌∷◌, length, map, drop, get_or, refl, ap, sym, subst, append_assoc, append-nil, arith}
use Rattle.std.specs.Prelude.{if◌then◌else◌, All, Some, slice_get}
use Rattle.std.proofs.lemmas.List.Elements.{All-map}
use Rattle.std.proofs.lemmas.List.{get_or_default}
use Rattle.plan_base.specs.declared.ids.NodeId.{NodeId}
use Rattle.plan_base.proofs.Walks.{next, drop_all}
use Rattle.graph_store.specs.Members.{node, those}

-- what f gives for the elements, put behind a list one by one
abbrev pub Appended : {X Y : Type 0} → (X → Y) → List Y → List X → ℕ → List Y → Type 0
Appended f old xs k ys = ys ++ map f (drop k xs) ≡ old ++ map f xs

pub appended_more : {X Y : Type 0} (f : X → Y) (old : List Y) (xs : List X) (k : ℕ) (x : X) (ys new : List Y) → k < length xs → x ≡ get_or xs k x
    → new ≡ ys ++ f x ∷ [] → Appended f old xs k ys → Appended f old xs (k + 1) new
appended_more f old xs k x ys new within is put before =
    ap (λ n. n ++ map f (drop (k + 1) xs)) put ∙ append_assoc ys (f x ∷ []) (map f (drop (k + 1) xs)) ∙ ap (λ rest. ys ++ map f rest) (sym (next xs k x within is)) ∙ before

pub appended_all : {X Y : Type 0} (f : X → Y) (old : List Y) (xs : List X) (k : ℕ) (ys : List Y) → length xs ≤ k → Appended f old xs k ys → ys ≡ old ++ map f xs
appended_all f old xs k ys end before = sym (append-nil ys) ∙ ap (λ rest. ys ++ map f rest) (sym (drop_all xs k end)) ∙ before

-- the nodes of the things that pass, so far, with those that are to come
pub record ThoseSoFar {A : Type 0} (test : A → Bool) (first : ℕ) (things : List A) (old : List NodeId) (k n : ℕ) (nodes : List NodeId) : Type 0 where
  pub number : n ≡ first + k
  pub joined : nodes ++ those test n (drop k things) ≡ old ++ those test first things

pub chosen : {A : Type 0} (test : A → Bool) (n : ℕ) (x : A) (rest : List A) (nodes : List NodeId) (b : Bool) → test x ≡ b
    → nodes ++ those test n (x ∷ rest) ≡ (if b then nodes ++ node n ∷ [] else nodes) ++ those test (n + 1) rest
chosen test n x rest nodes true is = ap (λ b. nodes ++ (if b then node n ∷ those test (n + 1) rest else those test (n + 1) rest)) is ∙ sym (append_assoc nodes (node n ∷ []) (those test (n + 1) rest))
chosen test n x rest nodes false is = ap (λ b. nodes ++ (if b then node n ∷ those test (n + 1) rest else those test (n + 1) rest)) is

pub those_more : {A : Type 0} (test : A → Bool) (first : ℕ) (things : List A) (old : List NodeId) (k n : ℕ) (x : A) (nodes new : List NodeId) (b : Bool) → k < length things → x ≡ get_or things k x
    → test x ≡ b → new ≡ (if b then nodes ++ node n ∷ [] else nodes) → ThoseSoFar test first things old k n nodes → ThoseSoFar test first things old (k + 1) (n + 1) new
those_more test first things old k n x nodes new b within is passes put before = record {
  number = omega (arith, before.number);
  joined = ap (λ l. l ++ those test (n + 1) (drop (k + 1) things)) put ∙ sym (chosen test n x (drop (k + 1) things) nodes b passes)
      ∙ ap (λ rest. nodes ++ those test n rest) (sym (next things k x within is)) ∙ before.joined;
}

pub those_all : {A : Type 0} (test : A → Bool) (first : ℕ) (things : List A) (old : List NodeId) (k n : ℕ) (nodes : List NodeId) → length things ≤ k → ThoseSoFar test first things old k n nodes → nodes ≡ old ++ those test first things
those_all test first things old k n nodes end before = sym (append-nil nodes) ∙ ap (λ rest. nodes ++ those test n rest) (sym (drop_all things k end)) ∙ before.joined

-- numbers that are those of things are below what the things' numbers are below
pub numbers_below : {A : Type 0} (f : A → ℕ) (things seen : List A) (numbers : List ℕ) (count n : ℕ) → All (λ x. f x < n) things → seen ≡ things → numbers ≡ map f seen → count ≡ n → All (λ k. k < count) numbers
numbers_below f things seen numbers count n each same are is =
    let P : List ℕ → Type 0 = λ l. All (λ k. k < n) l in
    let Q : ℕ → Type 0 = λ m. All (λ k. k < m) numbers in
    subst Q (sym is) (subst P (sym (are ∙ ap (map f) same)) (All-map (λ k. k < n) f things each))

-- an element is what stands at its place, whatever stands for none
pub at_self : {X : Type 0} (xs : List X) (k : ℕ) (d : X) → k < length xs → get_or xs k d ≡ get_or xs k (get_or xs k d)
at_self xs k d within = grind (arith, get_or_default)

-- what stands at a place
pub there_at : {X : Type 0} → (xs : List X) (k : ℕ) (d : X) → k < length xs → slice_get xs k ≡ Some (get_or xs k d)
there_at [] k d within = absurd (omega (arith, within))
there_at (x ∷ xs) zero d within = refl
there_at (x ∷ xs) (suc k) d within = there_at xs k d (omega (arith, within))
