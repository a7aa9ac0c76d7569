-- Lists of values, written one by one.
use Rattle.std.proofs.Common.{◌≡◌, ◌∙◌, ◌<◌, ◌≤◌, ◌+◌, ℕ, List, [], ◌∷◌, ◌++◌, length, map, take, get_or, refl, sym, ap, arith}
use Rattle.std.proofs.lemmas.List.{map-append, take_all, take_more}
use Rattle.serde_json.specs.Data.{Data}
use Rattle.serde_json.specs.View.{view}
use Rattle.serde_json.specs.declared.value.Value.{Value}

-- what was written of a list are its first elements
pub record Wrote {A : Type 0} (tree : A → Data) (xs : List A) (k : ℕ) (written : List Value) : Type 0 where
  pub told : map view written ≡ map tree (take k xs)

pub none_told : {A : Type 0} (tree : A → Data) (xs : List A) → Wrote tree xs 0 []
none_told tree xs = record { told = refl }

pub one_told : {A : Type 0} (tree : A → Data) (xs : List A) (k : ℕ) (old new : List Value) (x : A) (v : Value) → k < length xs → x ≡ get_or xs k x → view v ≡ tree x → new ≡ old ++ v ∷ []
    → Wrote tree xs k old → Wrote tree xs (k + 1) new
one_told tree xs k old new x v within at is put so = record {
  told =
      ap (map view) put
      ∙ (map-append view old (v ∷ [])
      ∙ (ap (λ l. l ++ view v ∷ []) so.told
      ∙ (ap (λ (d : Data). map tree (take k xs) ++ d ∷ []) (is ∙ ap tree at)
      ∙ (sym (map-append tree (take k xs) (get_or xs k x ∷ []))
      ∙ sym (ap (map tree) (take_more xs k x within))))));
}

pub all_told : {A : Type 0} (tree : A → Data) (xs : List A) (k : ℕ) (written : List Value) → length xs ≤ k → Wrote tree xs k written → map view written ≡ map tree xs
all_told tree xs k written end so = so.told ∙ ap (map tree) (take_all k xs end)

-- one more value behind those of what an iterator gave
pub one_given : {A P : Type 0} (tree : A → Data) (seen : P → A) (given : List P) (p : P) (old new : List Value) (v : Value) → map view old ≡ map tree (map seen given) → view v ≡ tree (seen p) → new ≡ old ++ v ∷ []
    → map view new ≡ map tree (map seen (given ++ p ∷ []))
one_given tree seen given p old new v so is put =
    ap (map view) put
    ∙ (map-append view old (v ∷ [])
    ∙ (ap (λ l. l ++ view v ∷ []) so
    ∙ (ap (λ (d : Data). map tree (map seen given) ++ d ∷ []) is
    ∙ (sym (map-append tree (map seen given) (seen p ∷ []))
    ∙ sym (ap (map tree) (map-append seen given (p ∷ [])))))))
