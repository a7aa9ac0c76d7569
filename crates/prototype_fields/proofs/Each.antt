-- Reading the elements of a list one after the other: what all give is what was found so far, and what the rest gives.
use Rattle.std.proofs.Common.{◌≡◌, ◌∙◌, ◌<◌, ◌≤◌, ◌+◌, ◌++◌, ℕ, List, [], ◌∷◌, Option, Some, None, Ok, Err, length, map, drop, get_or, refl, ap, sym, append_assoc, append-nil}
use Rattle.std.specs.Option.{option_to_list}
pub use Rattle.plan_base.proofs.Walks.{next, drop_all}
use Rattle.prototype_fields.specs.declared.fault.FieldFault.{FieldFault}
use Rattle.prototype_fields.specs.Values.{Reading, ◌▸◌, Names, each, each_found, each_with_names}

abbrev pub prepended : {Y : Type 0} → List Y → Reading (List Y) → Reading (List Y)
prepended found rest = rest ▸ λ more. Ok (found ++ more)

prepended_more : {Y : Type 0} (found some : List Y) (rest : Reading (List Y)) → prepended found (rest ▸ λ more. Ok (some ++ more)) ≡ prepended (found ++ some) rest
prepended_more found some (Ok more) = ap Ok (sym (append_assoc found some more))
prepended_more found some (Err fault) = refl

-- ---- all elements give something
abbrev pub EachSoFar : {X Z Y : Type 0} → (X → Z) → (Z → Reading Y) → List X → ℕ → List Y → Type 0
EachSoFar view read xs k found = each read (map view xs) ≡ prepended found (each read (map view (drop k xs)))

pub each_first : {X Z Y : Type 0} (view : X → Z) (read : Z → Reading Y) (xs : List X) → EachSoFar view read xs 0 []
each_first view read xs = nothing (each read (map view xs))
  where
    nothing : {A : Type 0} (rest : Reading (List A)) → rest ≡ prepended [] rest
    nothing (Ok more) = refl
    nothing (Err fault) = refl

pub each_more : {X Z Y : Type 0} (view : X → Z) (read : Z → Reading Y) (xs : List X) (k : ℕ) (x : X) (y : Y) (found : List Y) → k < length xs → x ≡ get_or xs k x
    → read (view x) ≡ Ok y → EachSoFar view read xs k found → EachSoFar view read xs (k + 1) (found ++ y ∷ [])
each_more view read xs k x y found within is gives before =
    let rest : Reading (List _) = each read (map view (drop (k + 1) xs)) in
    before ∙ ap (λ ys. prepended found (each read (map view ys))) (next xs k x within is) ∙ ap (λ first. prepended found (first ▸ λ value. rest ▸ λ more. Ok (value ∷ more))) gives
    ∙ prepended_more found (y ∷ []) rest

pub each_fails : {X Z Y : Type 0} (view : X → Z) (read : Z → Reading Y) (xs : List X) (k : ℕ) (x : X) (fault : FieldFault) (found : List Y) → k < length xs → x ≡ get_or xs k x
    → read (view x) ≡ Err fault → EachSoFar view read xs k found → each read (map view xs) ≡ Err fault
each_fails view read xs k x fault found within is gives before =
    let rest : Reading (List _) = each read (map view (drop (k + 1) xs)) in
    before ∙ ap (λ ys. prepended found (each read (map view ys))) (next xs k x within is) ∙ ap (λ first. prepended found (first ▸ λ value. rest ▸ λ more. Ok (value ∷ more))) gives

pub each_done : {X Z Y : Type 0} (view : X → Z) (read : Z → Reading Y) (xs : List X) (k : ℕ) (found : List Y) → length xs ≤ k → EachSoFar view read xs k found → each read (map view xs) ≡ Ok found
each_done view read xs k found end before = before ∙ ap (λ ys. prepended found (each read (map view ys))) (drop_all xs k end) ∙ ap Ok (append-nil found)

-- ---- some elements give something
abbrev pub FoundSoFar : {X Z Y : Type 0} → (X → Z) → (Z → Reading (Option Y)) → List X → ℕ → List Y → Type 0
FoundSoFar view read xs k found = each_found read (map view xs) ≡ prepended found (each_found read (map view (drop k xs)))

pub found_first : {X Z Y : Type 0} (view : X → Z) (read : Z → Reading (Option Y)) (xs : List X) → FoundSoFar view read xs 0 []
found_first view read xs = nothing (each_found read (map view xs))
  where
    nothing : {A : Type 0} (rest : Reading (List A)) → rest ≡ prepended [] rest
    nothing (Ok more) = refl
    nothing (Err fault) = refl

found_step : {X Z Y : Type 0} (view : X → Z) (read : Z → Reading (Option Y)) (xs : List X) (k : ℕ) (x : X) (first : Reading (Option Y)) (found : List Y) → k < length xs → x ≡ get_or xs k x
    → read (view x) ≡ first → FoundSoFar view read xs k found
    → each_found read (map view xs) ≡ prepended found (first ▸ λ value. each_found read (map view (drop (k + 1) xs)) ▸ λ more. Ok (option_to_list value ++ more))
found_step view read xs k x first found within is gives before =
    let rest : Reading (List _) = each_found read (map view (drop (k + 1) xs)) in
    before ∙ ap (λ ys. prepended found (each_found read (map view ys))) (next xs k x within is) ∙ ap (λ one. prepended found (one ▸ λ value. rest ▸ λ more. Ok (option_to_list value ++ more))) gives

pub found_more : {X Z Y : Type 0} (view : X → Z) (read : Z → Reading (Option Y)) (xs : List X) (k : ℕ) (x : X) (y : Y) (found : List Y) → k < length xs → x ≡ get_or xs k x
    → read (view x) ≡ Ok (Some y) → FoundSoFar view read xs k found → FoundSoFar view read xs (k + 1) (found ++ y ∷ [])
found_more view read xs k x y found within is gives before =
    found_step view read xs k x (Ok (Some y)) found within is gives before ∙ prepended_more found (y ∷ []) (each_found read (map view (drop (k + 1) xs)))

pub found_none : {X Z Y : Type 0} (view : X → Z) (read : Z → Reading (Option Y)) (xs : List X) (k : ℕ) (x : X) (found : List Y) → k < length xs → x ≡ get_or xs k x
    → read (view x) ≡ Ok None → FoundSoFar view read xs k found → FoundSoFar view read xs (k + 1) found
found_none view read xs k x found within is gives before =
    found_step view read xs k x (Ok None) found within is gives before ∙ (prepended_more found [] (each_found read (map view (drop (k + 1) xs))) ∙ ap (λ ys. prepended ys (each_found read (map view (drop (k + 1) xs)))) (append-nil found))

pub found_fails : {X Z Y : Type 0} (view : X → Z) (read : Z → Reading (Option Y)) (xs : List X) (k : ℕ) (x : X) (fault : FieldFault) (found : List Y) → k < length xs → x ≡ get_or xs k x
    → read (view x) ≡ Err fault → FoundSoFar view read xs k found → each_found read (map view xs) ≡ Err fault
found_fails view read xs k x fault found within is gives before = found_step view read xs k x (Err fault) found within is gives before

pub found_done : {X Z Y : Type 0} (view : X → Z) (read : Z → Reading (Option Y)) (xs : List X) (k : ℕ) (found : List Y) → length xs ≤ k → FoundSoFar view read xs k found → each_found read (map view xs) ≡ Ok found
found_done view read xs k found end before = before ∙ ap (λ ys. prepended found (each_found read (map view ys))) (drop_all xs k end) ∙ ap Ok (append-nil found)

-- ---- the same with the names that were seen
abbrev pub prepended_with : {Y : Type 0} → List Y → Reading (List Y × Names) → Reading (List Y × Names)
prepended_with found rest = rest ▸ λ more. Ok (found ++ more.0, more.1)

prepended_with_more : {Y : Type 0} (found some : List Y) (rest : Reading (List Y × Names)) → prepended_with found (rest ▸ λ more. Ok (some ++ more.0, more.1)) ≡ prepended_with (found ++ some) rest
prepended_with_more found some (Ok more) = ap (λ ys. Ok (ys, more.1)) (sym (append_assoc found some more.0))
prepended_with_more found some (Err fault) = refl

abbrev pub NamedSoFar : {X Z Y : Type 0} → (X → Z) → (Z → Names → Reading (Option Y × Names)) → List X → Names → ℕ → List Y → Names → Type 0
NamedSoFar view read xs first k found names = each_with_names read (map view xs) first ≡ prepended_with found (each_with_names read (map view (drop k xs)) names)

pub named_first : {X Z Y : Type 0} (view : X → Z) (read : Z → Names → Reading (Option Y × Names)) (xs : List X) (names : Names) → NamedSoFar view read xs names 0 [] names
named_first view read xs names = nothing (each_with_names read (map view xs) names)
  where
    nothing : {A : Type 0} (rest : Reading (List A × Names)) → rest ≡ prepended_with [] rest
    nothing (Ok more) = refl
    nothing (Err fault) = refl

named_step : {X Z Y : Type 0} (view : X → Z) (read : Z → Names → Reading (Option Y × Names)) (xs : List X) (start : Names) (k : ℕ) (x : X) (first : Reading (Option Y × Names)) (found : List Y) (names : Names) → k < length xs → x ≡ get_or xs k x
    → read (view x) names ≡ first → NamedSoFar view read xs start k found names
    → each_with_names read (map view xs) start ≡ prepended_with found (first ▸ λ value. each_with_names read (map view (drop (k + 1) xs)) value.1 ▸ λ more. Ok (option_to_list value.0 ++ more.0, more.1))
named_step view read xs start k x first found names within is gives before =
    before ∙ ap (λ ys. prepended_with found (each_with_names read (map view ys) names)) (next xs k x within is)
    ∙ ap (λ one. prepended_with found (one ▸ λ value. each_with_names read (map view (drop (k + 1) xs)) value.1 ▸ λ more. Ok (option_to_list value.0 ++ more.0, more.1))) gives

pub named_more : {X Z Y : Type 0} (view : X → Z) (read : Z → Names → Reading (Option Y × Names)) (xs : List X) (start : Names) (k : ℕ) (x : X) (y : Y) (found : List Y) (names after : Names) → k < length xs → x ≡ get_or xs k x
    → read (view x) names ≡ Ok (Some y, after) → NamedSoFar view read xs start k found names → NamedSoFar view read xs start (k + 1) (found ++ y ∷ []) after
named_more view read xs start k x y found names after within is gives before =
    named_step view read xs start k x (Ok (Some y, after)) found names within is gives before ∙ prepended_with_more found (y ∷ []) (each_with_names read (map view (drop (k + 1) xs)) after)

pub named_none : {X Z Y : Type 0} (view : X → Z) (read : Z → Names → Reading (Option Y × Names)) (xs : List X) (start : Names) (k : ℕ) (x : X) (found : List Y) (names after : Names) → k < length xs → x ≡ get_or xs k x
    → read (view x) names ≡ Ok (None, after) → NamedSoFar view read xs start k found names → NamedSoFar view read xs start (k + 1) found after
named_none view read xs start k x found names after within is gives before =
    named_step view read xs start k x (Ok (None, after)) found names within is gives before
    ∙ (prepended_with_more found [] (each_with_names read (map view (drop (k + 1) xs)) after) ∙ ap (λ ys. prepended_with ys (each_with_names read (map view (drop (k + 1) xs)) after)) (append-nil found))

pub named_fails : {X Z Y : Type 0} (view : X → Z) (read : Z → Names → Reading (Option Y × Names)) (xs : List X) (start : Names) (k : ℕ) (x : X) (fault : FieldFault) (found : List Y) (names : Names) → k < length xs → x ≡ get_or xs k x
    → read (view x) names ≡ Err fault → NamedSoFar view read xs start k found names → each_with_names read (map view xs) start ≡ Err fault
named_fails view read xs start k x fault found names within is gives before = named_step view read xs start k x (Err fault) found names within is gives before

pub named_done : {X Z Y : Type 0} (view : X → Z) (read : Z → Names → Reading (Option Y × Names)) (xs : List X) (start : Names) (k : ℕ) (found : List Y) (names : Names) → length xs ≤ k → NamedSoFar view read xs start k found names → each_with_names read (map view xs) start ≡ Ok (found, names)
named_done view read xs start k found names end before =
    before ∙ ap (λ ys. prepended_with found (each_with_names read (map view ys) names)) (drop_all xs k end) ∙ ap (λ ys. Ok (ys, names)) (append-nil found)
