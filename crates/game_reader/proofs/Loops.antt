-- Loops over lists: what all give is what was found so far, and what the rest gives behind it.
use Rattle.std.proofs.Common.{◌≡◌, ◌∙◌, ◌+◌, ◌<◌, ◌≤◌, ℕ, List, [], ◌∷◌, ◌++◌, Some, Ok, Err, Result, length, drop, refl, ap, sym, append_assoc, append-nil, arith, add-one}
use Rattle.std.specs.Prelude.{slice_get, get_or}
use Rattle.std.proofs.lemmas.List.{length_push}
use Rattle.std.proofs.lemmas.Option.{get_or_from_slice_get, slice_get_within}
use Rattle.prototype_fields.proofs.Each.{next}
use Rattle.prototype_fields.specs.Values.{Reading, ◌▸◌, each}
use Rattle.prototype_fields.specs.declared.fault.FieldFault.{FieldFault}
use Rattle.craft_reader.specs.declared.fault.DumpFault.{DumpFault}
use Rattle.craft_reader.specs.Faults.{in_prototype}
use Rattle.machine_reader.specs.declared.sections.Section.{Section}
use Rattle.dump_reader.specs.Dump.{◌▷◌}
use Rattle.machine_reader.specs.Sections.{section_text}
use Rattle.game_reader.specs.Links.{each_linked}

-- ---- elements
abbrev pub each_onto : {A B : Type 0} → (A → Reading B) → List B → List A → Reading (List B)
each_onto read found [] = Ok found
each_onto read found (x ∷ xs) = read x ▸ λ y. each_onto read (found ++ y ∷ []) xs

abbrev onto : {B : Type 0} → List B → Reading (List B) → Reading (List B)
onto found rest = rest ▸ λ more. Ok (found ++ more)

onto_more : {B : Type 0} (found : List B) (y : B) (rest : Reading (List B)) → onto (found ++ y ∷ []) rest ≡ onto found (rest ▸ λ more. Ok (y ∷ more))
onto_more found y (Ok more) = ap Ok (append_assoc found (y ∷ []) more)
onto_more found y (Err fault) = refl

each_onto_is : {A B : Type 0} (read : A → Reading B) (found : List B) → (xs : List A) → each_onto read found xs ≡ onto found (each read xs)
each_onto_is read found [] = ap Ok (sym (append-nil found))
each_onto_is {A = A} {B = B} read found (x ∷ xs) = by_head (λ y. each_onto_is read (found ++ y ∷ []) xs) (read x)
  where
    by_head : ((y : B) → each_onto read (found ++ y ∷ []) xs ≡ onto (found ++ y ∷ []) (each read xs)) → (head : Reading B) → (head ▸ λ y. each_onto read (found ++ y ∷ []) xs) ≡ onto found (head ▸ λ y. each read xs ▸ λ more. Ok (y ∷ more))
    by_head rest (Ok y) = rest y ∙ onto_more found y (each read xs)
    by_head rest (Err fault) = refl

nothing_before : {B : Type 0} (rest : Reading (List B)) → onto [] rest ≡ rest
nothing_before (Ok more) = refl
nothing_before (Err fault) = refl

pub each_from_nothing : {A B : Type 0} (read : A → Reading B) (xs : List A) → each read xs ≡ each_onto read [] xs
each_from_nothing read xs = sym (each_onto_is read [] xs ∙ nothing_before (each read xs))

-- a loop over a list: nothing was found before it, one more in a turn, the first fault, and the end
pub each_first : {A B : Type 0} (read : A → Reading B) (xs : List A) (found : List B) → found ≡ [] → each read xs ≡ each_onto read found (drop 0 xs)
each_first read xs found none = each_from_nothing read xs ∙ ap (λ some. each_onto read some xs) (sym none)

each_turn : {A B : Type 0} (read : A → Reading B) (xs : List A) (k : ℕ) (raw x : A) (found : List B) (r : Reading B) → k < length xs → raw ≡ get_or xs k raw → x ≡ raw → r ≡ read x
    → each read xs ≡ each_onto read found (drop k xs) → each read xs ≡ (r ▸ λ y. each_onto read (found ++ y ∷ []) (drop (k + 1) xs))
each_turn read xs k raw x found r within at shown gives before =
    before ∙ ap (each_onto read found) (next xs k raw within at) ∙ ap (λ first. first ▸ λ y. each_onto read (found ++ y ∷ []) (drop (k + 1) xs)) (ap read (sym shown) ∙ sym gives)

pub each_more : {A B : Type 0} (read : A → Reading B) (xs : List A) (k : ℕ) (raw x : A) (found more : List B) (y : B) → k < length xs → raw ≡ get_or xs k raw → x ≡ raw → Ok y ≡ read x → more ≡ found ++ y ∷ []
    → each read xs ≡ each_onto read found (drop k xs) → each read xs ≡ each_onto read more (drop (k + 1) xs)
each_more read xs k raw x found more y within at shown gives put before =
    each_turn read xs k raw x found (Ok y) within at shown gives before ∙ ap (λ some. each_onto read some (drop (k + 1) xs)) (sym put)

pub each_fails : {A B : Type 0} (read : A → Reading B) (xs all : List A) (k : ℕ) (raw x : A) (found : List B) (fault : FieldFault) → k < length xs → raw ≡ get_or xs k raw → x ≡ raw → Err fault ≡ read x
    → xs ≡ all → each read xs ≡ each_onto read found (drop k xs) → each read all ≡ Err fault
each_fails read xs all k raw x found fault within at shown gives same before =
    ap (each read) (sym same) ∙ each_turn read xs k raw x found (Err fault) within at shown gives before

-- ---- prototypes beside their names
abbrev pub linked_onto : {A B : Type 0} → (A → Section) → (A → Reading B) → List B → List A → List (List ℕ) → Result (List B) DumpFault
linked_onto section_of link found (raw ∷ raws) (name ∷ names) =
    in_prototype (section_text (section_of raw)) name (link raw) ▷ λ one. linked_onto section_of link (found ++ one ∷ []) raws names
linked_onto section_of link found raws names = Ok found

abbrev placed_onto : {B : Type 0} → List B → Result (List B) DumpFault → Result (List B) DumpFault
placed_onto found rest = rest ▷ λ more. Ok (found ++ more)

placed_onto_more : {B : Type 0} (found : List B) (y : B) (rest : Result (List B) DumpFault) → placed_onto (found ++ y ∷ []) rest ≡ placed_onto found (rest ▷ λ more. Ok (y ∷ more))
placed_onto_more found y (Ok more) = ap Ok (append_assoc found (y ∷ []) more)
placed_onto_more found y (Err fault) = refl

linked_onto_is : {A B : Type 0} (section_of : A → Section) (link : A → Reading B) (found : List B) → (raws : List A) (names : List (List ℕ)) → linked_onto section_of link found raws names ≡ placed_onto found (each_linked section_of link raws names)
linked_onto_is section_of link found [] names = ap Ok (sym (append-nil found))
linked_onto_is section_of link found (raw ∷ raws) [] = ap Ok (sym (append-nil found))
linked_onto_is {A = A} {B = B} section_of link found (raw ∷ raws) (name ∷ names) = by_head (λ y. linked_onto_is section_of link (found ++ y ∷ []) raws names) (in_prototype (section_text (section_of raw)) name (link raw))
  where
    by_head : ((y : B) → linked_onto section_of link (found ++ y ∷ []) raws names ≡ placed_onto (found ++ y ∷ []) (each_linked section_of link raws names)) → (head : Result B DumpFault)
        → (head ▷ λ one. linked_onto section_of link (found ++ one ∷ []) raws names) ≡ placed_onto found (head ▷ λ y. each_linked section_of link raws names ▷ λ more. Ok (y ∷ more))
    by_head rest (Ok y) = rest y ∙ placed_onto_more found y (each_linked section_of link raws names)
    by_head rest (Err fault) = refl

none_before : {B : Type 0} (rest : Result (List B) DumpFault) → placed_onto [] rest ≡ rest
none_before (Ok more) = refl
none_before (Err fault) = refl

pub linked_from_nothing : {A B : Type 0} (section_of : A → Section) (link : A → Reading B) (raws : List A) (names : List (List ℕ)) → each_linked section_of link raws names ≡ linked_onto section_of link [] raws names
linked_from_nothing section_of link raws names = sym (linked_onto_is section_of link [] raws names ∙ none_before (each_linked section_of link raws names))

-- a loop that has the prototypes of `rest` before it, and says that `left` are left
pub record LinkedSoFar {A B : Type 0} (section_of : A → Section) (link : A → Reading B) (raws : List A) (names : List (List ℕ)) (rest : List A) (left : ℕ) (found : List B) : Type 0 where
  pub so_far : each_linked section_of link raws names ≡ linked_onto section_of link found rest (drop (length found) names)
  pub room : length found + length rest ≡ length names
  pub counted : left ≡ length rest

drop_next : (names : List (List ℕ)) (k : ℕ) (name : List ℕ) → slice_get names k ≡ Some name → drop k names ≡ name ∷ drop (k + 1) names
drop_next names k name at = next names k name (slice_get_within names k name at) (sym (get_or_from_slice_get names k name name at))

pub linked_first : {A B : Type 0} {section_of : A → Section} {link : A → Reading B} {raws : List A} {names : List (List ℕ)} {rest : List A} {left : ℕ} {found : List B}
    → rest ≡ raws → left ≡ length raws → found ≡ [] → length raws ≡ length names → LinkedSoFar section_of link raws names rest left found
linked_first {section_of = section_of} {link = link} {raws = raws} {names = names} {rest = rest} {left = left} {found = found} same count none few = record {
  so_far = linked_from_nothing section_of link raws names ∙ ap (λ xs. linked_onto section_of link [] xs names) (sym same) ∙ ap (λ ys. linked_onto section_of link ys rest (drop (length ys) names)) (sym none);
  room = let e : length found ≡ 0 = ap length none in let f : length rest ≡ length raws = ap length same in omega arith;
  counted = let f : length rest ≡ length raws = ap length same in omega arith;
}

step : {A B : Type 0} (section_of : A → Section) (link : A → Reading B) (raws : List A) (names : List (List ℕ)) (rest after : List A) (left : ℕ) (found : List B) (raw : A) (name : List ℕ) (r : Result B DumpFault)
    → rest ≡ raw ∷ after → slice_get names (length found) ≡ Some name → in_prototype (section_text (section_of raw)) name (link raw) ≡ r → LinkedSoFar section_of link raws names rest left found
    → each_linked section_of link raws names ≡ (r ▷ λ one. linked_onto section_of link (found ++ one ∷ []) after (drop (length found + 1) names))
step section_of link raws names rest after left found raw name r is at gives before =
    before.so_far ∙ ap (λ xs. linked_onto section_of link found xs (drop (length found) names)) is ∙ ap (λ ys. linked_onto section_of link found (raw ∷ after) ys) (drop_next names (length found) name at)
    ∙ ap (λ first. first ▷ λ one. linked_onto section_of link (found ++ one ∷ []) after (drop (length found + 1) names)) gives

pub linked_more : {A B : Type 0} {section_of : A → Section} {link : A → Reading B} {raws : List A} {names : List (List ℕ)} {rest : List A} {left : ℕ} {found : List B} {after : List A} {fewer : ℕ} {more : List B} {raw : A} {name : List ℕ} {one : B}
    → LinkedSoFar section_of link raws names rest left found → rest ≡ raw ∷ after → fewer + 1 ≡ left → slice_get names (length found) ≡ Some name → in_prototype (section_text (section_of raw)) name (link raw) ≡ Ok one
    → more ≡ found ++ one ∷ [] → LinkedSoFar section_of link raws names after fewer more
linked_more {section_of = section_of} {link = link} {raws = raws} {names = names} {rest = rest} {left = left} {found = found} {after = after} {fewer = fewer} {more = more} {raw = raw} {name = name} {one = one} before is less at gives put =
    let e : length more ≡ length found + 1 = ap length put ∙ length_push found one in
    let f : length rest ≡ length after + 1 = ap length is ∙ sym (add-one (length after)) in
    let room : length found + length rest ≡ length names = before.room in
    let count : left ≡ length rest = before.counted in
    record {
      so_far = step section_of link raws names rest after left found raw name (Ok one) is at gives before
          ∙ ap (λ k. linked_onto section_of link (found ++ one ∷ []) after (drop k names)) (sym e) ∙ ap (λ ys. linked_onto section_of link ys after (drop (length more) names)) (sym put);
      room = omega arith;
      counted = omega arith;
    }

pub linked_fails : {A B : Type 0} {section_of : A → Section} {link : A → Reading B} {raws : List A} {names : List (List ℕ)} {rest : List A} {left : ℕ} {found : List B} {after : List A} {raw : A} {name : List ℕ} {fault : DumpFault}
    → LinkedSoFar section_of link raws names rest left found → rest ≡ raw ∷ after → slice_get names (length found) ≡ Some name → in_prototype (section_text (section_of raw)) name (link raw) ≡ Err fault
    → each_linked section_of link raws names ≡ Err fault
linked_fails {section_of = section_of} {link = link} {raws = raws} {names = names} {rest = rest} {left = left} {found = found} {after = after} {raw = raw} {name = name} {fault = fault} before is at gives = step section_of link raws names rest after left found raw name (Err fault) is at gives before

no_more : {A : Type 0} → (rest : List A) → length rest ≡ 0 → rest ≡ []
no_more [] end = refl
no_more (x ∷ xs) end = absurd (omega (arith, end))

pub linked_done : {A B : Type 0} (section_of : A → Section) (link : A → Reading B) (raws : List A) (names : List (List ℕ)) (rest : List A) (left : ℕ) (found : List B) → left ≡ 0
    → LinkedSoFar section_of link raws names rest left found → each_linked section_of link raws names ≡ Ok found
linked_done section_of link raws names rest left found end before = before.so_far ∙ ap (λ xs. linked_onto section_of link found xs (drop (length found) names)) (no_more rest (sym before.counted ∙ end))

-- there is a name for the next
pub linked_room : {A B : Type 0} (section_of : A → Section) (link : A → Reading B) (raws : List A) (names : List (List ℕ)) (rest after : List A) (left : ℕ) (found : List B) (raw : A) → rest ≡ raw ∷ after
    → LinkedSoFar section_of link raws names rest left found → length found < length names
linked_room section_of link raws names rest after left found raw is before =
    let f : length rest ≡ length after + 1 = ap length is ∙ sym (add-one (length after)) in
    let room : length found + length rest ≡ length names = before.room in
    omega arith
