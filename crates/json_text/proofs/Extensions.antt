-- No value's text is the front of another's, but for numerals.
use Rattle.std.proofs.Common.{◌≡◌, ◌∙◌, ℕ, suc, ◌+◌, ◌≤◌, List, [], ◌∷◌, ◌++◌, length, refl, ap, sym, subst, arith, Bool, true, false, Some, None, Option, append_assoc, append-nil, length-append}
use Rattle.std.specs.Prelude.{flat_map, IsTrue, ◌&&◌, if◌then◌else◌}
use Rattle.std.specs.List.{list_all}
use Rattle.std.proofs.lemmas.Bool.Decides.{nat_tests}
use Rattle.std.proofs.lemmas.Bool.{and_parts}
use Rattle.json_text.specs.Text.{is_space, IsSpace, IsNumber, char_text}
use Rattle.json_text.specs.Json.{Json, text, elements_text, members_text, IsJson, depth}
use Rattle.json_text.specs.Json as json
use Rattle.json_text.specs.Kept.{Wishes}
use Rattle.json_text.specs.Kept as k
use Rattle.json_text.specs.Accepted.{Bounds}
use Rattle.json_text.specs.Lexing.{number_next, is_whole, is_nonzero}
use Rattle.json_text.specs.Machine.{Frame, run, class, value, finish, done, first_element, first_key, faulted, is_deep, in_number, for_value, skip_list, skip_object, limited, tree}
use Rattle.json_text.specs.declared.fault.JsonCode.TheVariants.{TooDeep}
use Rattle.json_text.specs.Cutting.{Phases, Starts, starts_zero, starts_whole, starts_minus, NumberTo}
use Rattle.json_text.specs.declared.number.Phase.{Phase}
use Rattle.json_text.specs.declared.number.Phase.TheVariants as phase
use Rattle.json_text.proofs.Numerals.{number_runs, NumberRuns}
use Rattle.json_text.proofs.Steps.{number-stops, number-ends, behind-finish}
use Rattle.json_text.proofs.Pieces.{run-at, run-space, run-string, run-phases, first_digit, not_deep, run-null, run-true, run-false}
use Rattle.json_text.proofs.Complete.{bare_word, run-bare, elements_first, members_first, skip_text, skip_elements, skip_members}
use Rattle.json_text.proofs.Sound.{done_space}
use Rattle.json_text.proofs.Cuts.{number_push, number_whole, zero_goes}

-- a numeral that does not go on with a byte
none_next : (digits : List ℕ) (r : NumberRuns digits) (b : ℕ) → ((more : List ℕ) → IsNumber (digits ++ b ∷ more) → ⊥) → number_next r.ends.last b ≡ None
none_next digits r b stops = on (number_next r.ends.last b) refl
  where
    here : NumberTo r.ends.last digits
    here = record { first = r.first; rest = r.rest; begin = r.phase; spelled = r.spelled; starts = r.starts; phases = r.ends.phases }

    next_is : (next : Phase) (whole : Bool) → number_next r.ends.last b ≡ Some next → is_whole next ≡ whole → ⊥
    next_is next true e w = stops [] (number_whole next (digits ++ b ∷ []) (number_push r.ends.last next digits b here e) w)
    next_is next false e w =
        let z = zero_goes next w in
        let t = number_push next z.0 (digits ++ b ∷ []) 48 (number_push r.ends.last next digits b here e) z.1 in
        stops (48 ∷ []) (subst IsNumber (append_assoc digits (b ∷ []) (48 ∷ [])) (number_whole z.0 ((digits ++ b ∷ []) ++ 48 ∷ []) t z.2))

    on : (o : Option Phase) → number_next r.ends.last b ≡ o → o ≡ None
    on (Some next) e = absurd (next_is next (is_whole next) e refl)
    on None e = refl

number_then : (lim : Bounds) (w : Wishes) (p n : ℕ) (fs : List Frame) (digits : List ℕ) (b : ℕ) (rest : List ℕ) (end : ℕ) → IsNumber digits → ((more : List ℕ) → IsNumber (digits ++ b ∷ more) → ⊥) → p + length digits ≡ end
    → run lim w p (value false n fs) (digits ++ b ∷ rest) ≡ run lim w end (finish (k.skipped p) n fs) (b ∷ rest)
number_then lim w p n fs digits b rest end h stops e =
    let r = number_runs digits h in
    let a = r.first in
    let last = r.ends.last in
    let none = none_next digits r b stops in
    let place : suc p + length r.rest ≡ end = omega (arith, ap length r.spelled) in
    ap (λ x. run lim w p (value false n fs) (x ++ b ∷ rest)) r.spelled
    ∙ ap (λ g. run lim w (suc p) (limited lim p g) (r.rest ++ b ∷ rest)) (first_digit w p false n fs a r.phase r.starts)
    ∙ run-phases lim w (suc p) false p (a ∷ []) r.phase last n fs r.rest (b ∷ rest) r.ends.phases
    ∙ ap (λ x. run lim w x (in_number false p (a ∷ r.rest) last n fs) (b ∷ rest)) place
    ∙ ap (λ g. run lim w (suc end) (limited lim end g) rest) (number-stops w end false p (a ∷ r.rest) last n fs b (class b) none ∙ number-ends false p (a ∷ r.rest) last n fs b r.ends.whole ∙ behind-finish w end b (k.skipped p) n fs)

-- a value, whatever stands behind it
pub skip_then : (lim : Bounds) (w : Wishes) (p n : ℕ) (fs : List Frame) (j : Json) (b : ℕ) (rest : List ℕ) (q : ℕ) → IsJson j → (IsTrue lim.nested → depth j + length fs ≤ 200) → ((digits : List ℕ) → j ≡ json.number digits → (more : List ℕ) → IsNumber (digits ++ b ∷ more) → ⊥) → p + length (text j) ≡ q
    → run lim w p (value false n fs) (text j ++ b ∷ rest) ≡ run lim w q (finish (k.skipped p) n fs) (b ∷ rest)
unfolding class
skip_then lim w p n fs json.null b rest q j d stops e = run-null lim w p false n fs (b ∷ rest) q e
skip_then lim w p n fs (json.flag true) b rest q j d stops e = run-true lim w p false n fs (b ∷ rest) q e
skip_then lim w p n fs (json.flag false) b rest q j d stops e = run-false lim w p false n fs (b ∷ rest) q e
skip_then lim w p n fs (json.bare word) b rest q j d stops e = run-bare word j lim w p false n fs (b ∷ rest) q e
skip_then lim w p n fs (json.number digits) b rest q j d stops e = number_then lim w p n fs digits b rest q j (stops digits refl) e
skip_then lim w p n fs (json.string chars) b rest q j d stops e = run-string lim w p (for_value false p) n fs chars (b ∷ rest) q j e
skip_then lim w p n fs (json.empty_list s) b rest q j d stops e =
    let room : (is_deep fs && lim.nested) ≡ false = not_deep lim fs (λ t. omega (arith, d t)) in
    ap (λ x. run lim w (suc p) (if x then faulted TooDeep p else first_element n (skip_list p) fs) ((s ++ 93 ∷ []) ++ (b ∷ rest))) room
    ∙ ap (run lim w (suc p) (first_element n (skip_list p) fs)) (append_assoc s (93 ∷ []) (b ∷ rest))
    ∙ run-space lim w (suc p) (first_element n (skip_list p) fs) s (93 ∷ (b ∷ rest)) (suc p + length s) j tt refl
    ∙ run-at lim w (suc (suc p + length s)) q (finish (k.skipped p) n fs) (b ∷ rest) (omega (arith, length-append s (93 ∷ [])))
skip_then lim w p n fs (json.list es) b rest q j d stops e =
    let room : (is_deep fs && lim.nested) ≡ false = not_deep lim fs (λ t. omega (arith, d t)) in
    ap (λ x. run lim w (suc p) (if x then faulted TooDeep p else first_element n (skip_list p) fs) ((elements_text es ++ 93 ∷ []) ++ (b ∷ rest))) room
    ∙ ap (run lim w (suc p) (first_element n (skip_list p) fs)) (append_assoc (elements_text es) (93 ∷ []) (b ∷ rest))
    ∙ elements_first lim w (suc p) n (skip_list p) fs es (93 ∷ (b ∷ rest)) j refl
    ∙ skip_elements lim w (suc p) p n fs es (b ∷ rest) q j (λ t. omega (arith, d t)) (omega (arith, length-append (elements_text es) (93 ∷ [])))
skip_then lim w p n fs (json.empty_object s) b rest q j d stops e =
    let room : (is_deep fs && lim.nested) ≡ false = not_deep lim fs (λ t. omega (arith, d t)) in
    ap (λ x. run lim w (suc p) (if x then faulted TooDeep p else first_key n (skip_object p) fs) ((s ++ 125 ∷ []) ++ (b ∷ rest))) room
    ∙ ap (run lim w (suc p) (first_key n (skip_object p) fs)) (append_assoc s (125 ∷ []) (b ∷ rest))
    ∙ run-space lim w (suc p) (first_key n (skip_object p) fs) s (125 ∷ (b ∷ rest)) (suc p + length s) j tt refl
    ∙ run-at lim w (suc (suc p + length s)) q (finish (k.skipped p) n fs) (b ∷ rest) (omega (arith, length-append s (125 ∷ [])))
skip_then lim w p n fs (json.object ms) b rest q j d stops e =
    let room : (is_deep fs && lim.nested) ≡ false = not_deep lim fs (λ t. omega (arith, d t)) in
    ap (λ x. run lim w (suc p) (if x then faulted TooDeep p else first_key n (skip_object p) fs) ((members_text ms ++ 125 ∷ []) ++ (b ∷ rest))) room
    ∙ ap (run lim w (suc p) (first_key n (skip_object p) fs)) (append_assoc (members_text ms) (125 ∷ []) (b ∷ rest))
    ∙ members_first lim w (suc p) n (skip_object p) fs ms (125 ∷ (b ∷ rest)) j refl
    ∙ skip_members lim w (suc p) p n fs ms (b ∷ rest) q j (λ t. omega (arith, d t)) (omega (arith, length-append (members_text ms) (125 ∷ [])))

-- the last byte of a text
last_of : ℕ → List ℕ → ℕ
last_of d [] = d
last_of d (x ∷ xs) = last_of x xs

last_append : (d : ℕ) (xs : List ℕ) (y : ℕ) (ys : List ℕ) → last_of d (xs ++ y ∷ ys) ≡ last_of y ys
unfolding last_of
last_append d [] y ys = refl
last_append d (x ∷ xs) y ys = last_append x xs y ys

space_last : (y : ℕ) (ys : List ℕ) → IsSpace (y ∷ ys) → is_space (last_of y ys) ≡ true
unfolding last_of
space_last y [] h = (and_parts (is_space y) true h).0
space_last y (x ∷ ys) h = space_last x ys (and_parts (is_space y) (list_all is_space (x ∷ ys)) h).1

space_none : (p : Phase) (c : ℕ) → is_space c ≡ true → number_next p c ≡ None
space_none phase.Minus c h = grind (arith, nat_tests)
space_none phase.Zero c h = grind (arith, nat_tests)
space_none phase.Whole c h = grind (arith, nat_tests)
space_none phase.Dot c h = grind (arith, nat_tests)
space_none phase.Fraction c h = grind (arith, nat_tests)
space_none phase.Mark c h = grind (arith, nat_tests)
space_none phase.Sign c h = grind (arith, nat_tests)
space_none phase.Exponent c h = grind (arith, nat_tests)

phases_last : (p q : Phase) (b : ℕ) (xs : List ℕ) → is_space b ≡ false → Phases p xs q → is_space (last_of b xs) ≡ false
unfolding last_of
phases_last p q b [] h i = h
phases_last p q b (c ∷ xs) h i = phases_last i.0 q c xs (on (is_space c) refl) i.2
  where
    on : (t : Bool) → is_space c ≡ t → t ≡ false
    on true e = absurd (let wrong : None ≡ Some i.0 = sym (space_none p c e) ∙ i.1 in cc)
    on false e = refl

starts_no_space : (b : ℕ) (p : Phase) → Starts b p → is_space b ≡ false
starts_no_space b p starts_zero = refl
starts_no_space b p (starts_whole c h) = other c h
  where
    other : (c : ℕ) → is_nonzero c ≡ true → is_space c ≡ false
    other c h = grind (arith, nat_tests)
starts_no_space b p starts_minus = refl

abbrev EndsWell : List ℕ → Type 0
EndsWell bytes = is_space (last_of 0 bytes) ≡ false

ends : (j : Json) → IsJson j → EndsWell (text j)
unfolding last_of
ends json.null j = refl
ends (json.flag true) j = refl
ends (json.flag false) j = refl
ends (json.bare word) j = bare_word EndsWell word j refl refl refl refl
ends (json.number digits) j =
    let r = number_runs digits j in
    subst EndsWell (sym r.spelled) (phases_last r.phase r.ends.last r.first r.rest (starts_no_space r.first r.phase r.starts) r.ends.phases)
ends (json.string chars) j = ap is_space (last_append 34 (flat_map char_text chars) 34 [])
ends (json.empty_list s) j = ap is_space (last_append 91 s 93 [])
ends (json.list es) j = ap is_space (last_append 91 (elements_text es) 93 [])
ends (json.empty_object s) j = ap is_space (last_append 123 s 125 [])
ends (json.object ms) j = ap is_space (last_append 123 (members_text ms) 125 [])

abbrev free : Bounds
free = record { nested = false; different = false; few = false }

abbrev no_wishes : Wishes
no_wishes = record { sections = []; fields = [] }

-- a longer value's text does not begin with a value's, unless that is a numeral that goes on
pub no_extension : (v longer : Json) → IsJson v → IsJson longer → (b : ℕ) (more : List ℕ) → text longer ≡ text v ++ b ∷ more → ((digits : List ℕ) → v ≡ json.number digits → (rest : List ℕ) → IsNumber (digits ++ b ∷ rest) → ⊥) → ⊥
no_extension v longer h i b more e stops =
    let whole : run free no_wishes 0 (value false 0 []) (text longer) ≡ tree (k.skipped 0) = ap (run free no_wishes 0 (value false 0 [])) (sym (append-nil (text longer))) ∙ skip_text free no_wishes 0 0 [] longer [] (0 + length (text longer)) i (λ t. absurd (let wrong : false ≡ true = t in cc)) tt refl in
    let part = skip_then free no_wishes 0 0 [] v b more (0 + length (text v)) h (λ t. absurd (let wrong : false ≡ true = t in cc)) stops refl in
    let behind : run free no_wishes (0 + length (text v)) (done (k.skipped 0)) (b ∷ more) ≡ tree (k.skipped 0) = sym part ∙ ap (run free no_wishes 0 (value false 0 [])) (sym e) ∙ whole in
    let spaces = (done_space free no_wishes (0 + length (text v)) (k.skipped 0) (b ∷ more) (k.skipped 0) behind).0 in
    let last : is_space (last_of 0 (text longer)) ≡ true = ap (λ x. is_space (last_of 0 x)) e ∙ ap is_space (last_append 0 (text v) b more) ∙ space_last b more spaces in
    let wrong : false ≡ true = sym (ends longer i) ∙ last in
    cc
