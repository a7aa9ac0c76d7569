-- How parts are told apart.
use Rattle.std.specs.Prelude.{◌≡◌, ◌≢◌, ℕ, ◌<◌, ◌≤◌, List, [], ◌∷◌, ◌++◌, codes, length, drop, count_by, nat_le, true, false, Result, Ok, Err}
use Rattle.std.specs.List.{before_first, list_any}
use Rattle.std.proofs.Common.{refl, sym, ap, subst, ◌∙◌, arith, append_assoc, length-append}
use Rattle.std.proofs.lemmas.Bool.Decides.{nat_tests}
use Rattle.std.proofs.lemmas.List.{drop_all}
use Rattle.script_reader.specs.declared.fault.ScriptFault.{ScriptFault}
use Rattle.script_reader.specs.declared.fault.ScriptFault.TheVariants.{UnknownCommand, WrongWords, BadNumber, BadQuoting, BadObject, NoMemory}
use Rattle.plan_lines.specs.declared.change.RowPart.{RowPart}
use Rattle.script_reader.specs.declared.parts.PartWords.{PartWords}
use Rattle.script_reader.specs.declared.parts.PartWords.TheVariants.{Fuel, Module, Beacon, In, At}
use Rattle.script_reader.specs.Reading.{Answers, the_one, gives}
use Rattle.script_reader.specs.PartWords.{written_part, written_parts, first_part, all_parts, is_fuel, is_in, is_beacon}
use Rattle.script_reader.specs.Arguments.{add_part, add_parts, part_words, parts_behind}
use Rattle.script_reader.proofs.Readings.{answers_first, answers_next, answers_gives}

bad : {X : Type 0} (a b : ℕ) → a < b → a ≡ b → X
bad a b l e = absurd (omega arith)

letter : List ℕ → ℕ
letter [] = 0
letter (c ∷ cs) = c

mark : List (List ℕ) → ℕ
mark [] = 0
mark (w ∷ ws) = letter w

key_of : PartWords → List ℕ
key_of (Fuel item) = codes "fuel"
key_of (Module item number) = codes "module"
key_of (Beacon machine number share) = codes "beacon"
key_of (In item number) = codes "in"
key_of (At fluid) = codes "at"

arguments_of : PartWords → ℕ
arguments_of (Fuel item) = 1
arguments_of (Module item number) = 2
arguments_of (Beacon machine number share) = 3
arguments_of (In item number) = 2
arguments_of (At fluid) = 1

record Fits (key : List ℕ) (rest : List (List ℕ)) (part : PartWords) : Type 0 where
  key_is : key ≡ key_of part
  enough : arguments_of part ≤ length rest

fits : (key : List ℕ) (rest tail : List (List ℕ)) (part : PartWords) → key ∷ rest ≡ written_part part ++ tail → Fits key rest part
unfolding key_of arguments_of
fits key rest tail (Fuel item) e = record { key_is = cc; enough = let r : rest ≡ item ∷ tail = cc in omega (arith, ap length r) }
fits key rest tail (Module item number) e = record { key_is = cc; enough = let r : rest ≡ item ∷ number ∷ tail = cc in omega (arith, ap length r) }
fits key rest tail (Beacon machine number share) e = record { key_is = cc; enough = let r : rest ≡ machine ∷ number ∷ share ∷ tail = cc in omega (arith, ap length r) }
fits key rest tail (In item number) e = record { key_is = cc; enough = let r : rest ≡ item ∷ number ∷ tail = cc in omega (arith, ap length r) }
fits key rest tail (At fluid) e = record { key_is = cc; enough = let r : rest ≡ fluid ∷ tail = cc in omega (arith, ap length r) }

few : (key : List ℕ) (rest : List (List ℕ)) (n : ℕ) → length rest < n → ((part : PartWords) → key ≡ key_of part → n ≤ arguments_of part) → (part : PartWords) → ¬ ((tail : List (List ℕ)) × (key ∷ rest ≡ written_part part ++ tail))
few key rest n h need part t = let f : Fits key rest part = fits key rest t.0 part t.1 in let m : n ≤ arguments_of part = need part f.key_is in let l : arguments_of part ≤ length rest = f.enough in absurd (omega arith)

-- too few words behind the one that names the part
refused : (words : List (List ℕ)) (key : List ℕ) (rest : List (List ℕ)) → words ≡ key ∷ rest → ((part : PartWords) → ¬ ((tail : List (List ℕ)) × (key ∷ rest ≡ written_part part ++ tail))) → Answers (first_part words) (Err WrongWords)
unfolding Answers the_one
refused words key rest e h = (refl, λ part t. h part (t.0, sym e ∙ t.1))

pub no_fuel : (words : List (List ℕ)) (key : List ℕ) (rest : List (List ℕ)) → words ≡ key ∷ rest → key ≡ codes "fuel" → length rest < 1 → Answers (first_part words) (Err WrongWords)
unfolding key_of arguments_of
no_fuel words key rest e k h = refused words key rest e (few key rest 1 h by)
  where
    by : (part : PartWords) → key ≡ key_of part → 1 ≤ arguments_of part
    by (Fuel item) d = omega arith
    by (Module item number) d = omega arith
    by (Beacon machine number share) d = omega arith
    by (In item number) d = omega arith
    by (At fluid) d = omega arith

pub no_at : (words : List (List ℕ)) (key : List ℕ) (rest : List (List ℕ)) → words ≡ key ∷ rest → key ≡ codes "at" → length rest < 1 → Answers (first_part words) (Err WrongWords)
unfolding key_of arguments_of
no_at words key rest e k h = refused words key rest e (few key rest 1 h by)
  where
    by : (part : PartWords) → key ≡ key_of part → 1 ≤ arguments_of part
    by (Fuel item) d = omega arith
    by (Module item number) d = omega arith
    by (Beacon machine number share) d = omega arith
    by (In item number) d = omega arith
    by (At fluid) d = omega arith

pub no_module : (words : List (List ℕ)) (key : List ℕ) (rest : List (List ℕ)) → words ≡ key ∷ rest → key ≡ codes "module" → length rest < 2 → Answers (first_part words) (Err WrongWords)
unfolding key_of arguments_of letter
no_module words key rest e k h = refused words key rest e (few key rest 2 h by)
  where
    by : (part : PartWords) → key ≡ key_of part → 2 ≤ arguments_of part
    by (Fuel item) d = bad 102 109 (omega arith) (sym (ap letter (sym k ∙ d)))
    by (Module item number) d = omega arith
    by (Beacon machine number share) d = omega arith
    by (In item number) d = omega arith
    by (At fluid) d = bad 97 109 (omega arith) (sym (ap letter (sym k ∙ d)))

pub no_in : (words : List (List ℕ)) (key : List ℕ) (rest : List (List ℕ)) → words ≡ key ∷ rest → key ≡ codes "in" → length rest < 2 → Answers (first_part words) (Err WrongWords)
unfolding key_of arguments_of letter
no_in words key rest e k h = refused words key rest e (few key rest 2 h by)
  where
    by : (part : PartWords) → key ≡ key_of part → 2 ≤ arguments_of part
    by (Fuel item) d = bad 102 105 (omega arith) (sym (ap letter (sym k ∙ d)))
    by (Module item number) d = omega arith
    by (Beacon machine number share) d = omega arith
    by (In item number) d = omega arith
    by (At fluid) d = bad 97 105 (omega arith) (sym (ap letter (sym k ∙ d)))

pub no_beacon : (words : List (List ℕ)) (key : List ℕ) (rest : List (List ℕ)) → words ≡ key ∷ rest → key ≡ codes "beacon" → length rest < 3 → Answers (first_part words) (Err WrongWords)
unfolding key_of arguments_of letter
no_beacon words key rest e k h = refused words key rest e (few key rest 3 h by)
  where
    by : (part : PartWords) → key ≡ key_of part → 3 ≤ arguments_of part
    by (Fuel item) d = bad 98 102 (omega arith) (ap letter (sym k ∙ d))
    by (Module item number) d = bad 98 109 (omega arith) (ap letter (sym k ∙ d))
    by (Beacon machine number share) d = omega arith
    by (In item number) d = bad 98 105 (omega arith) (ap letter (sym k ∙ d))
    by (At fluid) d = bad 97 98 (omega arith) (sym (ap letter (sym k ∙ d)))

pub no_key : (words : List (List ℕ)) (key : List ℕ) (rest : List (List ℕ)) → words ≡ key ∷ rest → key ≢ codes "fuel" → key ≢ codes "at" → key ≢ codes "module" → key ≢ codes "beacon" → key ≢ codes "in" → Answers (first_part words) (Err WrongWords)
unfolding key_of
no_key words key rest e f a m b i = refused words key rest e (λ part t. by part (fits key rest t.0 part t.1).key_is)
  where
    by : (part : PartWords) → ¬ (key ≡ key_of part)
    by (Fuel item) d = f d
    by (Module item number) d = m d
    by (Beacon machine number share) d = b d
    by (In item number) d = i d
    by (At fluid) d = a d

-- the part that is found
pub a_part : (words : List (List ℕ)) (part : PartWords) (rest : List (List ℕ)) → words ≡ written_part part ++ rest → Answers (first_part words) (Ok part)
unfolding Answers the_one
a_part words part rest e = (rest, e)

-- ---- one part behind another
pub written-push : (parts : List PartWords) (part : PartWords) → written_parts (parts ++ part ∷ []) ≡ written_parts parts ++ written_part part
written-push [] part = nothing_behind (written_part part)
  where
    nothing_behind : (l : List (List ℕ)) → l ++ [] ≡ l
    nothing_behind [] = refl
    nothing_behind (x ∷ xs) = ap (λ t. x ∷ t) (nothing_behind xs)
written-push (first ∷ parts) part = ap (λ w. written_part first ++ w) (written-push parts part) ∙ sym (append_assoc (written_part first) (written_parts parts) (written_part part))

record SamePart (part other : PartWords) (rest tail : List (List ℕ)) : Type 0 where
  parts : part ≡ other
  rests : rest ≡ tail

one_part : (part other : PartWords) (rest tail : List (List ℕ)) → written_part part ++ rest ≡ written_part other ++ tail → SamePart part other rest tail
unfolding letter mark
one_part (Fuel a) (Fuel b) rest tail e = record { parts = let s : a ≡ b = cc in ap Fuel s; rests = cc }
one_part (Fuel a) (Module b c) rest tail e = bad 102 109 (omega arith) (ap mark e)
one_part (Fuel a) (Beacon b c d) rest tail e = bad 98 102 (omega arith) (sym (ap mark e))
one_part (Fuel a) (In b c) rest tail e = bad 102 105 (omega arith) (ap mark e)
one_part (Fuel a) (At b) rest tail e = bad 97 102 (omega arith) (sym (ap mark e))
one_part (Module a n) (Fuel b) rest tail e = bad 102 109 (omega arith) (sym (ap mark e))
one_part (Module a n) (Module b c) rest tail e = record { parts = cc; rests = cc }
one_part (Module a n) (Beacon b c d) rest tail e = bad 98 109 (omega arith) (sym (ap mark e))
one_part (Module a n) (In b c) rest tail e = bad 105 109 (omega arith) (sym (ap mark e))
one_part (Module a n) (At b) rest tail e = bad 97 109 (omega arith) (sym (ap mark e))
one_part (Beacon a n s) (Fuel b) rest tail e = bad 98 102 (omega arith) (ap mark e)
one_part (Beacon a n s) (Module b c) rest tail e = bad 98 109 (omega arith) (ap mark e)
one_part (Beacon a n s) (Beacon b c d) rest tail e = record { parts = cc; rests = cc }
one_part (Beacon a n s) (In b c) rest tail e = bad 98 105 (omega arith) (ap mark e)
one_part (Beacon a n s) (At b) rest tail e = bad 97 98 (omega arith) (sym (ap mark e))
one_part (In a n) (Fuel b) rest tail e = bad 102 105 (omega arith) (sym (ap mark e))
one_part (In a n) (Module b c) rest tail e = bad 105 109 (omega arith) (ap mark e)
one_part (In a n) (Beacon b c d) rest tail e = bad 98 105 (omega arith) (sym (ap mark e))
one_part (In a n) (In b c) rest tail e = record { parts = cc; rests = cc }
one_part (In a n) (At b) rest tail e = bad 97 105 (omega arith) (sym (ap mark e))
one_part (At a) (Fuel b) rest tail e = bad 97 102 (omega arith) (ap mark e)
one_part (At a) (Module b c) rest tail e = bad 97 109 (omega arith) (ap mark e)
one_part (At a) (Beacon b c d) rest tail e = bad 97 98 (omega arith) (ap mark e)
one_part (At a) (In b c) rest tail e = bad 97 105 (omega arith) (ap mark e)
one_part (At a) (At b) rest tail e = record { parts = let s : a ≡ b = cc in ap At s; rests = cc }

some_words : (part : PartWords) (tail : List (List ℕ)) → 0 < length (written_part part ++ tail)
some_words (Fuel a) tail = omega arith
some_words (Module a n) tail = omega arith
some_words (Beacon a n s) tail = omega arith
some_words (In a n) tail = omega arith
some_words (At a) tail = omega arith

-- what stands behind the parts that were found is not the words of parts if no part stands first
stuck : (parts others : List PartWords) (rest : List (List ℕ)) → 0 < length rest → ((part : PartWords) → ¬ ((tail : List (List ℕ)) × (rest ≡ written_part part ++ tail))) → ¬ (written_parts parts ++ rest ≡ written_parts others)
stuck [] [] rest h none e = let n : length rest ≡ 0 = ap length e in absurd (omega arith)
stuck [] (other ∷ others) rest h none e = none other (written_parts others, e)
stuck (part ∷ parts) [] rest h none e = let n : length (written_part part ++ (written_parts parts ++ rest)) ≡ 0 = ap length (sym (append_assoc (written_part part) (written_parts parts) rest) ∙ e) in let m : 0 < length (written_part part ++ (written_parts parts ++ rest)) = some_words part (written_parts parts ++ rest) in absurd (omega arith)
stuck (part ∷ parts) (other ∷ others) rest h none e =
    stuck parts others rest h none (one_part part other (written_parts parts ++ rest) (written_parts others) (sym (append_assoc (written_part part) (written_parts parts) rest) ∙ e)).rests

pub no_parts_there : (words : List (List ℕ)) (parts : List PartWords) (rest : List (List ℕ)) (fault : ScriptFault) → words ≡ written_parts parts ++ rest → 0 < length rest → Answers (first_part rest) (Err fault) → Answers (all_parts words) (Err fault)
unfolding Answers the_one
no_parts_there words parts rest NoMemory e h a = tt
no_parts_there words parts rest UnknownCommand e h a = (a.0, λ others k. stuck parts others rest h a.1 (sym e ∙ k))
no_parts_there words parts rest WrongWords e h a = (a.0, λ others k. stuck parts others rest h a.1 (sym e ∙ k))
no_parts_there words parts rest BadNumber e h a = (a.0, λ others k. stuck parts others rest h a.1 (sym e ∙ k))
no_parts_there words parts rest BadQuoting e h a = (a.0, λ others k. stuck parts others rest h a.1 (sym e ∙ k))
no_parts_there words parts rest BadObject e h a = (a.0, λ others k. stuck parts others rest h a.1 (sym e ∙ k))

-- words are those of one list of parts
pub one_list : (parts others : List PartWords) → written_parts parts ≡ written_parts others → parts ≡ others
one_list [] [] e = refl
one_list [] (other ∷ others) e = let n : 0 ≡ length (written_part other ++ written_parts others) = ap length e in let m : 0 < length (written_part other ++ written_parts others) = some_words other (written_parts others) in absurd (omega arith)
one_list (part ∷ parts) [] e = let n : length (written_part part ++ written_parts parts) ≡ 0 = ap length e in let m : 0 < length (written_part part ++ written_parts parts) = some_words part (written_parts parts) in absurd (omega arith)
one_list (part ∷ parts) (other ∷ others) e =
    let s : SamePart part other (written_parts parts) (written_parts others) = one_part part other (written_parts parts) (written_parts others) e in
    ap (λ p. p ∷ parts) s.parts ∙ ap (λ l. other ∷ l) (one_list parts others s.rests)

pub no_first : (words : List (List ℕ)) → length words ≡ 0 → Answers (first_part words) (Err WrongWords)
unfolding Answers the_one
no_first words h = (refl, λ part t. let m : 0 < length (written_part part ++ t.0) = some_words part t.0 in let n : length words ≡ length (written_part part ++ t.0) = ap length t.1 in absurd (omega arith))

pub fuel_there : (words : List (List ℕ)) (key a item : List ℕ) (rest tail : List (List ℕ)) → words ≡ key ∷ rest → key ≡ codes "fuel" → rest ≡ a ∷ tail → item ≡ a → Answers (first_part words) (Ok (Fuel item))
fuel_there words key a item rest tail e k r i = a_part words (Fuel item) tail (e ∙ (ap (λ w. w ∷ rest) k ∙ ap (λ l. codes "fuel" ∷ l) (r ∙ ap (λ w. w ∷ tail) (sym i))))

pub at_there : (words : List (List ℕ)) (key a fluid : List ℕ) (rest tail : List (List ℕ)) → words ≡ key ∷ rest → key ≡ codes "at" → rest ≡ a ∷ tail → fluid ≡ a → Answers (first_part words) (Ok (At fluid))
at_there words key a fluid rest tail e k r i = a_part words (At fluid) tail (e ∙ (ap (λ w. w ∷ rest) k ∙ ap (λ l. codes "at" ∷ l) (r ∙ ap (λ w. w ∷ tail) (sym i))))

pub module_there : (words : List (List ℕ)) (key a b item number : List ℕ) (rest tail : List (List ℕ)) → words ≡ key ∷ rest → key ≡ codes "module" → rest ≡ a ∷ b ∷ tail → (let p : List ℕ × List ℕ = (item, number) in p) ≡ (a, b) → Answers (first_part words) (Ok (Module item number))
module_there words key a b item number rest tail e k r i = a_part words (Module item number) tail (e ∙ (ap (λ w. w ∷ rest) k ∙ ap (λ l. codes "module" ∷ l) (r ∙ ap (λ (p : List ℕ × List ℕ). p.0 ∷ p.1 ∷ tail) (sym i))))

pub in_there : (words : List (List ℕ)) (key a b item number : List ℕ) (rest tail : List (List ℕ)) → words ≡ key ∷ rest → key ≡ codes "in" → rest ≡ a ∷ b ∷ tail → (let p : List ℕ × List ℕ = (item, number) in p) ≡ (a, b) → Answers (first_part words) (Ok (In item number))
in_there words key a b item number rest tail e k r i = a_part words (In item number) tail (e ∙ (ap (λ w. w ∷ rest) k ∙ ap (λ l. codes "in" ∷ l) (r ∙ ap (λ (p : List ℕ × List ℕ). p.0 ∷ p.1 ∷ tail) (sym i))))

pub beacon_there : (words : List (List ℕ)) (key a b d machine number share : List ℕ) (rest tail : List (List ℕ)) → words ≡ key ∷ rest → key ≡ codes "beacon" → rest ≡ a ∷ b ∷ d ∷ tail → machine ≡ a → (let p : List ℕ × List ℕ = (number, share) in p) ≡ (b, d) → Answers (first_part words) (Ok (Beacon machine number share))
beacon_there words key a b d machine number share rest tail e k r m i = a_part words (Beacon machine number share) tail (e ∙ (ap (λ w. w ∷ rest) k ∙ ap (λ l. codes "beacon" ∷ l) (r ∙ (ap (λ w. w ∷ b ∷ d ∷ tail) (sym m) ∙ ap (λ (p : List ℕ × List ℕ). machine ∷ p.0 ∷ p.1 ∷ tail) (sym i)))))

-- ---- one part more
pub answers_part : (parts more : List RowPart) (words : PartWords) (part : RowPart) → Answers (part_words words) (Ok part) → more ≡ parts ++ part ∷ [] → Answers (add_part parts words) (Ok more)
answers_part parts more words part h e = answers_next (part_words words) (λ p. gives (parts ++ p ∷ [])) part (Ok more) h (answers_gives (parts ++ part ∷ []) more e)

-- ---- the loops
pub value_more : (first parts next : List RowPart) (all : List PartWords) (part : PartWords) (rest : List PartWords) → ((result : Result (List RowPart) ScriptFault) → Answers (add_parts parts (part ∷ rest)) result → Answers (add_parts first all) result) → Answers (add_part parts part) (Ok next) → (result : Result (List RowPart) ScriptFault) → Answers (add_parts next rest) result → Answers (add_parts first all) result
value_more first parts next all part rest i h result k = i result (answers_next (add_part parts part) (λ more. add_parts more rest) next result h k)

pub fault_more : (first parts : List RowPart) (all : List PartWords) (part : PartWords) (rest : List PartWords) (fault : ScriptFault) → ((result : Result (List RowPart) ScriptFault) → Answers (add_parts parts (part ∷ rest)) result → Answers (add_parts first all) result) → Answers (add_part parts part) (Err fault) → Answers (add_parts first all) (Err fault)
fault_more first parts all part rest fault i h = i (Err fault) (answers_first (add_part parts part) (λ more. add_parts more rest) fault h)

part_behind : (words : List (List ℕ)) (part : PartWords) → Answers (first_part words) (Ok part) → (tail : List (List ℕ)) × (words ≡ written_part part ++ tail)
unfolding Answers the_one
part_behind words part h = h

-- the words of the part that was found
pub part_length : (words : List (List ℕ)) (part : PartWords) → Answers (first_part words) (Ok part) → length (written_part part) ≤ length words
part_length words part h = let t : (tail : List (List ℕ)) × (words ≡ written_part part ++ tail) = part_behind words part h in omega (arith, ap length t.1, length-append (written_part part) t.0)

pub part_some : (part : PartWords) → 0 < length (written_part part)
part_some (Fuel a) = omega arith
part_some (Module a n) = omega arith
part_some (Beacon a n s) = omega arith
part_some (In a n) = omega arith
part_some (At a) = omega arith

pub part_more : (words rest : List (List ℕ)) (parts new : List PartWords) (part : PartWords) (count : ℕ) → words ≡ written_parts parts ++ rest → Answers (first_part rest) (Ok part) → count ≡ length (written_part part) → new ≡ parts ++ part ∷ [] → words ≡ written_parts new ++ drop count rest
part_more words rest parts new part count e h l n =
    let t : (tail : List (List ℕ)) × (rest ≡ written_part part ++ tail) = part_behind rest part h in
    e ∙ (ap (λ r. written_parts parts ++ r) t.1 ∙ (sym (append_assoc (written_parts parts) (written_part part) t.0)
    ∙ (ap (λ w. w ++ t.0) (sym (ap written_parts n ∙ written-push parts part)) ∙ ap (λ r. written_parts new ++ r) (sym (ap (λ k. drop k rest) l ∙ (ap (drop (length (written_part part))) t.1 ∙ drop_front (written_part part) t.0))))))
  where
    drop_front : (l r : List (List ℕ)) → drop (length l) (l ++ r) ≡ r
    drop_front [] r = refl
    drop_front (x ∷ xs) r = drop_front xs r

pub parts_end : (words : List (List ℕ)) (parts : List PartWords) (rest : List (List ℕ)) → words ≡ written_parts parts ++ rest → length rest ≡ 0 → Answers (all_parts words) (Ok parts)
unfolding Answers the_one
parts_end words parts [] e h = e ∙ nothing_behind (written_parts parts)
  where
    nothing_behind : (l : List (List ℕ)) → l ++ [] ≡ l
    nothing_behind [] = refl
    nothing_behind (x ∷ xs) = ap (λ t. x ∷ t) (nothing_behind xs)
parts_end words parts (r ∷ rest) e h = absurd (omega arith)

-- ---- parts behind `by`
pub not_by : (by : List ℕ) (words : List (List ℕ)) → by ≢ codes "by" → Answers (parts_behind by words) (Err WrongWords)
unfolding Answers the_one
not_by by words h = (refl, λ parts p. h p.0)

pub no_list : (by : List ℕ) (words : List (List ℕ)) (fault : ScriptFault) → Answers (all_parts words) (Err fault) → Answers (parts_behind by words) (Err fault)
unfolding Answers the_one
no_list by words NoMemory h = tt
no_list by words UnknownCommand h = (h.0, λ parts p. h.1 parts p.1.written)
no_list by words WrongWords h = (h.0, λ parts p. h.1 parts p.1.written)
no_list by words BadNumber h = (h.0, λ parts p. h.1 parts p.1.written)
no_list by words BadQuoting h = (h.0, λ parts p. h.1 parts p.1.written)
no_list by words BadObject h = (h.0, λ parts p. h.1 parts p.1.written)

written_of : (words : List (List ℕ)) (parts : List PartWords) → Answers (all_parts words) (Ok parts) → words ≡ written_parts parts
unfolding Answers the_one
written_of words parts h = h

pub the_list : (by : List ℕ) (words : List (List ℕ)) (parts : List PartWords) → by ≡ codes "by" → Answers (all_parts words) (Ok parts) → nat_le (count_by is_fuel parts) 1 ≡ true → list_any is_in (before_first is_beacon parts) ≡ false → Answers (parts_behind by words) (Ok parts)
unfolding Answers the_one
the_list by words parts e h f b = (e, record { written = written_of words parts h; one_fuel = grind (arith, nat_tests); beacon_first = b })

pub two_fuels : (by : List ℕ) (words : List (List ℕ)) (parts : List PartWords) → Answers (all_parts words) (Ok parts) → nat_le (count_by is_fuel parts) 1 ≡ false → Answers (parts_behind by words) (Err WrongWords)
unfolding Answers the_one
two_fuels by words parts h f = (refl, λ others p. let same : others ≡ parts = one_list others parts (sym p.1.written ∙ written_of words parts h) in let few : count_by is_fuel parts ≤ 1 = subst (λ l. count_by is_fuel l ≤ 1) same p.1.one_fuel in absurd (grind (arith, nat_tests)))

pub in_first : (by : List ℕ) (words : List (List ℕ)) (parts : List PartWords) → Answers (all_parts words) (Ok parts) → list_any is_in (before_first is_beacon parts) ≡ true → Answers (parts_behind by words) (Err WrongWords)
unfolding Answers the_one
in_first by words parts h b = (refl, λ others p. let same : others ≡ parts = one_list others parts (sym p.1.written ∙ written_of words parts h) in let none : list_any is_in (before_first is_beacon parts) ≡ false = subst (λ l. list_any is_in (before_first is_beacon l) ≡ false) same p.1.beacon_first in cc)

pub end_more : (parts : List RowPart) (words : List PartWords) (k : ℕ) → length words ≤ k → Answers (add_parts parts (drop k words)) (Ok parts)
end_more parts words k h = subst (λ (l : List PartWords). Answers (add_parts parts l) (Ok parts)) (sym (drop_all k words h)) (answers_gives parts parts refl)

pub fives : {A B C D E : Type 0} (a f : A) (b g : B) (c h : C) (d i : D) (e j : E) → a ≡ f → b ≡ g → c ≡ h → d ≡ i → e ≡ j → (let p : A × B × C × D × E = (a, b, c, d, e) in p) ≡ (let q : A × B × C × D × E = (f, g, h, i, j) in q)
fives a f b g c h d i e j k l m n o = cc
