-- Readings one behind another, and the answers of programs.
use Rattle.std.specs.Prelude.{◌≡◌, ◌≢◌, ℕ, ◌<◌, List, [], ◌∷◌, length, Result, Ok, Err, MatchResult, IsErr, IsErrAnd, IsOkAnd}
use Rattle.std.proofs.Common.{refl, sym, ap, subst, ◌∙◌, inl, inr, arith}
use Rattle.script_reader.specs.declared.fault.ScriptFault.{ScriptFault}
use Rattle.script_reader.specs.declared.fault.ScriptFault.TheVariants.{UnknownCommand, WrongWords, BadNumber, BadQuoting, BadObject, NoMemory}
use Rattle.script_reader.specs.Reading.{gives, refuses, and_then, no_word, one_word, two_words, three_words, five_words, Answers}

pub answers_gives : {A : Type 0} (a b : A) → b ≡ a → Answers (gives a) (Ok b)
unfolding Answers gives
answers_gives a b e = ap Ok e

pub answers_wrong : (A : Type 0) → Answers {A = A} (refuses WrongWords) (Err WrongWords)
unfolding Answers refuses
answers_wrong A = refl

pub answers_unknown : (A : Type 0) → Answers {A = A} (refuses UnknownCommand) (Err UnknownCommand)
unfolding Answers refuses
answers_unknown A = refl

pub answers_memory : {A : Type 0} (reading : Result A ScriptFault → Type 0) → Answers reading (Err NoMemory)
unfolding Answers
answers_memory reading = tt

-- the first reading's fault is that of both
pub answers_first : {A B : Type 0} (first : Result A ScriptFault → Type 0) (next : A → Result B ScriptFault → Type 0) (fault : ScriptFault) → Answers first (Err fault) → Answers (and_then first next) (Err fault)
unfolding Answers and_then
answers_first first next UnknownCommand h = inl h
answers_first first next WrongWords h = inl h
answers_first first next BadNumber h = inl h
answers_first first next BadQuoting h = inl h
answers_first first next BadObject h = inl h
answers_first first next NoMemory h = tt

-- behind a value comes the answer of the next
pub answers_next : {A B : Type 0} (first : Result A ScriptFault → Type 0) (next : A → Result B ScriptFault → Type 0) (a : A) (result : Result B ScriptFault) → Answers first (Ok a) → Answers (next a) result → Answers (and_then first next) result
unfolding Answers and_then
answers_next first next a (Ok b) h k = (a, h, k)
answers_next first next a (Err UnknownCommand) h k = inr (a, h, k)
answers_next first next a (Err WrongWords) h k = inr (a, h, k)
answers_next first next a (Err BadNumber) h k = inr (a, h, k)
answers_next first next a (Err BadQuoting) h k = inr (a, h, k)
answers_next first next a (Err BadObject) h k = inr (a, h, k)
answers_next first next a (Err NoMemory) h k = tt

-- ---- so many words
pub answers_no : {A : Type 0} (reading : Result A ScriptFault → Type 0) (words : List (List ℕ)) (result : Result A ScriptFault) → words ≡ [] → Answers reading result → Answers (no_word reading words) result
unfolding no_word
answers_no reading words result e h = subst (λ w. Answers (no_word reading w) result) (sym e) h

pub wrong_no : {A : Type 0} (reading : Result A ScriptFault → Type 0) (words : List (List ℕ)) → length words ≢ 0 → Answers (no_word reading words) (Err WrongWords)
unfolding no_word
wrong_no reading [] h = absurd (h refl)
wrong_no reading (a ∷ words) h = answers_wrong _

pub answers_one : {A : Type 0} (reading : List ℕ → Result A ScriptFault → Type 0) (words : List (List ℕ)) (a : List ℕ) (result : Result A ScriptFault) → words ≡ a ∷ [] → Answers (reading a) result → Answers (one_word reading words) result
unfolding one_word
answers_one reading words a result e h = subst (λ w. Answers (one_word reading w) result) (sym e) h

pub wrong_one : {A : Type 0} (reading : List ℕ → Result A ScriptFault → Type 0) (words : List (List ℕ)) → length words ≢ 1 → Answers (one_word reading words) (Err WrongWords)
unfolding one_word
wrong_one reading [] h = answers_wrong _
wrong_one reading (a ∷ []) h = absurd (h refl)
wrong_one reading (a ∷ b ∷ words) h = answers_wrong _

pub answers_two : {A : Type 0} (reading : List ℕ → List ℕ → Result A ScriptFault → Type 0) (words : List (List ℕ)) (a b : List ℕ) (result : Result A ScriptFault) → words ≡ a ∷ b ∷ [] → Answers (reading a b) result → Answers (two_words reading words) result
unfolding two_words
answers_two reading words a b result e h = subst (λ w. Answers (two_words reading w) result) (sym e) h

pub wrong_two : {A : Type 0} (reading : List ℕ → List ℕ → Result A ScriptFault → Type 0) (words : List (List ℕ)) → length words ≢ 2 → Answers (two_words reading words) (Err WrongWords)
unfolding two_words
wrong_two reading [] h = answers_wrong _
wrong_two reading (a ∷ []) h = answers_wrong _
wrong_two reading (a ∷ b ∷ []) h = absurd (h refl)
wrong_two reading (a ∷ b ∷ c ∷ words) h = answers_wrong _

pub answers_three : {A : Type 0} (reading : List ℕ → List ℕ → List ℕ → Result A ScriptFault → Type 0) (words : List (List ℕ)) (a b c : List ℕ) (result : Result A ScriptFault) → words ≡ a ∷ b ∷ c ∷ [] → Answers (reading a b c) result → Answers (three_words reading words) result
unfolding three_words
answers_three reading words a b c result e h = subst (λ w. Answers (three_words reading w) result) (sym e) h

pub wrong_three : {A : Type 0} (reading : List ℕ → List ℕ → List ℕ → Result A ScriptFault → Type 0) (words : List (List ℕ)) → length words ≢ 3 → Answers (three_words reading words) (Err WrongWords)
unfolding three_words
wrong_three reading [] h = answers_wrong _
wrong_three reading (a ∷ []) h = answers_wrong _
wrong_three reading (a ∷ b ∷ []) h = answers_wrong _
wrong_three reading (a ∷ b ∷ c ∷ []) h = absurd (h refl)
wrong_three reading (a ∷ b ∷ c ∷ d ∷ words) h = answers_wrong _

pub answers_five : {A : Type 0} (reading : List ℕ → List ℕ → List ℕ → List ℕ → List ℕ → List (List ℕ) → Result A ScriptFault → Type 0) (words : List (List ℕ)) (a b c d e : List ℕ) (rest : List (List ℕ)) (result : Result A ScriptFault) → words ≡ a ∷ b ∷ c ∷ d ∷ e ∷ rest → Answers (reading a b c d e rest) result → Answers (five_words reading words) result
unfolding five_words
answers_five reading words a b c d e rest result p h = subst (λ w. Answers (five_words reading w) result) (sym p) h

pub wrong_five : {A : Type 0} (reading : List ℕ → List ℕ → List ℕ → List ℕ → List ℕ → List (List ℕ) → Result A ScriptFault → Type 0) (words : List (List ℕ)) → length words < 5 → Answers (five_words reading words) (Err WrongWords)
unfolding five_words
wrong_five reading [] h = answers_wrong _
wrong_five reading (a ∷ []) h = answers_wrong _
wrong_five reading (a ∷ b ∷ []) h = answers_wrong _
wrong_five reading (a ∷ b ∷ c ∷ []) h = answers_wrong _
wrong_five reading (a ∷ b ∷ c ∷ d ∷ []) h = answers_wrong _
wrong_five reading (a ∷ b ∷ c ∷ d ∷ e ∷ words) h = absurd (omega arith)

-- ---- the same for what `?` returns
pub passed : {A E : Type 0} (result : Result A E) (fault : E) → IsErr result × IsErrAnd result (λ e. e ≡ fault) → result ≡ Err fault
passed (Ok a) fault h = absurd h.1
passed (Err e) fault h = ap Err h.1

-- what is returned is the fault that a step had
pub answers_of_fault : {A : Type 0} (reading : Result A ScriptFault → Type 0) (fault : ScriptFault) (result : Result A ScriptFault) → IsErr result × IsErrAnd result (λ e. e ≡ fault) → Answers reading (Err fault) → Answers reading result
answers_of_fault reading fault result from h = subst (Answers reading) (sym (passed result fault from)) h

pub answers_fault : {A B : Type 0} (first : Result A ScriptFault → Type 0) (next : A → Result B ScriptFault → Type 0) (fault : ScriptFault) (read : Result A ScriptFault) (result : Result B ScriptFault) → read ≡ Err fault → result ≡ Err fault → Answers first read → Answers (and_then first next) result
answers_fault first next fault read result e f h = subst (Answers (and_then first next)) (sym f) (answers_first first next fault (subst (Answers first) e h))

pub answers_value : {A B : Type 0} (first : Result A ScriptFault → Type 0) (next : A → Result B ScriptFault → Type 0) (a : A) (read : Result A ScriptFault) (result : Result B ScriptFault) → read ≡ Ok a → Answers first read → Answers (next a) result → Answers (and_then first next) result
answers_value first next a read result e h k = answers_next first next a result (subst (Answers first) e h) k

-- ---- values that are equal part by part
pub pairs : {A B : Type 0} (a c : A) (b d : B) → a ≡ c → b ≡ d → (let p : A × B = (a, b) in p) ≡ (let q : A × B = (c, d) in q)
pairs a c b d e f = cc

pub triples : {A B C : Type 0} (a d : A) (b f : B) (c g : C) → a ≡ d → b ≡ f → c ≡ g → (let p : A × B × C = (a, b, c) in p) ≡ (let q : A × B × C = (d, f, g) in q)
triples a d b f c g h i j = cc

-- what `map` makes of an answer
pub answers_mapped : {A B : Type 0} (first : Result A ScriptFault → Type 0) (make : A → B) (read : Result A ScriptFault) (result : Result B ScriptFault) → Answers first read → MatchResult read (λ x. IsOkAnd result (λ y. y ≡ make x)) (λ e. result ≡ Err e) → Answers (and_then first (λ a. gives (make a))) result
answers_mapped first make (Ok a) (Ok b) h k = answers_next first _ a (Ok b) h (answers_gives (make a) b k)
answers_mapped first make (Ok a) (Err f) h k = absurd k
answers_mapped first make (Err e) result h k = subst (Answers (and_then first (λ a. gives (make a)))) (sym k) (answers_first first _ e h)

pub answers_edit : {A B C : Type 0} (first : Result A ScriptFault → Type 0) (make : A → B) (wrap : B → C) (read : Result A ScriptFault) (made : Result B ScriptFault) (result : Result C ScriptFault) → Answers first read → MatchResult read (λ x. IsOkAnd made (λ y. y ≡ make x)) (λ e. made ≡ Err e) → MatchResult made (λ x. IsOkAnd result (λ y. y ≡ wrap x)) (λ e. result ≡ Err e) → Answers (and_then first (λ a. gives (wrap (make a)))) result
answers_edit first make wrap (Ok a) (Ok b) (Ok d) h k l = answers_next first _ a (Ok d) h (answers_gives (wrap (make a)) d (l ∙ ap wrap k))
answers_edit first make wrap (Ok a) (Ok b) (Err e) h k l = absurd l
answers_edit first make wrap (Ok a) (Err e) result h k l = absurd k
answers_edit first make wrap (Err e) (Ok b) result h k l = cc
answers_edit first make wrap (Err e) (Err f) result h k l =
    let same : e ≡ f = sym (by k) in subst (Answers (and_then first (λ a. gives (wrap (make a))))) (sym l) (answers_first first _ f (subst (λ g. Answers first (Err g)) same h))
  where
    by : {B : Type 0} {e f : ScriptFault} → (let p : Result B ScriptFault = Err f in p) ≡ (let q : Result B ScriptFault = Err e in q) → f ≡ e
    by k = cc

pub ruleset readings = (answers_gives, answers_wrong, answers_unknown, answers_memory, answers_fault, answers_value, answers_no, wrong_no, answers_one, wrong_one, answers_two, wrong_two, answers_three, wrong_three, answers_five, wrong_five)
