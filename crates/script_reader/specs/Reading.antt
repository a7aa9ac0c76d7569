-- What words are read as: a value, or the fault that comes first. Want of memory has no cause here.
use Rattle.std.specs.Prelude.{◌≡◌, ℕ, List, [], ◌∷◌, Result, Ok, Err, ◌⊎◌}
use Rattle.script_reader.specs.declared.fault.ScriptFault.{ScriptFault}
use Rattle.script_reader.specs.declared.fault.ScriptFault.TheVariants.{WrongWords, NoMemory}

-- this value
unfoldable pub gives : {A : Type 0} → A → Result A ScriptFault → Type 0
gives a result = result ≡ Ok a

-- this fault
unfoldable pub refuses : {A : Type 0} → ScriptFault → Result A ScriptFault → Type 0
refuses fault result = result ≡ Err fault

-- the value of which the fact holds, or this fault where there is none
unfoldable pub the_one : {A : Type 0} → (A → Type 0) → ScriptFault → Result A ScriptFault → Type 0
the_one P fault (Ok a) = P a
the_one {A = A} P fault (Err f) = (f ≡ fault) × ((a : A) → ¬ (P a))

-- one reading behind another: its fault comes first
unfoldable pub and_then : {A B : Type 0} → (Result A ScriptFault → Type 0) → (A → Result B ScriptFault → Type 0) → Result B ScriptFault → Type 0
and_then {A = A} first next (Ok b) = (a : A) × first (Ok a) × next a (Ok b)
and_then {A = A} first next (Err fault) = first (Err fault) ⊎ ((a : A) × first (Ok a) × next a (Err fault))

-- so many words, else the wrong ones
unfoldable pub no_word : {A : Type 0} → (Result A ScriptFault → Type 0) → List (List ℕ) → Result A ScriptFault → Type 0
no_word reading [] = reading
no_word reading (a ∷ words) = refuses WrongWords

unfoldable pub one_word : {A : Type 0} → (List ℕ → Result A ScriptFault → Type 0) → List (List ℕ) → Result A ScriptFault → Type 0
one_word reading (a ∷ []) = reading a
one_word reading words = refuses WrongWords

unfoldable pub two_words : {A : Type 0} → (List ℕ → List ℕ → Result A ScriptFault → Type 0) → List (List ℕ) → Result A ScriptFault → Type 0
two_words reading (a ∷ b ∷ []) = reading a b
two_words reading words = refuses WrongWords

unfoldable pub three_words : {A : Type 0} → (List ℕ → List ℕ → List ℕ → Result A ScriptFault → Type 0) → List (List ℕ) → Result A ScriptFault → Type 0
three_words reading (a ∷ b ∷ c ∷ []) = reading a b c
three_words reading words = refuses WrongWords

-- five words or more
unfoldable pub five_words : {A : Type 0} → (List ℕ → List ℕ → List ℕ → List ℕ → List ℕ → List (List ℕ) → Result A ScriptFault → Type 0) → List (List ℕ) → Result A ScriptFault → Type 0
five_words reading (a ∷ b ∷ c ∷ d ∷ e ∷ words) = reading a b c d e words
five_words reading words = refuses WrongWords

-- a program's answer, which may also be want of memory
unfoldable pub Answers : {A : Type 0} → (Result A ScriptFault → Type 0) → Result A ScriptFault → Type 0
Answers reading (Ok a) = reading (Ok a)
Answers reading (Err NoMemory) = Unit
Answers reading (Err fault) = reading (Err fault)
