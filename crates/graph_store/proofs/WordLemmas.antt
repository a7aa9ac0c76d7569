-- Lists of nodes as words.
use Rattle.std.proofs.Common.{◌≡◌, ◌≢◌, ◌∙◌, ◌<◌, ◌≤◌, ◌+◌, ◌-◌, ◌*◌, ◌/◌, ◌%◌, ◌^◌, ◌++◌, ℕ, zero, suc, Bool, true, false, List, [], ◌∷◌, Vec, length, drop, set, get_or, refl, ap, sym, subst, arith, append_assoc, append-nil, get_or-set_same, get_or-set_other}
use Rattle.std.specs.Prelude.{◌==◌, ◌||◌, ◌&&◌, if◌then◌else◌, nat_lt, max, min, replicate, All}
use Rattle.std.specs.Global.{Global}
use Rattle.std.specs.Int.{bit_at}
use Rattle.std.specs.Int.Bits.{bit_and, bit_or}
use Rattle.std.specs.List.{list_all, range_with_len}
use Rattle.std.proofs.lemmas.Bool.Decides.{nat_tests}
use Rattle.std.proofs.lemmas.List.Elements.{All-cons, All-head, All-nil, All-tail}
use Rattle.std.proofs.lemmas.List.FromFn.{get_or-range_with_len, length-range_with_len}
use Rattle.std.proofs.lemmas.Option.{slice_get-get_or}
use Rattle.std.proofs.lemmas.Nat.Bits.{bit_at-lt, bit_at-pow_other, bit_at-pow_same, bit_at-zero, bit_at_and, bit_at_or}
use Rattle.plan_base.specs.declared.ids.NodeId.{NodeId}
use Rattle.plan_base.proofs.Walks.{next, drop_all}
use Rattle.plan_base.proofs.Bools.{or_false}
use Rattle.graph_store.specs.Lists.{has_node, is_in_all, list_at, AreCommon, Rise}
use Rattle.graph_store.specs.Members.{node, passes, those}
use Rattle.graph_store.specs.Words.{bit_in, has_bit, has_words, in_word, in_words, words_at, AreWords, IsWords}
use Rattle.graph_store.proofs.AmongLemmas.{at_those, below_those, past_those}
use Rattle.graph_store.proofs.NumbersLemmas.{Rising}
use Rattle.graph_store.proofs.OrderLemmas.{increasing, numbers_of, rising_lower, those_rise}
use Rattle.graph_store.proofs.CommonLemmas.{and_twice}

-- ---- a bit that is set
-- as a number a bit is 0 or 1
bit_or_one : (a b : ℕ) → a < 2 → b ≡ 1 → (max a b == 1) ≡ true
bit_or_one a b few is = grind (arith, few, is)

bit_or_none : (a b : ℕ) → b ≡ 0 → (max a b == 1) ≡ (a == 1)
bit_or_none a b is = ap (λ n. n == 1) (let same : max a b ≡ a = omega (arith, is) in same)

pub bit_put : (words : List ℕ) (place p : ℕ) → place / 64 < length words
    → bit_in (set words (place / 64) (bit_or (get_or words (place / 64) 0) (2 ^ (place % 64)))) p ≡ ((p == place) || bit_in words p)
bit_put words place p within = by_word (p / 64 == place / 64) refl
  where
    new : List ℕ
    new = set words (place / 64) (bit_or (get_or words (place / 64) 0) (2 ^ (place % 64)))

    by_bit : p / 64 ≡ place / 64 → (b : Bool) → (p % 64 == place % 64) ≡ b → (bit_at (bit_or (get_or words (place / 64) 0) (2 ^ (place % 64))) (p % 64) == 1) ≡ ((p == place) || bit_in words p)
    by_bit at true is =
        let bit : p % 64 ≡ place % 64 = grind (arith, is) in
        let same : p ≡ place = omega (arith, at, bit) in
        let here : (p == place) ≡ true = grind (arith, same) in
        ap (λ n. n == 1) (bit_at_or (get_or words (place / 64) 0) (2 ^ (place % 64)) (p % 64))
        ∙ bit_or_one (bit_at (get_or words (place / 64) 0) (p % 64)) (bit_at (2 ^ (place % 64)) (p % 64)) (bit_at-lt (get_or words (place / 64) 0) (p % 64)) (ap (bit_at (2 ^ (place % 64))) bit ∙ bit_at-pow_same (place % 64))
        ∙ ap (λ b. b || bit_in words p) (sym here)
    by_bit at false is =
        let bit : p % 64 ≢ place % 64 = λ same. grind (arith, is, same) in
        let other : (p == place) ≡ false = by_test (p == place) refl bit in
        ap (λ n. n == 1) (bit_at_or (get_or words (place / 64) 0) (2 ^ (place % 64)) (p % 64))
        ∙ bit_or_none (bit_at (get_or words (place / 64) 0) (p % 64)) (bit_at (2 ^ (place % 64)) (p % 64)) (bit_at-pow_other (place % 64) (p % 64) bit)
        ∙ ap (λ w. bit_at (get_or words w 0) (p % 64) == 1) (sym at)
        ∙ ap (λ b. b || bit_in words p) (sym other)
      where
        by_test : (b : Bool) → (p == place) ≡ b → p % 64 ≢ place % 64 → (p == place) ≡ false
        by_test true same differs = absurd (differs (let at : p ≡ place = grind (arith, same) in ap (λ n. n % 64) at))
        by_test false same differs = same

    by_word : (b : Bool) → (p / 64 == place / 64) ≡ b → bit_in new p ≡ ((p == place) || bit_in words p)
    by_word true is =
        let at : p / 64 ≡ place / 64 = grind (arith, is) in
        ap (λ w. bit_at (get_or new w 0) (p % 64) == 1) at ∙ ap (λ n. bit_at n (p % 64) == 1) (get_or-set_same words (place / 64) (bit_or (get_or words (place / 64) 0) (2 ^ (place % 64))) 0 within)
        ∙ by_bit at (p % 64 == place % 64) refl
    by_word false is =
        let away : p / 64 ≢ place / 64 = λ same. grind (arith, is, same) in
        let other : (p == place) ≡ false = by_test (p == place) refl away in
        ap (λ n. bit_at n (p % 64) == 1) (get_or-set_other words (place / 64) (p / 64) (bit_or (get_or words (place / 64) 0) (2 ^ (place % 64))) 0 away)
        ∙ ap (λ b. b || bit_in words p) (sym other)
      where
        by_test : (b : Bool) → (p == place) ≡ b → p / 64 ≢ place / 64 → (p == place) ≡ false
        by_test true same differs = absurd (differs (let at : p ≡ place = grind (arith, same) in ap (λ n. n / 64) at))
        by_test false same differs = same

-- ---- the bits of a list, node by node
pub record BitsSoFar (first : ℕ) (nodes : List NodeId) (i : ℕ) (words : List ℕ) : Type 0 where
  pub each : (n : ℕ) → (has_bit first words n || has_node (drop i nodes) n) ≡ has_node nodes n

pub bits_first : (first : ℕ) (nodes : List NodeId) (words : List ℕ) → ((p : ℕ) → bit_in words p ≡ false) → BitsSoFar first nodes 0 words
bits_first first nodes words clear = record { each = λ n. ap (λ b. b || has_node nodes n) (none n (nat_lt n first)) }
  where
    none : (n : ℕ) (b : Bool) → (if b then false else bit_in words (n - first)) ≡ false
    none n true = refl
    none n false = clear (n - first)

pub bits_more : (first : ℕ) (nodes : List NodeId) (i : ℕ) (x : NodeId) (words new : List ℕ) → i < length nodes → x ≡ get_or nodes i x → first ≤ x.0 → ((p : ℕ) → bit_in new p ≡ ((p == (x.0 - first)) || bit_in words p))
    → BitsSoFar first nodes i words → BitsSoFar first nodes (i + 1) new
bits_more first nodes i x words new within is above put before = record {
  each = λ n. one_more n (nat_lt n first) refl ∙ ap (λ l. has_bit first words n || has_node l n) (sym (next nodes i x within is)) ∙ before.each n;
}
  where
    swap : (a b c : Bool) → ((a || b) || c) ≡ (b || (a || c))
    swap true true c = refl
    swap true false c = refl
    swap false b c = refl

    one_more : (n : ℕ) (b : Bool) → nat_lt n first ≡ b → (has_bit first new n || has_node (drop (i + 1) nodes) n) ≡ (has_bit first words n || has_node (x ∷ drop (i + 1) nodes) n)
    one_more n true is =
        let below : n < first = grind (arith, nat_tests, is) in
        let other : (x.0 == n) ≡ false = grind (arith, below, above) in
        ap (λ b. (if b then false else bit_in new (n - first)) || has_node (drop (i + 1) nodes) n) is
        ∙ ap (λ b. b || has_node (drop (i + 1) nodes) n) (sym other)
        ∙ ap (λ b. (if b then false else bit_in words (n - first)) || has_node (x ∷ drop (i + 1) nodes) n) (sym is)
    one_more n false is =
        let from : first ≤ n = grind (arith, nat_tests, is) in
        let same : ((n - first) == (x.0 - first)) ≡ (x.0 == n) = by_test (x.0 == n) refl from in
        ap (λ b. (if b then false else bit_in new (n - first)) || has_node (drop (i + 1) nodes) n) is
        ∙ ap (λ b. b || has_node (drop (i + 1) nodes) n) (put (n - first) ∙ ap (λ b. b || bit_in words (n - first)) same)
        ∙ swap (x.0 == n) (bit_in words (n - first)) (has_node (drop (i + 1) nodes) n)
        ∙ ap (λ b. (if b then false else bit_in words (n - first)) || has_node (x ∷ drop (i + 1) nodes) n) (sym is)
      where
        by_test : (b : Bool) → (x.0 == n) ≡ b → first ≤ n → ((n - first) == (x.0 - first)) ≡ b
        by_test true at from = let is : x.0 ≡ n = grind (arith, at) in grind (arith, is)
        by_test false at from =
            let other : x.0 ≢ n = λ is. grind (arith, at, is) in
            let differs : n - first ≢ x.0 - first = λ is. other (omega (arith, is, from, above)) in
            grind (arith, differs)

pub bits_last : (first : ℕ) (nodes : List NodeId) (i : ℕ) (words : List ℕ) → length nodes ≤ i → BitsSoFar first nodes i words → IsWords first nodes words
bits_last first nodes i words end before n = sym (before.each n) ∙ ap (λ l. has_bit first words n || has_node l n) (drop_all nodes i end) ∙ or_false (has_bit first words n)

zeros : (count w : ℕ) → ◌≡◌ {A = ℕ} (get_or (replicate count 0) w 0) 0
zeros zero w = refl
zeros (suc count) zero = refl
zeros (suc count) (suc w) = zeros count w

pub clear_words : (count p : ℕ) → bit_in (replicate count 0) p ≡ false
clear_words count p = ap (λ n. bit_at n (p % 64) == 1) (zeros count (p / 64)) ∙ ap (λ n. n == 1) (bit_at-zero (p % 64))

-- ---- words of lists, list by list
pub words_is : (lists : List (Vec ℕ Global)) (place : ℕ) (list : Vec ℕ Global) → place < length lists → list ≡ get_or lists place list → list.items ≡ words_at lists place
words_is [] place list within is = absurd (omega (arith, within))
words_is (first ∷ lists) zero list within is = ap (λ (l : Vec ℕ Global). l.items) is
words_is (first ∷ lists) (suc place) list within is = words_is lists place list (omega (arith, within)) is

words_all : (lists : List (Vec ℕ Global)) (list : Vec ℕ Global) (k : ℕ) → k < length lists → words_at (lists ++ list ∷ []) k ≡ words_at lists k
words_all [] list k within = absurd (omega (arith, within))
words_all (l ∷ lists) list zero within = refl
words_all (l ∷ lists) list (suc k) within = words_all lists list k (omega (arith, within))

words_end : (lists : List (Vec ℕ Global)) (list : Vec ℕ Global) → words_at (lists ++ list ∷ []) (length lists) ≡ list.items
words_end [] list = refl
words_end (l ∷ lists) list = words_end lists list

pub record WordsSoFar (count first : ℕ) (lists : List (Vec NodeId Global)) (i : ℕ) (words : List (Vec ℕ Global)) : Type 0 where
  pub as_long : length words ≡ i
  pub few : (k : ℕ) → k < i → length (words_at words k) ≤ count
  pub each : (k : ℕ) → k < i → 0 < length (words_at words k) → IsWords first (list_at lists k) (words_at words k)

pub words_first : (count first : ℕ) (lists : List (Vec NodeId Global)) (words : List (Vec ℕ Global)) → words ≡ [] → WordsSoFar count first lists 0 words
words_first count first lists words empty = record { as_long = ap length empty; few = λ k few. absurd (omega (arith, few)); each = λ k few _. absurd (omega (arith, few)) }

pub words_more : (count first : ℕ) (lists : List (Vec NodeId Global)) (i : ℕ) (list : Vec NodeId Global) (new : Vec ℕ Global) (words more : List (Vec ℕ Global)) → list.items ≡ list_at lists i → (0 < length new.items → IsWords first list.items new.items)
    → length new.items ≤ count → more ≡ words ++ new ∷ [] → WordsSoFar count first lists i words → WordsSoFar count first lists (i + 1) more
words_more count first lists i list new words more is own small put before = record {
  as_long = ap length put ∙ longer words new ∙ ap (λ n. n + 1) before.as_long;
  few = λ k few. subst (λ (l : List (Vec ℕ Global)). length (words_at l k) ≤ count) (sym put) (few_at k few (nat_lt k i) refl);
  each = λ k few. subst (λ (l : List (Vec ℕ Global)). 0 < length (words_at l k) → IsWords first (list_at lists k) (words_at l k)) (sym put) (by_place k few (nat_lt k i) refl);
}
  where
    longer : (xs : List (Vec ℕ Global)) (x : Vec ℕ Global) → length (xs ++ x ∷ []) ≡ length xs + 1
    longer [] x = refl
    longer (y ∷ xs) x = let rest = longer xs x in omega (arith, rest)

    few_at : (k : ℕ) → k < i + 1 → (b : Bool) → nat_lt k i ≡ b → length (words_at (words ++ new ∷ []) k) ≤ count
    few_at k few true at =
        let below : k < i = grind (arith, nat_tests, at) in
        subst (λ (l : List ℕ). length l ≤ count) (sym (words_all words new k (omega (arith, below, before.as_long)))) (before.few k below)
    few_at k few false at =
        let last : k ≡ length words = grind (arith, nat_tests, at, few, before.as_long) in
        subst (λ (l : List ℕ). length l ≤ count) (sym (ap (words_at (words ++ new ∷ [])) last ∙ words_end words new)) small

    by_place : (k : ℕ) → k < i + 1 → (b : Bool) → nat_lt k i ≡ b → 0 < length (words_at (words ++ new ∷ []) k) → IsWords first (list_at lists k) (words_at (words ++ new ∷ []) k)
    by_place k few true at =
        let below : k < i = grind (arith, nat_tests, at) in
        subst (λ (l : List ℕ). 0 < length l → IsWords first (list_at lists k) l) (sym (words_all words new k (omega (arith, below, before.as_long)))) (before.each k below)
    by_place k few false at =
        let last : k ≡ length words = grind (arith, nat_tests, at, few, before.as_long) in
        let place : k ≡ i = last ∙ before.as_long in
        subst (λ (l : List ℕ). 0 < length l → IsWords first (list_at lists k) l) (sym (ap (words_at (words ++ new ∷ [])) last ∙ words_end words new))
        (subst (λ (l : List NodeId). 0 < length new.items → IsWords first l new.items) (is ∙ ap (list_at lists) (sym place)) own)

pub words_last : (count first : ℕ) (lists : List (Vec NodeId Global)) (i : ℕ) (words : List (Vec ℕ Global)) → first + 64 * count ≤ 2 ^ 32 → length lists ≤ i → i ≤ length lists → WordsSoFar count first lists i words → AreWords first lists words
words_last count first lists i words room end within before = record {
  as_long = omega (arith, before.as_long, end, within);
  few = λ k few. let small = before.few k (omega (arith, few, end)) in omega (arith, small, room);
  each = λ k few. before.each k (omega (arith, few, end));
}

-- ---- the nodes of a word, bit by bit
abbrev pub is_set : ℕ → ℕ → Bool
is_set word bit = bit_at word bit == 1

-- the nodes so far, with those of the bits that are to come
pub record WordSoFar (first word : ℕ) (old : List NodeId) (bit : ℕ) (nodes : List NodeId) : Type 0 where
  pub joined : nodes ++ those (is_set word) (first + bit) (range_with_len bit (64 - bit)) ≡ old ++ in_word first word

pub word_first : (first word : ℕ) (old : List NodeId) → WordSoFar first word old 0 old
unfolding in_word
word_first first word old = record { joined = let at : first + 0 ≡ first = omega arith in ap (λ n. old ++ those (is_set word) n (range_with_len 0 64)) at }

pub word_more : (first word : ℕ) (old : List NodeId) (bit : ℕ) (nodes new : List NodeId) (b : Bool) → bit < 64 → is_set word bit ≡ b → new ≡ (if b then nodes ++ node (first + bit) ∷ [] else nodes)
    → WordSoFar first word old bit nodes → WordSoFar first word old (bit + 1) new
word_more first word old bit nodes new b within is put before = record {
  joined = ap (λ l. l ++ those (is_set word) (first + (bit + 1)) (range_with_len (bit + 1) (64 - (bit + 1)))) put ∙ by_bit b is ∙ ap (λ l. nodes ++ those (is_set word) (first + bit) l) (sym (following bit within)) ∙ before.joined;
}
  where
    following : (n : ℕ) → n < 64 → range_with_len n (64 - n) ≡ n ∷ range_with_len (n + 1) (64 - (n + 1))
    following n few = let one_less : 64 - n ≡ suc (64 - (n + 1)) = omega (arith, few) in ap (range_with_len n) one_less

    place : first + (bit + 1) ≡ first + bit + 1
    place = omega arith

    by_bit : (b : Bool) → is_set word bit ≡ b → (if b then nodes ++ node (first + bit) ∷ [] else nodes) ++ those (is_set word) (first + (bit + 1)) (range_with_len (bit + 1) (64 - (bit + 1)))
        ≡ nodes ++ those (is_set word) (first + bit) (bit ∷ range_with_len (bit + 1) (64 - (bit + 1)))
    by_bit true set =
        append_assoc nodes (node (first + bit) ∷ []) (those (is_set word) (first + (bit + 1)) (range_with_len (bit + 1) (64 - (bit + 1))))
        ∙ ap (λ n. nodes ++ node (first + bit) ∷ those (is_set word) n (range_with_len (bit + 1) (64 - (bit + 1)))) place
        ∙ ap (λ c. nodes ++ (if c then node (first + bit) ∷ those (is_set word) (first + bit + 1) (range_with_len (bit + 1) (64 - (bit + 1))) else those (is_set word) (first + bit + 1) (range_with_len (bit + 1) (64 - (bit + 1))))) (sym set)
    by_bit false set =
        ap (λ n. nodes ++ those (is_set word) n (range_with_len (bit + 1) (64 - (bit + 1)))) place
        ∙ ap (λ c. nodes ++ (if c then node (first + bit) ∷ those (is_set word) (first + bit + 1) (range_with_len (bit + 1) (64 - (bit + 1))) else those (is_set word) (first + bit + 1) (range_with_len (bit + 1) (64 - (bit + 1))))) (sym set)

pub word_last : (first word : ℕ) (old : List NodeId) (bit : ℕ) (nodes : List NodeId) → 64 ≤ bit → WordSoFar first word old bit nodes → nodes ≡ old ++ in_word first word
word_last first word old bit nodes end before =
    let none : 64 - bit ≡ 0 = omega (arith, end) in
    sym (append-nil nodes) ∙ ap (λ n. nodes ++ those (is_set word) (first + bit) (range_with_len bit n)) (sym none) ∙ before.joined

-- ---- the nodes of words, word by word
none_clear : (n from count : ℕ) → those (is_set 0) n (range_with_len from count) ≡ []
none_clear n from zero = refl
none_clear n from (suc count) =
    let none : is_set 0 from ≡ false = ap (λ m. m == 1) (bit_at-zero from) in
    ap (λ b. if b then node n ∷ those (is_set 0) (n + 1) (range_with_len (from + 1) count) else those (is_set 0) (n + 1) (range_with_len (from + 1) count)) none ∙ none_clear (n + 1) (from + 1) count

pub none_set : (first word : ℕ) → word ≡ 0 → in_word first word ≡ []
unfolding in_word
none_set first word is = ap (λ w. those (is_set w) first (range_with_len 0 64)) is ∙ none_clear first 0 64

pub record WordsListed (first : ℕ) (words : List ℕ) (i : ℕ) (nodes : List NodeId) : Type 0 where
  pub joined : nodes ++ in_words (first + 64 * i) (drop i words) ≡ in_words first words

pub listed_first : (first : ℕ) (words : List ℕ) (nodes : List NodeId) → nodes ≡ [] → WordsListed first words 0 nodes
listed_first first words nodes empty = record { joined = let at : first + 64 * 0 ≡ first = omega arith in ap (λ l. l ++ in_words (first + 64 * 0) words) empty ∙ ap (λ n. in_words n words) at }

pub listed_more : (first : ℕ) (words : List ℕ) (i word : ℕ) (nodes new : List NodeId) → i < length words → word ≡ get_or words i word → new ≡ nodes ++ in_word (first + 64 * i) word → WordsListed first words i nodes → WordsListed first words (i + 1) new
unfolding in_words
listed_more first words i word nodes new within is put before = record {
  joined =
      let place : first + 64 * (i + 1) ≡ first + 64 * i + 64 = omega arith in
      ap (λ l. l ++ in_words (first + 64 * (i + 1)) (drop (i + 1) words)) put ∙ append_assoc nodes (in_word (first + 64 * i) word) (in_words (first + 64 * (i + 1)) (drop (i + 1) words))
      ∙ ap (λ n. nodes ++ (in_word (first + 64 * i) word ++ in_words n (drop (i + 1) words))) place
      ∙ ap (λ l. nodes ++ in_words (first + 64 * i) l) (sym (next words i word within is)) ∙ before.joined;
}

pub listed_none : (first : ℕ) (words : List ℕ) (i word : ℕ) (nodes : List NodeId) → i < length words → word ≡ get_or words i word → word ≡ 0 → WordsListed first words i nodes → WordsListed first words (i + 1) nodes
listed_none first words i word nodes within is zero_word before =
    listed_more first words i word nodes nodes within is (sym (append-nil nodes) ∙ ap (λ l. nodes ++ l) (sym (none_set (first + 64 * i) word zero_word))) before

pub listed_last : (first : ℕ) (words : List ℕ) (i : ℕ) (nodes : List NodeId) → length words ≤ i → WordsListed first words i nodes → nodes ≡ in_words first words
unfolding in_words
listed_last first words i nodes end before = sym (append-nil nodes) ∙ ap (λ l. nodes ++ in_words (first + 64 * i) l) (sym (drop_all words i end)) ∙ before.joined

-- ---- which nodes those of words are
rising_append : (low end : ℕ) → (xs ys : List ℕ) → low ≤ end → Rising low xs → All (λ k. k < end) xs → Rising end ys → Rising low (xs ++ ys)
unfolding Rising
rising_append low end [] ys from first below rest = rising_lower end low from ys rest
rising_append low end (x ∷ xs) ys from first below rest =
    let least : x < end = All-head (λ k. k < end) x xs below in
    (first.0, rising_append (x + 1) end xs ys (omega (arith, least)) first.1 (All-tail (λ k. k < end) x xs below) rest)

numbers_append : (xs ys : List NodeId) → numbers_of (xs ++ ys) ≡ numbers_of xs ++ numbers_of ys
numbers_append [] ys = refl
numbers_append (x ∷ xs) ys = ap (λ l. x.0 ∷ l) (numbers_append xs ys)

under_one : (high first : ℕ) (rest : List NodeId) (b : Bool) → first < high → All (λ k. k < high) (numbers_of rest) → All (λ k. k < high) (numbers_of (if b then node first ∷ rest else rest))
under_one high first rest true small below = All-cons (λ k. k < high) first (numbers_of rest) small below
under_one high first rest false small below = below

those_under : {A : Type 0} (test : A → Bool) (high : ℕ) → (xs : List A) (first : ℕ) → first + length xs ≤ high → All (λ k. k < high) (numbers_of (those test first xs))
those_under test high [] first room = All-nil (λ k. k < high)
those_under test high (x ∷ xs) first room = under_one high first (those test (first + 1) xs) (test x) (omega (arith, room)) (those_under test high xs (first + 1) (omega (arith, room)))

-- the nodes of a word are below the next word's
word_below : (first word : ℕ) → All (λ k. k < first + 64) (numbers_of (in_word first word))
unfolding in_word
word_below first word = those_under (is_set word) (first + 64) (range_with_len 0 64) first (omega arith)

words_rise : (first : ℕ) (words : List ℕ) → Rising first (numbers_of (in_words first words))
unfolding in_words Rising in_word
words_rise first [] = tt
words_rise first (word ∷ words) =
    subst (Rising first) (sym (numbers_append (in_word first word) (in_words (first + 64) words)))
    (rising_append first (first + 64) (numbers_of (in_word first word)) (numbers_of (in_words (first + 64) words)) (omega arith) (those_rise (is_set word) (range_with_len 0 64) first) (word_below first word) (words_rise (first + 64) words))

pub words_increase : (first : ℕ) (words : List ℕ) → Rise (in_words first words)
words_increase first words = increasing first (numbers_of (in_words first words)) (words_rise first words)

range_at : (count first word bit k : ℕ) → k ≡ first + bit → bit < count → has_node (those (is_set word) first (range_with_len 0 count)) k ≡ is_set word bit
range_at count first word bit k at few =
    at_those (is_set word) (range_with_len 0 count) first bit k at
    ∙ ap (passes (is_set word)) (slice_get-get_or (range_with_len 0 count) bit 0 (subst (λ n. bit < n) (sym (length-range_with_len 0 count)) few))
    ∙ ap (is_set word) (let same : get_or (range_with_len 0 count) bit 0 ≡ bit = get_or-range_with_len 0 count bit 0 few ∙ omega arith in same)

range_past : (count first word k : ℕ) → first + count ≤ k → has_node (those (is_set word) first (range_with_len 0 count)) k ≡ false
range_past count first word k past =
    sym (past_those (is_set word) (range_with_len 0 count) first (k - first) k (omega (arith, past)) (subst (λ n. n ≤ k - first) (sym (length-range_with_len 0 count)) (omega (arith, past))))

in_word_at : (first word bit k : ℕ) → k ≡ first + bit → bit < 64 → has_node (in_word first word) k ≡ is_set word bit
unfolding in_word
in_word_at first word bit k at few = range_at 64 first word bit k at few

in_word_past : (first word k : ℕ) → first + 64 ≤ k → has_node (in_word first word) k ≡ false
unfolding in_word
in_word_past first word k past = range_past 64 first word k past

in_word_before : (first word k : ℕ) → k < first → has_node (in_word first word) k ≡ false
unfolding in_word
in_word_before first word k below = below_those (is_set word) (range_with_len 0 64) first k below

has_append : (xs ys : List NodeId) (k : ℕ) → has_node (xs ++ ys) k ≡ (has_node xs k || has_node ys k)
has_append [] ys k = refl
has_append (x ∷ xs) ys k = ap (λ b. (x.0 == k) || b) (has_append xs ys k) ∙ sym (either_assoc (x.0 == k) (has_node xs k) (has_node ys k))
  where
    either_assoc : (a b c : Bool) → ((a || b) || c) ≡ (a || (b || c))
    either_assoc true b c = refl
    either_assoc false b c = refl

words_before : (words : List ℕ) (first k : ℕ) → k < first → has_node (in_words first words) k ≡ false
unfolding in_words
words_before [] first k below = refl
words_before (word ∷ words) first k below =
    has_append (in_word first word) (in_words (first + 64) words) k
    ∙ ap (λ b. b || has_node (in_words (first + 64) words) k) (in_word_before first word k below) ∙ words_before words (first + 64) k (omega (arith, below))

by_word : (word : ℕ) (words : List ℕ) (first p : ℕ) → ((q : ℕ) → has_node (in_words (first + 64) words) (first + 64 + q) ≡ bit_in words q) → (b : Bool) → nat_lt p 64 ≡ b
    → (has_node (in_word first word) (first + p) || has_node (in_words (first + 64) words) (first + p)) ≡ bit_in (word ∷ words) p
by_word word words first p later true is =
    let few : p < 64 = grind (arith, nat_tests, is) in
    let here : p / 64 ≡ 0 = omega (arith, few) in
    let bit : p % 64 ≡ p = omega (arith, few) in
    ap (λ b. b || has_node (in_words (first + 64) words) (first + p)) (in_word_at first word p (first + p) refl few)
    ∙ ap (λ b. is_set word p || b) (words_before words (first + 64) (first + p) (omega (arith, few)))
    ∙ or_false (is_set word p)
    ∙ ap (λ w. bit_at (get_or (word ∷ words) w 0) p == 1) (sym here) ∙ ap (λ n. bit_at (get_or (word ∷ words) (p / 64) 0) n == 1) (sym bit)
by_word word words first p later false is =
    let past : 64 ≤ p = grind (arith, nat_tests, is) in
    let at : first + p ≡ first + 64 + (p - 64) = omega (arith, past) in
    let there : p / 64 ≡ suc ((p - 64) / 64) = omega (arith, past) in
    let bit : (p - 64) % 64 ≡ p % 64 = omega (arith, past) in
    ap (λ b. b || has_node (in_words (first + 64) words) (first + p)) (in_word_past first word (first + p) (omega (arith, past)))
    ∙ ap (has_node (in_words (first + 64) words)) at ∙ later (p - 64)
    ∙ ap (λ n. bit_at (get_or words ((p - 64) / 64) 0) n == 1) bit ∙ ap (λ w. bit_at (get_or (word ∷ words) w 0) (p % 64) == 1) (sym there)

has_in_words : (words : List ℕ) (first p : ℕ) → has_node (in_words first words) (first + p) ≡ bit_in words p
unfolding in_words
has_in_words [] first p = sym (ap (λ n. n == 1) (bit_at-zero (p % 64)))
has_in_words (word ∷ words) first p = has_append (in_word first word) (in_words (first + 64) words) (first + p) ∙ by_word word words first p (λ q. has_in_words words (first + 64) q) (nat_lt p 64) refl

pub nodes_are_words : (first : ℕ) (words : List ℕ) → IsWords first (in_words first words) words
nodes_are_words first words n = by_first (nat_lt n first) refl
  where
    by_first : (b : Bool) → nat_lt n first ≡ b → has_node (in_words first words) n ≡ has_bit first words n
    by_first true is = words_before words first n (grind (arith, nat_tests, is)) ∙ sym (ap (λ b. if b then false else bit_in words (n - first)) is)
    by_first false is =
        let from : first ≤ n = grind (arith, nat_tests, is) in
        let at : n ≡ first + (n - first) = omega (arith, from) in
        ap (has_node (in_words first words)) at ∙ has_in_words words first (n - first) ∙ sym (ap (λ b. if b then false else bit_in words (n - first)) is)

-- ---- what words have in common
both_bits : (a b : ℕ) → a < 2 → b < 2 → (min a b == 1) ≡ ((a == 1) && (b == 1))
both_bits a b x y = by_tests (a == 1) (b == 1) refl refl
  where
    by_tests : (p q : Bool) → (a == 1) ≡ p → (b == 1) ≡ q → (min a b == 1) ≡ (p && q)
    by_tests true true e f =
        let first : a ≡ 1 = grind (arith, e) in
        let second : b ≡ 1 = grind (arith, f) in
        let both : min a b ≡ 1 = omega (arith, first, second) in
        grind (arith, both)
    by_tests true false e f =
        let none : b ≡ 0 = grind (arith, f, y) in
        let neither : min a b ≡ 0 = omega (arith, none) in
        grind (arith, neither)
    by_tests false q e f =
        let none : a ≡ 0 = grind (arith, e, x) in
        let neither : min a b ≡ 0 = omega (arith, none) in
        grind (arith, neither)

pub bits_common : (words others kept : List ℕ) → ((w : ℕ) → get_or kept w 0 ≡ bit_and (get_or words w 0) (get_or others w 0)) → (first n : ℕ) → has_bit first kept n ≡ (has_bit first words n && has_bit first others n)
bits_common words others kept are first n = by_first (nat_lt n first)
  where
    in_both : (p : ℕ) → bit_in kept p ≡ (bit_in words p && bit_in others p)
    in_both p =
        ap (λ x. bit_at x (p % 64) == 1) (are (p / 64)) ∙ ap (λ x. x == 1) (bit_at_and (get_or words (p / 64) 0) (get_or others (p / 64) 0) (p % 64))
        ∙ both_bits (bit_at (get_or words (p / 64) 0) (p % 64)) (bit_at (get_or others (p / 64) 0) (p % 64)) (bit_at-lt (get_or words (p / 64) 0) (p % 64)) (bit_at-lt (get_or others (p / 64) 0) (p % 64))

    by_first : (b : Bool) → (if b then false else bit_in kept (n - first)) ≡ ((if b then false else bit_in words (n - first)) && (if b then false else bit_in others (n - first)))
    by_first true = refl
    by_first false = in_both (n - first)

-- what is kept so far, with the numbers that are to come
pub record KeptBits (words : List (Vec ℕ Global)) (numbers : List ℕ) (i : ℕ) (kept : List ℕ) : Type 0 where
  pub each : (first n : ℕ) → (has_bit first kept n && list_all (λ j. has_bit first (words_at words j) n) (drop i numbers)) ≡ list_all (λ j. has_bit first (words_at words j) n) numbers
  pub as_long : length kept ≡ length (words_at words (get_or numbers 0 0))

pub kept_bits_first : (words : List (Vec ℕ Global)) (numbers : List ℕ) (kept : List ℕ) → 0 < length numbers → kept ≡ words_at words (get_or numbers 0 0) → KeptBits words numbers 0 kept
kept_bits_first words [] kept some are = absurd (omega (arith, some))
kept_bits_first words (number ∷ numbers) kept some are = record {
  each = λ first n. ap (λ l. has_bit first l n && list_all (λ j. has_bit first (words_at words j) n) (number ∷ numbers)) are ∙ and_twice (has_bit first (words_at words number) n) (list_all (λ j. has_bit first (words_at words j) n) numbers);
  as_long = ap length are;
}

both_assoc : (a b c : Bool) → ((a && b) && c) ≡ (a && (b && c))
both_assoc true b c = refl
both_assoc false b c = refl

pub kept_bits_more : (words : List (Vec ℕ Global)) (numbers : List ℕ) (i x : ℕ) (others kept new : List ℕ) → i < length numbers → x ≡ get_or numbers i x → others ≡ words_at words x
    → ((w : ℕ) → get_or new w 0 ≡ bit_and (get_or kept w 0) (get_or others w 0)) → length new ≡ length kept → KeptBits words numbers i kept → KeptBits words numbers (i + 1) new
kept_bits_more words numbers i x others kept new within is are put long before = record {
  each = λ first n.
      ap (λ b. b && list_all (λ j. has_bit first (words_at words j) n) (drop (i + 1) numbers)) (bits_common kept others new put first n ∙ ap (λ l. has_bit first kept n && has_bit first l n) are)
      ∙ both_assoc (has_bit first kept n) (has_bit first (words_at words x) n) (list_all (λ j. has_bit first (words_at words j) n) (drop (i + 1) numbers))
      ∙ ap (λ l. has_bit first kept n && list_all (λ j. has_bit first (words_at words j) n) l) (sym (next numbers i x within is)) ∙ before.each first n;
  as_long = long ∙ before.as_long;
}

both_true : (a : Bool) → (a && true) ≡ a
both_true true = refl
both_true false = refl

pub kept_bits_last : (words : List (Vec ℕ Global)) (numbers : List ℕ) (i : ℕ) (kept : List ℕ) → length numbers ≤ i → KeptBits words numbers i kept → (first n : ℕ) → has_bit first kept n ≡ list_all (λ j. has_bit first (words_at words j) n) numbers
kept_bits_last words numbers i kept end before first n =
    sym (both_true (has_bit first kept n)) ∙ ap (λ l. has_bit first kept n && list_all (λ j. has_bit first (words_at words j) n) l) (sym (drop_all numbers i end)) ∙ before.each first n

-- the nodes of the bits that the lists of all numbers have
all_same : (first n : ℕ) (lists : List (Vec NodeId Global)) (words : List (Vec ℕ Global)) → AreWords first lists words → (numbers : List ℕ) → All (λ k. k < length lists) numbers → list_all (has_words words) numbers ≡ true
    → list_all (λ j. has_bit first (words_at words j) n) numbers ≡ is_in_all lists numbers n
all_same first n lists words are [] below full = refl
all_same first n lists words are (number ∷ numbers) below full =
    let parts = split (has_words words number) (list_all (has_words words) numbers) full in
    let some : 0 < length (words_at words number) = grind (arith, nat_tests, parts.0) in
    ap (λ b. b && list_all (λ j. has_bit first (words_at words j) n) numbers) (sym (are.each number (All-head (λ k. k < length lists) number numbers below) some n))
    ∙ ap (λ b. has_node (list_at lists number) n && b) (all_same first n lists words are numbers (All-tail (λ k. k < length lists) number numbers below) parts.1)
  where
    split : (a b : Bool) → (a && b) ≡ true → (a ≡ true) × (b ≡ true)
    split true true is = (refl, refl)
    split true false is = absurd cc
    split false b is = absurd cc

pub common_by_words : (first : ℕ) (lists : List (Vec NodeId Global)) (words : List (Vec ℕ Global)) (numbers kept : List ℕ) (nodes : List NodeId) → AreWords first lists words → All (λ k. k < length lists) numbers
    → list_all (has_words words) numbers ≡ true → ((first n : ℕ) → has_bit first kept n ≡ list_all (λ j. has_bit first (words_at words j) n) numbers) → nodes ≡ in_words first kept → AreCommon lists numbers nodes
common_by_words first lists words numbers kept nodes are below full bits is = record {
  rise = subst Rise (sym is) (words_increase first kept);
  same = λ n. ap (λ l. has_node l n) is ∙ nodes_are_words first kept n ∙ bits first n ∙ all_same first n lists words are numbers below full;
}
