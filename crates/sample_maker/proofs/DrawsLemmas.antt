-- One more draw, and one more text.
use Rattle.std.proofs.Common.{◌≡◌, ℕ, zero, suc, ◌+◌, ◌-◌, ◌*◌, ◌<◌, List, ◌++◌, refl, sym, arith}
use Rattle.std.proofs.lemmas.List.{append-nil, append_assoc}
use Rattle.sample_maker.specs.Draws.{after, joined, next}

pub joined_more : (text : ℕ → List ℕ) (k : ℕ) → 0 < k → joined text k ≡ joined text (k - 1) ++ text k
unfolding joined
joined_more text zero h = absurd (omega arith)
joined_more text (suc j) h = let e : suc j - 1 ≡ j = omega arith in rw e

pub joined_next : (text : ℕ → List ℕ) (k : ℕ) → joined text (k + 1 - 1) ≡ joined text k
joined_next text k = let e : k + 1 - 1 ≡ k = omega arith in rw e

-- a text that grew by the texts of the numbers below k, and now by that of k
pub grown : (text : ℕ → List ℕ) (k : ℕ) (first now later : List ℕ) → 0 < k → now ≡ first ++ joined text (k - 1) → later ≡ now ++ text k → later ≡ first ++ joined text (k + 1 - 1)
grown text k first now later h was is =
    rw (joined_next text k, joined_more text k h, ← append_assoc first (joined text (k - 1)) (text k)) (rw (is, was))

-- the first of the numbers is 1
pub grown_none : (text : ℕ → List ℕ) (first : List ℕ) → first ≡ first ++ joined text (1 - 1)
unfolding joined
grown_none text first = sym (append-nil first)

-- three draws for each number below k, and three for k
pub three_more : (k first now later : ℕ) → 0 < k → now ≡ after (3 * (k - 1)) first → later ≡ after 3 now → later ≡ after (3 * (k + 1 - 1)) first
unfolding after
three_more k first now later h was is =
    let e : 3 * (k + 1 - 1) ≡ suc (suc (suc (3 * (k - 1)))) = omega arith in rw (e, is, was)

-- one draw for each number below k, and one for k
pub one_more : (k first now later : ℕ) → 0 < k → now ≡ after (k - 1) first → later ≡ next now → later ≡ after (k + 1 - 1) first
unfolding after
one_more k first now later h was is =
    let e : k + 1 - 1 ≡ suc (k - 1) = omega arith in rw (e, is, was)

pub three_none : (first : ℕ) → first ≡ after (3 * (1 - 1)) first
unfolding after
three_none first = refl

pub one_none : (first : ℕ) → first ≡ after (1 - 1) first
unfolding after
one_none first = refl
