-- Texts behind one another, number by number.
use Rattle.std.proofs.Common.{◌≡◌, ◌∙◌, ◌≤◌, ◌+◌, ◌++◌, ℕ, zero, suc, List, [], refl, ap, sym, arith, add-one}
use Rattle.page_rows.specs.Rows.{texts_below}

-- what is written of the texts of the numbers from 0 on, so far
pub record TextBelow (text : ℕ → List ℕ) (n : ℕ) (written : List ℕ) : Type 0 where
  pub joined : written ≡ texts_below n text

pub below_first : (text : ℕ → List ℕ) (written : List ℕ) → written ≡ [] → TextBelow text 0 written
unfolding texts_below
below_first text written is = record { joined = is }

texts_next : (text : ℕ → List ℕ) (n : ℕ) → texts_below (n + 1) text ≡ texts_below n text ++ text n
unfolding texts_below
texts_next text n = ap (λ k. texts_below k text) (add-one n)

pub below_more : (text : ℕ → List ℕ) (n : ℕ) (written new : List ℕ) → new ≡ written ++ text n → TextBelow text n written → TextBelow text (n + 1) new
below_more text n written new put before = record { joined = put ∙ ap (λ t. t ++ text n) before.joined ∙ sym (texts_next text n) }

pub below_end : (text : ℕ → List ℕ) (n count : ℕ) (written : List ℕ) → n ≤ count → count ≤ n → TextBelow text n written → written ≡ texts_below count text
below_end text n count written low high before = before.joined ∙ ap (λ k. texts_below k text) (let same : n ≡ count = omega arith in same)
