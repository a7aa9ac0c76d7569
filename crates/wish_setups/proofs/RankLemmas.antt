-- The best of things with ranks.
use Rattle.std.proofs.Common.{◌≡◌, ℕ, zero, suc, ◌<◌, Bool, true, false, Option, Some, None, List, Result, IfOk, IfSome, refl, subst, sym, ap, ◌∙◌, arith, below_more}
use Rattle.std.specs.Prelude.{if◌then◌else◌}
use Rattle.std.specs.Cmp.{IsTotalOrder, bool_cmp_total}
use Rattle.std.specs.Ordering.{is_lt, ordering_reverse}
use Rattle.std.specs.declared.cmp.Ordering.{Ordering}
use Rattle.std.specs.declared.cmp.Ordering.TheVariants.{Less, Equal, Greater}
use Rattle.std.proofs.lemmas.Cmp.{nat_cmp_total, on_total, then_total, tied_itself}
use Rattle.fractions.specs.Compare.{compared_total}
use Rattle.plan_base.specs.declared.ids.GoodId.{GoodId}
use Rattle.plan_base.specs.declared.text.NoMemory.{NoMemory}
use Rattle.game_types.specs.declared.games.Game.{Game}
use Rattle.game_types.specs.declared.setups.Activity.{Activity}
use Rattle.game_types.specs.declared.setups.Setup.{Setup}
use Rattle.wish_setups.specs.declared.wish.Wish.{Wish}
use Rattle.wish_setups.specs.Choice.{IsBest, IsBestBelow, IsBestSetup, best_below, better, comes_before, rank_cmp}
use Rattle.wish_setups.specs.declared.ranks.Rank.{Rank}

-- ---- ranks are in order
ranks_total : IsTotalOrder rank_cmp
ranks_total =
    then_total (on_total (λ r. r.place) nat_cmp_total)
    (then_total (on_total (λ r. r.wastes) bool_cmp_total)
    (then_total (on_total (λ r. r.heat) compared_total)
    (then_total (on_total (λ r. r.machines) compared_total) (on_total (λ r. r.burns) bool_cmp_total))))

less_from : (o : Ordering) → is_lt o ≡ true → o ≡ Less
less_from Less h = refl
less_from Equal h = cc
less_from Greater h = cc

not_both : (o : Ordering) → is_lt o ≡ true → is_lt (ordering_reverse o) ≡ false
not_both Less h = refl
not_both Equal h = cc
not_both Greater h = cc

-- what comes before another doesn't come behind it
one_way : (a b : Rank) → comes_before a b ≡ true → comes_before b a ≡ false
one_way a b h = ap is_lt (ranks_total.antisymm b a) ∙ not_both (rank_cmp a b) h

below_chain : (a b c : Rank) → comes_before a b ≡ true → comes_before b c ≡ true → comes_before a c ≡ true
below_chain a b c h k = ap is_lt (ranks_total.trans a b c (less_from _ h) (less_from _ k))

-- what comes before a rank comes before each one that doesn't
by_other : (a b c : Rank) → comes_before a b ≡ true → (o : Ordering) → rank_cmp c b ≡ o → is_lt o ≡ false → comes_before a c ≡ true
by_other a b c h Less e k = cc
by_other a b c h Equal e k =
    -- (c ties with b: so a comes before c)
    ap is_lt (ranks_total.antisymm a c ∙ ap ordering_reverse (ranks_total.congr c b a e) ∙ sym (ranks_total.antisymm a b)) ∙ h
by_other a b c h Greater e k = below_chain a b c h (ap is_lt (ranks_total.antisymm b c ∙ ap ordering_reverse e))

before_all : (a b c : Rank) → comes_before a b ≡ true → comes_before c b ≡ false → comes_before a c ≡ true
before_all a b c h k = by_other a b c h (rank_cmp c b) refl k

-- ---- one thing more
same_rank : (a b : Rank) → ◌≡◌ {A = Option Rank} (Some a) (Some b) → a ≡ b
same_rank a b e = ap (value_or a) e
  where
    value_or : Rank → Option Rank → Rank
    value_or rank None = rank
    value_or rank (Some other) = other

no_rank_is_one : (a : Rank) → ◌≡◌ {A = Option Rank} None (Some a) → ⊥
no_rank_is_one a e = cc

not_before_itself : (a : Rank) → comes_before a a ≡ false
not_before_itself a = ap is_lt (tied_itself ranks_total a)

-- what holds below a number and at it holds below the next
below_next : (P : ℕ → Type 0) (n : ℕ) → ((k : ℕ) → k < n → P k) → P n → (k : ℕ) → k < suc n → P k
below_next P n below here k h = below_more P n below here k (omega (arith, h))

IsNotBeaten : (ℕ → Option Rank) → Rank → ℕ → Type 0
IsNotBeaten ranks best k = (rank : Rank) → ranks k ≡ Some rank → comes_before rank best ≡ false

step : (ranks : ℕ → Option Rank) (n : ℕ) (best : Option (ℕ × Rank)) (found : Option Rank)
    → ranks n ≡ found → IsBestBelow ranks n best → IsBestBelow ranks (suc n) (better best n found)
unfolding IsNotBeaten
step ranks n None None e h = below_next (λ k. ranks k ≡ None) n h e
step ranks n (Some best) None e h = record {
  below = omega (arith, h.below);
  ranked = h.ranked;
  least = λ k rank l. below_next (IsNotBeaten ranks best.1) n (λ j m r. h.least j r m) (λ r f. absurd (no_rank_is_one r (sym e ∙ f))) k l rank;
  first = h.first;
}
step ranks n None (Some found) e h = record {
  below = omega arith;
  ranked = e;
  least = λ k rank l. below_next (IsNotBeaten ranks found) n (λ j m r f. absurd (no_rank_is_one r (sym (h j m) ∙ f))) (λ r f. ap (λ x. comes_before x found) (same_rank r found (sym f ∙ e)) ∙ not_before_itself found) k l rank;
  first = λ k rank l f. absurd (no_rank_is_one rank (sym (h k l) ∙ f));
}
step ranks n (Some best) (Some found) e h = pick (comes_before found best.1) refl
  where
    pick : (b : Bool) → comes_before found best.1 ≡ b → IsBestBelow ranks (suc n) (if b then Some (n, found) else Some best)
    pick true t = record {
      below = omega arith;
      ranked = e;
      least = λ k rank l. below_next (IsNotBeaten ranks found) n
          (λ j m r f. one_way found r (before_all found best.1 r t (h.least j r m f)))
          (λ r f. ap (λ x. comes_before x found) (same_rank r found (sym f ∙ e)) ∙ not_before_itself found) k l rank;
      first = λ k rank l f. before_all found best.1 rank t (h.least k rank l f);
    }
    pick false t = record {
      below = omega (arith, h.below);
      ranked = h.ranked;
      least = λ k rank l. below_next (IsNotBeaten ranks best.1) n (λ j m r. h.least j r m)
          (λ r f. ap (λ x. comes_before x best.1) (same_rank r found (sym f ∙ e)) ∙ t) k l rank;
      first = h.first;
    }

pub best_of_all : (ranks : ℕ → Option Rank) (count : ℕ) → IsBestBelow ranks count (best_below ranks count)
best_of_all ranks zero = λ k h. absurd (omega (arith, h))
best_of_all ranks (suc n) = step ranks n (best_below ranks n) (ranks n) refl (best_of_all ranks n)

within_count : (ranks : ℕ → Option Rank) (count : ℕ) (best : Option (ℕ × Rank)) → IsBestBelow ranks count best → IfSome best (λ b. b.0 < count)
within_count ranks count None h = tt
within_count ranks count (Some best) h = h.below

pub best_within : (ranks : ℕ → Option Rank) (count : ℕ) (best : Option (ℕ × Rank)) → best ≡ best_below ranks count → IfSome best (λ b. b.0 < count)
best_within ranks count best e = within_count ranks count best (subst (IsBestBelow ranks count) (sym e) (best_of_all ranks count))

pub of_best : (g : Game) (wish : Wish) (mined : List Bool) (fuels : List GoodId) (activity : Activity) (at : List GoodId) (found best : Option (ℕ × Rank)) (r : Result (Option Setup) NoMemory)
    → found ≡ best
    → IfOk r (IsBestSetup g wish mined fuels activity at found)
    → IfOk r (IsBestSetup g wish mined fuels activity at best)
of_best g wish mined fuels activity at found best r e h = subst (λ b. IfOk r (IsBestSetup g wish mined fuels activity at b)) e h
