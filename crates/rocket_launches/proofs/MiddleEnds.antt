-- What cargo gives for middles: by the places of its name, and of all cargo.
use Rattle.std.proofs.Common.{◌≡◌, ◌≢◌, ◌∙◌, ◌<◌, ◌≤◌, ◌+◌, ◌++◌, ℕ, Bool, true, false, suc, List, ◌∷◌, Option, Some, None, Ok, Err, Result, length, take, drop, get_or, refl, sym, ap, subst, arith, eq-eqb, eqb-true}
use Rattle.std.specs.Prelude.{IfOk, option_and_then, slice_index_or, nat_lt, ◌==◌, if◌then◌else◌}
use Rattle.std.specs.Str.{bytes_eq}
use Rattle.std.proofs.lemmas.Bool.Decides.{nat_tests}
use Rattle.std.proofs.lemmas.Grind.{common_steps}
use Rattle.std.proofs.lemmas.Option.{slice_get-get_or}
use Rattle.std.proofs.lemmas.Slice.Eq.{bytes_eq-Decides}
use Rattle.plan_base.specs.declared.ids.GoodId.{GoodId}
use Rattle.name_table.proofs.NamesLemmas.{bytes_eq-same}
use Rattle.game_types.specs.declared.games.Game.{Game}
use Rattle.rocket_launches.specs.declared.middles.Ends.{Ends}
use Rattle.rocket_launches.specs.Launches.{name_at}
use Rattle.rocket_launches.specs.Clashes.{cargo_named, ends_among, ends_with, joined}
use Rattle.rocket_launches.proofs.Clashing.{ends_past, ends_rest}
use Rattle.rocket_launches.proofs.Cuts.{colon_cut, cut_at, take_cut, within_cut}

no_more : (a : Option Ends) → joined a None ≡ a
no_more None = refl
no_more (Some a) = refl

differ : false ≡ true → ⊥
differ e = absurd (cc)

pub ok_both : {A E P Q R : Type 0} (r : Result A E) → IfOk r (λ done. P) → IfOk r (λ done. Q) → (P → Q → R) → IfOk r (λ done. R)
ok_both (Ok done) p q f = f p q
ok_both (Err fault) p q f = tt

-- ---- what one cargo gives
module _ (g : Game) (cargo : GoodId) (name : List ℕ) (name_is : name ≡ name_at g.item_names cargo.0) where
  -- what a table has of a middle before and after the text in front of a place is put
  abbrev here : ℕ → List ℕ → Option Ends → Option Ends
  here place middle old = if length middle == place then joined old (ends_with g middle cargo) else old

  nothing_here : (place : ℕ) (middle : List ℕ) (old : Option Ends) → (length middle ≡ place → ends_with g middle cargo ≡ None) → old ≡ here place middle old
  nothing_here place middle old none = by_length (length middle == place) refl
    where
      by_length : (b : Bool) → (length middle == place) ≡ b → old ≡ (if b then joined old (ends_with g middle cargo) else old)
      by_length true told = sym (ap (joined old) (none (eqb-true (length middle) place told)) ∙ no_more old)
      by_length false told = refl

  front : (middle rest : List ℕ) (place : ℕ) → length middle ≡ place → name ≡ middle ++ (58 ∷ rest) → middle ≡ take place name
  front middle rest place long cut = sym (ap (λ n. take n name) (sym long) ∙ ap (take (length middle)) cut ∙ take_cut middle rest)

  length_front : (place : ℕ) (xs : List ℕ) → place < length xs → length (take place xs) ≡ place
  length_front place xs within = grind (arith, common_steps, within)

  pub no_colon : (place : ℕ) (middle : List ℕ) (old : Option Ends) → slice_index_or name place 0 ≢ 58 → old ≡ here place middle old
  no_colon place middle old never = nothing_here place middle old (λ long. ends_past g cargo middle (λ rest whole. let cut : name ≡ middle ++ (58 ∷ rest) = name_is ∙ whole in never (ap (λ n. slice_index_or name n 0) (sym long) ∙ ap (λ (t : List ℕ). slice_index_or t (length middle) 0) cut ∙ colon_cut middle rest)))

  module _ (place : ℕ) (within : place < length name) (colon : slice_index_or name place 0 ≡ 58) (before behind : List ℕ) (before_is : before ≡ take place name) (behind_is : behind ≡ drop (place + 1) name) where
    cut : name ≡ before ++ (58 ∷ behind)
    cut = cut_at name place within colon ∙ ap (λ a. a ++ (58 ∷ drop (place + 1) name)) (sym before_is) ∙ ap (λ b. before ++ (58 ∷ b)) (sym behind_is)

    others_here : (middle : List ℕ) (old : Option Ends) → middle ≢ before → old ≡ here place middle old
    others_here middle old apart = nothing_here place middle old (λ long. ends_past g cargo middle (λ rest whole. apart (front middle rest place long (name_is ∙ whole) ∙ sym before_is)))

    itself_here : (found : Option GoodId) (old : Option Ends) → cargo_named g behind ≡ found → joined old (option_and_then (λ rest. Some (record { whole = cargo; rest = rest })) found) ≡ here place before old
    itself_here found old is =
        ap (joined old) (sym (ends_rest g cargo before behind found (sym name_is ∙ cut) is))
        ∙ ap (λ b. if b then joined old (ends_with g before cargo) else old) (sym (eq-eqb (length before) place (ap length before_is ∙ length_front place name within)))

    each_here : (old new : List ℕ → Option Ends) (found : Option GoodId) → cargo_named g behind ≡ found → new before ≡ joined (old before) (option_and_then (λ rest. Some (record { whole = cargo; rest = rest })) found)
        → ((other : List ℕ) → other ≢ before → new other ≡ old other) → (middle : List ℕ) → new middle ≡ here place middle (old middle)
    each_here old new found is put others middle = by_same (bytes_eq middle before) refl
      where
        by_same : (b : Bool) → bytes_eq middle before ≡ b → new middle ≡ here place middle (old middle)
        by_same true told =
            let same : before ≡ middle = sym ((bytes_eq-Decides middle before).0 told) in
            subst (λ m. new m ≡ here place m (old m)) same (put ∙ itself_here found (old before) is)
        by_same false told =
            let apart : middle ≢ before = λ same. differ (sym told ∙ ap (λ (m : List ℕ). bytes_eq m before) same ∙ bytes_eq-same before) in
            others middle apart ∙ others_here middle (old middle) apart

    pub some_rest : (old new : List ℕ → Option Ends) (rest : GoodId) → cargo_named g behind ≡ Some rest → new before ≡ joined (old before) (Some (record { whole = cargo; rest = rest }))
        → ((other : List ℕ) → other ≢ before → new other ≡ old other) → (middle : List ℕ) → new middle ≡ here place middle (old middle)
    some_rest old new rest is put others = each_here old new (Some rest) is put others

    pub no_rest : (old : List ℕ → Option Ends) → cargo_named g behind ≡ None → (middle : List ℕ) → old middle ≡ here place middle (old middle)
    no_rest old is = each_here old old None is (sym (no_more (old before))) (λ other apart. refl)

  past_end : (middle : List ℕ) → length name ≤ length middle → ends_with g middle cargo ≡ None
  past_end middle end = ends_past g cargo middle (λ rest whole. too_long (length name) (length middle) (subst (λ (t : List ℕ). length middle < length t) (sym (name_is ∙ whole)) (within_cut middle rest)) end)
    where
      too_long : (n m : ℕ) → m < n → n ≤ m → ⊥
      too_long n m more less = omega (arith, more, less)

  -- ---- at all places in front of one
  abbrev so_far : ℕ → List ℕ → Option Ends → Option Ends
  so_far place middle old = if nat_lt (length middle) place then joined old (ends_with g middle cargo) else old

  pub at_end : (place : ℕ) (middle : List ℕ) (old : Option Ends) → length name ≤ place → so_far place middle old ≡ joined old (ends_with g middle cargo)
  at_end place middle old end = by_test (nat_lt (length middle) place) refl
    where
      far : (n m p : ℕ) → n ≤ p → nat_lt m p ≡ false → n ≤ m
      far n m p less told = grind (arith, nat_tests, less, told)

      by_test : (b : Bool) → nat_lt (length middle) place ≡ b → (if b then joined old (ends_with g middle cargo) else old) ≡ joined old (ends_with g middle cargo)
      by_test true told = refl
      by_test false told = sym (ap (joined old) (past_end middle (far (length name) (length middle) place end told)) ∙ no_more old)

-- ---- what all cargo gives
pub among_none : (g : Game) (cargo : List GoodId) (middle : List ℕ) → ends_among g cargo middle 0 ≡ None
unfolding ends_among
among_none g cargo middle = refl

pub among_one : (g : Game) (cargo : List GoodId) (middle : List ℕ) (k : ℕ) (d : GoodId) → k < length cargo → ends_among g cargo middle (k + 1) ≡ joined (ends_among g cargo middle k) (ends_with g middle (get_or cargo k d))
unfolding ends_among
among_one g cargo middle k d within =
    ap (ends_among g cargo middle) (next k) ∙ ap (λ found. joined (ends_among g cargo middle k) (option_and_then (ends_with g middle) found)) (slice_get-get_or cargo k d within)
  where
    next : (k : ℕ) → k + 1 ≡ suc k
    next k = omega arith
