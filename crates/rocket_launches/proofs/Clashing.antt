-- What the texts of names tell of flights that are taken.
use Rattle.std.proofs.Common.{◌≡◌, ◌≢◌, ◌∙◌, ◌+◌, ◌-◌, ◌++◌, ℕ, Bool, true, false, List, [], ◌∷◌, Option, Some, None, length, drop, refl, sym, ap, append_assoc, arith}
use Rattle.std.specs.Prelude.{codes, eqb, option_and_then, if◌then◌else◌}
use Rattle.std.specs.List.{starts_with}
use Rattle.std.specs.Option.{MatchOption}
use Rattle.std.proofs.Common.{Bor}
use Rattle.std.proofs.lemmas.Bool.Decides.{Decides-eqb}
use Rattle.std.proofs.lemmas.Grind.{common_steps}
use Rattle.std.proofs.lemmas.List.{append_cancel_left}
use Rattle.std.proofs.lemmas.Slice.Eq.{starts_is}
use Rattle.plan_base.specs.declared.ids.GoodId.{GoodId}
use Rattle.game_types.specs.declared.games.Game.{Game}
use Rattle.rocket_launches.specs.declared.middles.Ends.{Ends}
use Rattle.rocket_launches.specs.declared.silos.Silo.{Silo}
use Rattle.rocket_launches.specs.Launches.{begins_as_launch, flight, name_at}
use Rattle.rocket_launches.specs.Clashes.{cargo_named, clash_with, dumped_flight, ends_with, flight_cut, later_of, later_with, least_below}
use Rattle.rocket_launches.proofs.Cuts.{drop_cut, drop_front}

pub begins : (rest : List ℕ) → begins_as_launch (codes "launch:" ++ rest) ≡ true
unfolding begins_as_launch
begins rest = (starts_is Decides-eqb (codes "launch:" ++ rest) (codes "launch:") (starts_with eqb (codes "launch:" ++ rest) (codes "launch:")) refl).1 rest refl

-- ---- a recipe of the dump
shorter : (text : List ℕ) → length (codes "launch:" ++ text) - 7 ≡ length text
shorter text = grind (arith, common_steps)

made : (g : Game) (text : List ℕ) → dumped_flight g (codes "launch:" ++ text) ≡ least_below (flight_cut g text) (length text)
unfolding dumped_flight
made g text =
    ap (λ b. if b then least_below (flight_cut g (drop 7 (codes "launch:" ++ text))) (length (codes "launch:" ++ text) - 7) else None) (begins text)
    ∙ ap (λ (t : List ℕ). least_below (flight_cut g t) (length (codes "launch:" ++ text) - 7)) (drop_front (codes "launch:") text)
    ∙ ap (least_below (flight_cut g text)) (shorter text)

pub dumped_some : (g : Game) (name text : List ℕ) → name ≡ codes "launch:" ++ text → least_below (flight_cut g text) (length text) ≡ dumped_flight g name
dumped_some g name text is = sym (ap (dumped_flight g) is ∙ made g text)

pub dumped_none : (g : Game) (name : List ℕ) → false ≡ starts_with eqb name (codes "launch:") → None ≡ dumped_flight g name
unfolding dumped_flight begins_as_launch
dumped_none g name told = ap (λ b. if b then least_below (flight_cut g (drop 7 name)) (length name - 7) else None) told

-- ---- a text, a colon and what stands behind
pub behind_front : (text front rest : List ℕ) (r : Option (Bor (List ℕ))) → text ≡ front ++ rest → MatchOption r ((t : List ℕ) → rest ≢ 58 ∷ t) (λ x. rest ≡ 58 ∷ x.now)
    → MatchOption r ((t : List ℕ) → text ≢ front ++ (58 ∷ t)) (λ x. text ≡ front ++ (58 ∷ x.now))
behind_front text front rest None is told = λ t same. told t (append_cancel_left front rest (58 ∷ t) (sym is ∙ same))
behind_front text front rest (Some x) is told = is ∙ ap (λ t. front ++ t) told

-- ---- cargo that begins with a middle and a colon
module _ (g : Game) (cargo : GoodId) (middle : List ℕ) where
  abbrev cargo_name : List ℕ
  cargo_name = name_at g.item_names cargo.0

  abbrev of_rest : Option GoodId → Option Ends
  of_rest found = option_and_then (λ rest. Some (record { whole = cargo; rest = rest })) found

  pub ends_rest : (rest : List ℕ) (found : Option GoodId) → cargo_name ≡ middle ++ (58 ∷ rest) → cargo_named g rest ≡ found → ends_with g middle cargo ≡ of_rest found
  unfolding ends_with
  ends_rest rest found cut other_is =
      let started : starts_with eqb cargo_name (middle ++ 58 ∷ []) ≡ true =
      (starts_is Decides-eqb cargo_name (middle ++ 58 ∷ []) (starts_with eqb cargo_name (middle ++ 58 ∷ [])) refl).1 rest (cut ∙ sym (append_assoc middle (58 ∷ []) rest)) in
      let left : drop (length middle + 1) cargo_name ≡ rest = ap (drop (length middle + 1)) cut ∙ drop_cut middle rest in
      ap (λ b. if b then of_rest (cargo_named g (drop (length middle + 1) cargo_name)) else None) started
      ∙ ap (λ t. of_rest (cargo_named g t)) left ∙ ap of_rest other_is

  longer : (middle : List ℕ) → length (middle ++ 58 ∷ []) ≡ length middle + 1
  longer middle = grind (arith, common_steps)

  pub with_start : starts_with eqb cargo_name (middle ++ 58 ∷ []) ≡ true → cargo_name ≡ middle ++ (58 ∷ drop (length middle + 1) cargo_name)
  with_start told =
      (starts_is Decides-eqb cargo_name (middle ++ 58 ∷ []) true (sym told)).0 refl
      ∙ append_assoc middle (58 ∷ []) (drop (length (middle ++ 58 ∷ [])) cargo_name)
      ∙ ap (λ n. middle ++ (58 ∷ drop n cargo_name)) (longer middle)

  pub ends_past : ((rest : List ℕ) → cargo_name ≢ middle ++ (58 ∷ rest)) → ends_with g middle cargo ≡ None
  unfolding ends_with
  ends_past never = by_start (starts_with eqb cargo_name (middle ++ 58 ∷ [])) refl
    where
      by_start : (b : Bool) → starts_with eqb cargo_name (middle ++ 58 ∷ []) ≡ b → (if b then of_rest (cargo_named g (drop (length middle + 1) cargo_name)) else None) ≡ None
      by_start true told = absurd (never (drop (length middle + 1) cargo_name) (with_start told))
      by_start false told = refl

-- ---- two flights with one name
pub with_found : (g : Game) (short long : Silo) (cargo : GoodId) (middle : List ℕ) (other : GoodId) (rest : List ℕ) → name_at g.item_names cargo.0 ≡ middle ++ (58 ∷ rest) → cargo_named g rest ≡ Some other
    → clash_with g short long middle cargo ≡ Some (later_of (flight short cargo) (flight long other))
unfolding clash_with
with_found g short long cargo middle other rest cut other_is = ap (option_and_then (later_with short long)) (ends_rest g cargo middle rest (Some other) cut other_is)
