-- The labs of a technology: those that are in the lists of all its ingredients.
use Rattle.std.proofs.Common.{◌≡◌, ◌∙◌, ◌<◌, ◌+◌, ℕ, Bool, true, false, List, [], ◌∷◌, Vec, length, map, refl, ap, sym, subst, arith}
use Rattle.std.specs.Prelude.{◌==◌, ◌||◌, ◌&&◌, if◌then◌else◌, All, Option, Some, None}
use Rattle.std.specs.Global.{Global}
use Rattle.std.specs.List.{list_all}
use Rattle.std.proofs.lemmas.List.Elements.{All-head, All-tail}
use Rattle.std.proofs.lemmas.List.Folds.{list_all-map}
use Rattle.fractions.specs.Fraction.{Fraction}
use Rattle.plan_base.specs.declared.ids.GoodId.{GoodId}
use Rattle.plan_base.specs.declared.ids.NodeId.{NodeId}
use Rattle.game_types.specs.declared.machinery.Machine.{Machine}
use Rattle.game_types.specs.declared.machinery.MachineKind.{MachineKind}
use Rattle.game_types.specs.declared.machinery.MachineKind.TheVariants.{Crafter, Drill, Pump, Boiler, Generator, BurnerGenerator, Solar, Reactor, Lab, Beacon}
use Rattle.graph_store.specs.Members.{node, those}
use Rattle.depend_index.specs.Machines.{names_good}
use Rattle.depend_rows.specs.Machines.{researches}
use Rattle.depend_index.specs.Kinds.{takes}
use Rattle.graph_store.specs.Lists.{has_node, is_in_all, list_at, AreCommon, AreLists, Rise}
use Rattle.graph_store.proofs.NumbersLemmas.{Rising, rising_above}
use Rattle.graph_store.proofs.OrderLemmas.{in_order_those, numbers_of, those_rise, those_rising}

-- ---- the numbers of those that pass a test
-- the thing of a number
thing_at : {A : Type 0} → List A → ℕ → ℕ → Option A
thing_at [] first k = None
thing_at (x ∷ xs) first k = if first == k then Some x else thing_at xs (first + 1) k

passes : {A : Type 0} → (A → Bool) → Option A → Bool
passes test None = false
passes test (Some x) = test x

here_or_later : {A : Type 0} (test : A → Bool) (first k : ℕ) (x : A) (later : List NodeId) (o : Option A) → Rising (first + 1) (numbers_of later) → has_node later k ≡ passes test o
    → (b : Bool) → test x ≡ b → (same : Bool) → (first == k) ≡ same → has_node (if b then node first ∷ later else later) k ≡ passes test (if same then Some x else o)
unfolding passes
here_or_later test first k x later o rise more true is true at = ap (λ b. b || has_node later k) at ∙ sym is
here_or_later test first k x later o rise more true is false at = ap (λ b. b || has_node later k) at ∙ more
here_or_later test first k x later o rise more false is true at =
    let below : k < first + 1 = grind (arith, at) in
    rising_above (first + 1) k (numbers_of later) rise below ∙ sym is
here_or_later test first k x later o rise more false is false at = more

has_those : {A : Type 0} (test : A → Bool) (k : ℕ) → (xs : List A) (first : ℕ) → has_node (those test first xs) k ≡ passes test (thing_at xs first k)
unfolding passes thing_at
has_those test k [] first = refl
has_those test k (x ∷ xs) first =
    here_or_later test first k x (those test (first + 1) xs) (thing_at xs (first + 1) k) (those_rise test xs (first + 1)) (has_those test k xs (first + 1)) (test x) refl (first == k) refl

-- ---- labs by what they take
none_of_some : (goods : List ℕ) → 0 < length goods → list_all (λ _. false) goods ≡ false
none_of_some [] some = absurd (omega (arith, some))
none_of_some (good ∷ goods) some = refl

-- a machine that takes all of some goods
takes_all : (parts : List (GoodId × Fraction)) → 0 < length (map (λ (part : GoodId × Fraction). part.0.0) parts) → (kind : MachineKind) → list_all (takes kind) (map (λ part. part.0.0) parts) ≡ researches kind parts
takes_all parts some (Lab inputs speed) = list_all-map (names_good inputs) (λ part. part.0.0) parts
takes_all parts some (Crafter speed categories fixed) = none_of_some (map (λ part. part.0.0) parts) some
takes_all parts some (Drill speed categories fluid_box) = none_of_some (map (λ part. part.0.0) parts) some
takes_all parts some (Pump fluid speed) = none_of_some (map (λ part. part.0.0) parts) some
takes_all parts some (Boiler input output temperature) = none_of_some (map (λ part. part.0.0) parts) some
takes_all parts some (Generator input effectivity per_tick max_temperature burns output) = none_of_some (map (λ part. part.0.0) parts) some
takes_all parts some (BurnerGenerator output) = none_of_some (map (λ part. part.0.0) parts) some
takes_all parts some (Solar production) = none_of_some (map (λ part. part.0.0) parts) some
takes_all parts some Reactor = none_of_some (map (λ part. part.0.0) parts) some
takes_all parts some (Beacon effectivity) = none_of_some (map (λ part. part.0.0) parts) some

all_take : (parts : List (GoodId × Fraction)) → 0 < length (map (λ (part : GoodId × Fraction). part.0.0) parts) → (o : Option Machine)
    → list_all (λ good. passes (λ machine. takes machine.kind good) o) (map (λ part. part.0.0) parts) ≡ passes (λ machine. researches machine.kind parts) o
unfolding passes
all_take parts some None = none_of_some (map (λ part. part.0.0) parts) some
all_take parts some (Some machine) = takes_all parts some machine.kind

in_lists : (lists : List (Vec NodeId Global)) (first count k : ℕ) (machines : List Machine) → AreLists (λ good. those (λ machine. takes machine.kind good) first machines) count lists → (goods : List ℕ) → All (λ good. good < count) goods
    → is_in_all lists goods k ≡ list_all (λ good. passes (λ machine. takes machine.kind good) (thing_at machines first k)) goods
in_lists lists first count k machines are [] below = refl
in_lists lists first count k machines are (good ∷ goods) below =
    ap (λ l. has_node l k && is_in_all lists goods k) (are.each good (All-head (λ g. g < count) good goods below))
    ∙ ap (λ b. b && is_in_all lists goods k) (has_those (λ (machine : Machine). takes machine.kind good) k machines first)
    ∙ ap (λ b. passes (λ (machine : Machine). takes machine.kind good) (thing_at machines first k) && b) (in_lists lists first count k machines are goods (All-tail (λ g. g < count) good goods below))

-- lists of those rise
pub lists_rise : (lists : List (Vec NodeId Global)) (first count : ℕ) (machines : List Machine) → AreLists (λ good. those (λ machine. takes machine.kind good) first machines) count lists → (k : ℕ) → k < length lists → Rise (list_at lists k)
lists_rise lists first count machines are k within =
    subst Rise (sym (are.each k (subst (λ n. k < n) are.as_long within))) (those_rising (λ (machine : Machine). takes machine.kind k) machines first)

pub common_labs : (lists : List (Vec NodeId Global)) (first count : ℕ) (machines : List Machine) (parts : List (GoodId × Fraction)) (goods : List ℕ) (nodes : List NodeId)
    → AreLists (λ good. those (λ machine. takes machine.kind good) first machines) count lists → goods ≡ map (λ part. part.0.0) parts → 0 < length goods → All (λ good. good < count) goods → AreCommon lists goods nodes
    → nodes ≡ those (λ machine. researches machine.kind parts) first machines
common_labs lists first count machines parts goods nodes are is some below common =
    in_order_those (λ (machine : Machine). researches machine.kind parts) first machines (numbers_of nodes) nodes (record { rise = common.rise; same = λ k. refl }) (λ k.
    common.same k ∙ in_lists lists first count k machines are goods below
    ∙ ap (list_all (λ good. passes (λ (machine : Machine). takes machine.kind good) (thing_at machines first k))) is
    ∙ all_take parts (subst (λ l. 0 < length l) is some) (thing_at machines first k)
    ∙ sym (has_those (λ (machine : Machine). researches machine.kind parts) k machines first))
