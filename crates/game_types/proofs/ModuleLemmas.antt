-- Modules of a game, and how their hundredths add up.
use Rattle.std.specs.Prelude.{◌≡◌, ℕ, ◌+◌, ◌-◌, ◌*◌, ◌<◌, ◌≤◌, List, true, false, Option, Some, None, length, IsSome, IsSomeAnd, IfSome, slice_get, ℤ, pos, ◌+ℤ◌, ◌*ℤ◌, unsigned_abs, Ok, Err, nat_lt}
use Rattle.std.proofs.Common.{refl, sym, ap, subst, ◌∙◌, arith, drop, get_or}
use Rattle.std.proofs.lemmas.Bool.Decides.{nat_tests}
use Rattle.std.proofs.lemmas.Int.{ints, unsigned_abs-mul}
use Rattle.std.proofs.lemmas.List.Elements.{All-get_or}
use Rattle.std.proofs.lemmas.Option.{get_or_from_slice_get, slice_get_within}
use Rattle.std.proofs.Math.Nat.{mul-le-mul_right}
use Rattle.std.proofs.lemmas.List.{drop_more}
use Rattle.plan_base.specs.declared.ids.GoodId.{GoodId}
use Rattle.plan_base.proofs.Walks.{drop_all}
use Rattle.game_types.specs.declared.effects.EffectKind.{EffectKind}
use Rattle.game_types.specs.declared.goods.Item.{Item}
use Rattle.game_types.specs.declared.goods.Module.{Module}
use Rattle.game_types.specs.declared.refusals.ModuleFault.TheVariants.{TooMany}
use Rattle.game_types.specs.declared.games.Game.{Game}
use Rattle.game_types.specs.Sound.{IsSound, IsSoundItem, IsSoundModule, IsModule}
use Rattle.game_types.specs.Lookups.{item_at, module_at, or_no_module, no_item}
use Rattle.game_types.specs.Modules.{module_count, hundredths_of, slots_hold, of_kind}

-- ---- a module that is there
held : (xs : List Item) (i : ℕ) (d : Item) (o : Option Item) → slice_get xs i ≡ o → IsSomeAnd o (λ item. IsSome item.«module») → (i < length xs) × IsSome (get_or xs i d).«module»
held xs i d (Some x) e h = (slice_get_within xs i x e, subst (λ (z : Item). IsSome z.«module») (sym (get_or_from_slice_get xs i x d e)) h)
held xs i d None e h = absurd h

pub module_there : (g : Game) (good : GoodId) → IsModule g good → (good.0 < length g.items) × IsSome (item_at g good).«module»
unfolding item_at
module_there g good h = held g.items good.0 no_item (slice_get g.items good.0) refl h

sound_there : (g : Game) (o : Option Module) → IsSome o → IfSome o (IsSoundModule g) → IsSoundModule g (or_no_module o)
sound_there g (Some m) h s = s
sound_there g None h s = absurd (let k : false ≡ true = h in cc)

pub module_sound : (g : Game) (good : GoodId) → IsSound g → IsModule g good → IsSoundModule g (module_at g good)
unfolding module_at item_at
module_sound g good s h =
    let there : (good.0 < length g.items) × IsSome (item_at g good).«module» = module_there g good h in
    let item : IsSoundItem g (item_at g good) = All-get_or (IsSoundItem g) g.items good.0 no_item there.0 s.items in
    sound_there g (item_at g good).«module» there.1 item.module_

pub module_is : (o : Option Module) (m : Module) → o ≡ Some m → m ≡ or_no_module o
module_is o m e = sym (ap or_no_module e)

-- ---- slots
pub slots_pass : (left : ℕ) (ms : List (GoodId × ℕ)) (k : ℕ) (d : GoodId × ℕ) → k < length ms → (get_or ms k d).1 ≤ left
    → slots_hold left (drop k ms) ≡ slots_hold (left - (get_or ms k d).1) (drop (k + 1) ms)
unfolding slots_hold
slots_pass left ms k d within fits = rw (drop_more ms k d within) (let e : nat_lt left (get_or ms k d).1 ≡ false = grind (arith, nat_tests) in rw e refl)

pub slots_end : (left : ℕ) (ms : List (GoodId × ℕ)) (k : ℕ) (d : GoodId × ℕ) → k < length ms → left < (get_or ms k d).1
    → slots_hold left (drop k ms) ≡ Err (TooMany (get_or ms k d).0)
unfolding slots_hold
slots_end left ms k d within over = rw (drop_more ms k d within) (let e : nat_lt left (get_or ms k d).1 ≡ true = grind (arith, nat_tests) in rw e refl)

pub slots_all : (left : ℕ) (ms : List (GoodId × ℕ)) (k : ℕ) → length ms ≤ k → slots_hold left (drop k ms) ≡ Ok tt
unfolding slots_hold
slots_all left ms k end = rw (drop_all ms k end) refl

pub count_next : (ms : List (GoodId × ℕ)) (k : ℕ) (d : GoodId × ℕ) → k < length ms → module_count (drop k ms) ≡ (get_or ms k d).1 + module_count (drop (k + 1) ms)
unfolding module_count
count_next ms k d within = rw (drop_more ms k d within) refl

pub count_all : (ms : List (GoodId × ℕ)) (k : ℕ) → length ms ≤ k → module_count (drop k ms) ≡ 0
unfolding module_count
count_all ms k end = rw (drop_all ms k end) refl

-- ---- hundredths
pub hundredths_next : (g : Game) (kind : EffectKind) (ms : List (GoodId × ℕ)) (k : ℕ) (d : GoodId × ℕ) → k < length ms
    → hundredths_of g kind (drop k ms) ≡ (of_kind kind (module_at g (get_or ms k d).0).bonus *ℤ pos (get_or ms k d).1) +ℤ hundredths_of g kind (drop (k + 1) ms)
unfolding hundredths_of
hundredths_next g kind ms k d within = rw (drop_more ms k d within) refl

pub hundredths_all : (g : Game) (kind : EffectKind) (ms : List (GoodId × ℕ)) (k : ℕ) → length ms ≤ k → hundredths_of g kind (drop k ms) ≡ pos 0
unfolding hundredths_of
hundredths_all g kind ms k end = rw (drop_all ms k end) refl

pub product_bound : (sum hundredths : ℤ) (count : ℕ) → unsigned_abs hundredths ≤ 100_000_000
    → unsigned_abs (sum +ℤ (hundredths *ℤ pos count)) ≤ unsigned_abs sum + 100_000_000 * count
product_bound sum hundredths count h =
    let p : unsigned_abs (hundredths *ℤ pos count) ≡ unsigned_abs hundredths * count = unsigned_abs-mul hundredths (pos count) in
    let q : unsigned_abs hundredths * count ≤ 100_000_000 * count = mul-le-mul_right count h in
    plain sum (hundredths *ℤ pos count) (unsigned_abs hundredths * count) (100_000_000 * count) p q
  where
    plain : (a b : ℤ) (m n : ℕ) → unsigned_abs b ≡ m → m ≤ n → unsigned_abs (a +ℤ b) ≤ unsigned_abs a + n
    plain a b m n p q = omega (arith, ints)

-- one module more: the sum, and the room that is left for what remains
pub total_step : (g : Game) (kind : EffectKind) (ms : List (GoodId × ℕ)) (k : ℕ) (d : GoodId × ℕ) (s s' b h : ℤ) → k < length ms
    → s' ≡ s +ℤ (b *ℤ pos (get_or ms k d).1) → b ≡ of_kind kind (module_at g (get_or ms k d).0).bonus
    → s +ℤ hundredths_of g kind (drop k ms) ≡ h → s' +ℤ hundredths_of g kind (drop (k + 1) ms) ≡ h
total_step g kind ms k d s s' b h within sum value before =
    let e : hundredths_of g kind (drop k ms) ≡ (b *ℤ pos (get_or ms k d).1) +ℤ hundredths_of g kind (drop (k + 1) ms)
    = hundredths_next g kind ms k d within ∙ ap (λ (z : ℤ). (z *ℤ pos (get_or ms k d).1) +ℤ hundredths_of g kind (drop (k + 1) ms)) (sym value) in
    plain s s' (b *ℤ pos (get_or ms k d).1) (hundredths_of g kind (drop (k + 1) ms)) (hundredths_of g kind (drop k ms)) h sum e before
  where
    plain : (s s' p r q h : ℤ) → s' ≡ s +ℤ p → q ≡ p +ℤ r → s +ℤ q ≡ h → s' +ℤ r ≡ h
    plain s s' p r q h e f b = omega (arith, ints)

pub room_step : (ms : List (GoodId × ℕ)) (k : ℕ) (d : GoodId × ℕ) (s s' b : ℤ) (n : ℕ) → k < length ms
    → s' ≡ s +ℤ (b *ℤ pos (get_or ms k d).1) → unsigned_abs b ≤ 100_000_000
    → unsigned_abs s + 100_000_000 * module_count (drop k ms) ≤ n → unsigned_abs s' + 100_000_000 * module_count (drop (k + 1) ms) ≤ n
room_step ms k d s s' b n within sum small before =
    let p : unsigned_abs (s +ℤ (b *ℤ pos (get_or ms k d).1)) ≤ unsigned_abs s + 100_000_000 * (get_or ms k d).1 = product_bound s b (get_or ms k d).1 small in
    let q : unsigned_abs s' ≤ unsigned_abs s + 100_000_000 * (get_or ms k d).1 = subst (λ (z : ℤ). unsigned_abs z ≤ unsigned_abs s + 100_000_000 * (get_or ms k d).1) (sym sum) p in
    omega (arith, count_next ms k d within)
