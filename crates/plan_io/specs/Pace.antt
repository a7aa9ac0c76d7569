-- How a store or a sink in memory answers its calls: which of them fail, and how many bytes one takes.
use Rattle.std.specs.Prelude.{◌≡◌, ℕ, ◌+◌, ◌-◌, ◌^◌, ◌==◌, min, Bool, List, Option, Some, None, IfSome, Result, Ok, Err, IfOk}
use Rattle.std.specs.Result.{is_err}
use Rattle.std.specs.List.{list_any}

-- its calls are numbered from 1 in one sequence
pub record Pace : Type 0 where
  -- the numbers of the calls that fail
  pub fails : List ℕ
  -- how many calls there were, a count that stays at 2^64-1
  pub calls : ℕ
  -- the most bytes that one call takes, where there is such a bound
  pub most : Option ℕ

-- before the first call
abbrev pub fresh : List ℕ → Option ℕ → Pace
fresh fails most = record { fails = fails; calls = 0; most = most }

-- after one more call
abbrev pub next : Pace → Pace
next pace = record pace { calls = min (pace.calls + 1) (2 ^ 64 - 1) }

-- whether a number is on a list
abbrev pub is_on : List ℕ → ℕ → Bool
is_on numbers call = list_any (λ number. number == call) numbers

-- whether the next call is one of those that fail
abbrev pub fails_next : Pace → Bool
fails_next pace = is_on pace.fails (next pace).calls

-- of so many bytes, those that one call takes
abbrev pub share : Option ℕ → ℕ → ℕ
share None bytes = bytes
share (Some most) bytes = min most bytes

-- the room that a call leaves
abbrev pub room_after : {E : Type 0} → Result ℕ E → ℕ → ℕ
room_after (Ok taken) room = room - taken
room_after (Err fault) room = room

-- a call fails exactly where the test holds, in a store or a sink that tells its pace
abbrev pub FailsBy : {T E : Type 0} → Option Pace → Result T E → (Pace → Bool) → Type 0
FailsBy pace result test = IfSome pace (λ pace. is_err result ≡ test pace)

-- a call that doesn't fail takes its share of so many bytes, in a store or a sink that tells its pace
abbrev pub TakesShare : {E : Type 0} → Option Pace → Result ℕ E → ℕ → Type 0
TakesShare pace result bytes = IfSome pace (λ pace. IfOk result (λ count. count ≡ share pace.most bytes))
