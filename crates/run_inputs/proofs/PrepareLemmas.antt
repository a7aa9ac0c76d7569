-- How a run ends whose dump or script can't be had, and which files it begins.
use Rattle.std.proofs.Common.{◌≡◌, ◌≤◌, ◌+◌, ◌++◌, ◌∷◌, ◌∙◌, [], inl, inr, ℕ, List, Vec, ap, append_assoc, arith, sym, subst}
use Rattle.std.specs.Prelude.{Option, Some, IsErr, IsErrAnd, MatchResult, Result, Ok, Err}
use Rattle.std.specs.Global.{Global}
use Rattle.plan_io.specs.Store.{Shelf, Begun, named_in}
use Rattle.game_types.specs.declared.games.Game.{Game}
use Rattle.planner_core.specs.Lines.{Planned, first_planned}
use Rattle.run_inputs.specs.declared.prepare.Ready.{Ready}
use Rattle.run_inputs.specs.declared.status.Status.{Status}
use Rattle.run_inputs.specs.declared.status.Status.TheVariants.{Done, SomeRefused, BadWords, BadDump, ReadFault, WriteFault, NoMemory, TooLong, BadCert}
use Rattle.run_inputs.specs.declared.status.Long.TheVariants.{DumpBytes, ScriptBytes, ScriptLines, CertBytes}
use Rattle.run_inputs.specs.Base.{HasBase, load_work}
use Rattle.run_inputs.specs.Begun.{BeginsFiles, BeginsOne, CallsUnder, status_so_far}
use Rattle.run_inputs.specs.Early.{EndsEarly, EndsLoading, EndsReading}
use Rattle.run_inputs.specs.Ready.{IsReady}
use Rattle.run_inputs.specs.Inputs.{IsBase, IsInput}
use Rattle.run_inputs.specs.Words.{FileNames, Files, Run}

-- ---- a result that is this fault
pub so_far : {T : Type 0} (r : Result T Status) (early : Status) → IsErr r × IsErrAnd r (λ e. e ≡ early) → status_so_far r ≡ early
so_far (Ok x) early h = absurd h.1
so_far (Err e) early h = h.1

pub ends_by : {T : Type 0} (Q : T → Type 0) (P : Status → Type 0) (r : Result T Status) (early : Status) → IsErr r × IsErrAnd r (λ e. e ≡ early) → P early → MatchResult r Q P
ends_by Q P (Ok x) early h p = absurd h.1
ends_by Q P (Err e) early h p = subst P (sym h.1) p

-- ---- the dump can't be read
pub dump_early : (shelf : Shelf) (names : FileNames) (early : Status) (work : ℕ) → work ≡ 0 → EndsReading shelf names.dump 268_435_456 DumpBytes early → EndsEarly shelf (Some (Files Run names)) early work
dump_early shelf names (TooLong DumpBytes) work none (is, long) = (long, none)
dump_early shelf names (TooLong ScriptBytes) work none (is, long) = let never : ⊥ = cc (is) in absurd never
dump_early shelf names (TooLong ScriptLines) work none (is, long) = let never : ⊥ = cc (is) in absurd never
dump_early shelf names (TooLong CertBytes) work none (is, long) = let never : ⊥ = cc (is) in absurd never
dump_early shelf names ReadFault work none ends = inl none
dump_early shelf names NoMemory work none ends = tt
dump_early shelf names Done work none ends = absurd ends
dump_early shelf names SomeRefused work none ends = absurd ends
dump_early shelf names BadWords work none ends = absurd ends
dump_early shelf names (BadDump fault) work none ends = absurd ends
dump_early shelf names WriteFault work none ends = absurd ends
dump_early shelf names (BadCert fault) work none ends = absurd ends

dump_calls : (shelf : Shelf) (names : FileNames) (early : Status) (old new : ℕ) → EndsReading shelf names.dump 268_435_456 DumpBytes early → new ≡ old + 1 → CallsUnder 2 early old new
dump_calls shelf names (TooLong DumpBytes) old new ends one = one
dump_calls shelf names (TooLong ScriptBytes) old new (is, long) one = let never : ⊥ = cc (is) in absurd never
dump_calls shelf names (TooLong ScriptLines) old new (is, long) one = let never : ⊥ = cc (is) in absurd never
dump_calls shelf names (TooLong CertBytes) old new (is, long) one = let never : ⊥ = cc (is) in absurd never
dump_calls shelf names ReadFault old new ends one = omega (arith, one)
dump_calls shelf names NoMemory old new ends one = omega (arith, one)
dump_calls shelf names Done old new ends one = absurd ends
dump_calls shelf names SomeRefused old new ends one = absurd ends
dump_calls shelf names BadWords old new ends one = absurd ends
dump_calls shelf names (BadDump fault) old new ends one = absurd ends
dump_calls shelf names WriteFault old new ends one = absurd ends
dump_calls shelf names (BadCert fault) old new ends one = absurd ends

-- one file was begun, and no second
begins_one : (shelf : Shelf) (names : FileNames) (old new : Begun) (status : Status) → CallsUnder 2 status old.calls new.calls → BeginsOne shelf names.dump old new → BeginsFiles shelf (Some (Files Run names)) old new status
begins_one shelf names old new status calls one = record {
  calls = calls;
  first = record { count = 1; calls = one.calls; names_are = one.names };
  slots = one.slots;
  behind = λ more. absurd (omega (arith, one.calls, more));
  third = λ more. absurd (omega (arith, one.calls, more));
  named = λ dump script none. one.named dump;
}

pub dump_begins : {T : Type 0} (shelf : Shelf) (names : FileNames) (old new : Begun) (r : Result T Status) (early : Status) → IsErr r × IsErrAnd r (λ e. e ≡ early) → EndsReading shelf names.dump 268_435_456 DumpBytes early
    → BeginsOne shelf names.dump old new → BeginsFiles shelf (Some (Files Run names)) old new (status_so_far r)
dump_begins shelf names old new r early err ends one =
    subst (λ (s : Status). BeginsFiles shelf (Some (Files Run names)) old new s) (sym (so_far r early err)) (begins_one shelf names old new early (dump_calls shelf names early old.calls new.calls ends one.calls) one)

-- ---- the dump has no base
pub base_early : (shelf : Shelf) (names : FileNames) (dump : List ℕ) (early : Status) (work : ℕ) → IsInput shelf names.dump 268_435_456 dump → EndsLoading dump early work → EndsEarly shelf (Some (Files Run names)) early work
base_early shelf names dump (BadDump fault) work given ends = record { dump = dump; given = given; fault_is = ends.0; no_memory = ends.1 }
base_early shelf names dump NoMemory work given ends = tt
base_early shelf names dump Done work given ends = absurd ends
base_early shelf names dump SomeRefused work given ends = absurd ends
base_early shelf names dump BadWords work given ends = absurd ends
base_early shelf names dump ReadFault work given ends = absurd ends
base_early shelf names dump WriteFault work given ends = absurd ends
base_early shelf names dump (TooLong long) work given ends = absurd ends
base_early shelf names dump (BadCert fault) work given ends = absurd ends

base_calls : (dump : List ℕ) (early : Status) (work old new : ℕ) → EndsLoading dump early work → new ≡ old + 1 → CallsUnder 2 early old new
base_calls dump (BadDump fault) work old new ends one = one
base_calls dump NoMemory work old new ends one = omega (arith, one)
base_calls dump Done work old new ends one = absurd ends
base_calls dump SomeRefused work old new ends one = absurd ends
base_calls dump BadWords work old new ends one = absurd ends
base_calls dump ReadFault work old new ends one = absurd ends
base_calls dump WriteFault work old new ends one = absurd ends
base_calls dump (TooLong long) work old new ends one = absurd ends
base_calls dump (BadCert fault) work old new ends one = absurd ends

pub base_begins : {T : Type 0} (shelf : Shelf) (names : FileNames) (dump : List ℕ) (work : ℕ) (old new : Begun) (r : Result T Status) (early : Status) → IsErr r × IsErrAnd r (λ e. e ≡ early) → EndsLoading dump early work
    → BeginsOne shelf names.dump old new → BeginsFiles shelf (Some (Files Run names)) old new (status_so_far r)
base_begins shelf names dump work old new r early err ends one =
    subst (λ (s : Status). BeginsFiles shelf (Some (Files Run names)) old new s) (sym (so_far r early err)) (begins_one shelf names old new early (base_calls dump early work old.calls new.calls ends one.calls) one)

-- ---- the dump has a base, and the script is read behind it
pub based : (shelf : Shelf) (names : FileNames) (dump : List ℕ) (game : Game) → IsInput shelf names.dump 268_435_456 dump → HasBase dump game → IsBase shelf (Some (Files Run names)) game
based shelf names dump game given has = record { dump = dump; given = given; has = has }

script_early : (shelf : Shelf) (names : FileNames) (game : Game) (early : Status) (work : ℕ) → IsBase shelf (Some (Files Run names)) game → work ≤ load_work game → EndsReading shelf names.script 16_777_216 ScriptBytes early
    → EndsEarly shelf (Some (Files Run names)) early work
script_early shelf names game (TooLong ScriptBytes) work base takes (is, long) = record { game = game; base = base; long = long; takes = takes }
script_early shelf names game (TooLong DumpBytes) work base takes (is, long) = let never : ⊥ = cc (is) in absurd never
script_early shelf names game (TooLong ScriptLines) work base takes (is, long) = let never : ⊥ = cc (is) in absurd never
script_early shelf names game (TooLong CertBytes) work base takes (is, long) = let never : ⊥ = cc (is) in absurd never
script_early shelf names game ReadFault work base takes ends = inr (game, base, takes)
script_early shelf names game NoMemory work base takes ends = tt
script_early shelf names game Done work base takes ends = absurd ends
script_early shelf names game SomeRefused work base takes ends = absurd ends
script_early shelf names game BadWords work base takes ends = absurd ends
script_early shelf names game (BadDump fault) work base takes ends = absurd ends
script_early shelf names game WriteFault work base takes ends = absurd ends
script_early shelf names game (BadCert fault) work base takes ends = absurd ends

script_calls : (shelf : Shelf) (names : FileNames) (early : Status) (old new : ℕ) → EndsReading shelf names.script 16_777_216 ScriptBytes early → new ≡ old + 2 → CallsUnder 2 early old new
script_calls shelf names (TooLong ScriptBytes) old new ends two = two
script_calls shelf names (TooLong DumpBytes) old new (is, long) two = let never : ⊥ = cc (is) in absurd never
script_calls shelf names (TooLong ScriptLines) old new (is, long) two = let never : ⊥ = cc (is) in absurd never
script_calls shelf names (TooLong CertBytes) old new (is, long) two = let never : ⊥ = cc (is) in absurd never
script_calls shelf names ReadFault old new ends two = omega (arith, two)
script_calls shelf names NoMemory old new ends two = omega (arith, two)
script_calls shelf names Done old new ends two = absurd ends
script_calls shelf names SomeRefused old new ends two = absurd ends
script_calls shelf names BadWords old new ends two = absurd ends
script_calls shelf names (BadDump fault) old new ends two = absurd ends
script_calls shelf names WriteFault old new ends two = absurd ends
script_calls shelf names (BadCert fault) old new ends two = absurd ends

-- the store tells what it told before
pub script_read : (before now : Shelf) (name : List ℕ) (s : Result (Vec ℕ Global) Status) → now ≡ before → MatchResult s (λ bytes. IsInput now name 16_777_216 bytes.items) (EndsReading now name 16_777_216 ScriptBytes)
    → MatchResult s (λ bytes. IsInput before name 16_777_216 bytes.items) (EndsReading before name 16_777_216 ScriptBytes)
script_read before now name s same read = subst (λ (shelf : Shelf). MatchResult s (λ bytes. IsInput shelf name 16_777_216 bytes.items) (EndsReading shelf name 16_777_216 ScriptBytes)) same read

pub script_begun : (before now : Shelf) (name : List ℕ) (old new : Begun) → now ≡ before → BeginsOne now name old new → BeginsOne before name old new
script_begun before now name old new same begins = subst (λ (shelf : Shelf). BeginsOne shelf name old new) same begins

-- the planner of the game with the script, or the fault of reading that
pub script_ready : (shelf : Shelf) (names : FileNames) (game : Game) (planner : Planned) (work : ℕ) (s : Result (Vec ℕ Global) Status) (r : Result Ready Status) → IsBase shelf (Some (Files Run names)) game → planner ≡ first_planned game → work ≤ load_work game
    → MatchResult s (λ bytes. IsInput shelf names.script 16_777_216 bytes.items) (EndsReading shelf names.script 16_777_216 ScriptBytes)
    → MatchResult s (λ bytes. r ≡ Ok (record { planner = planner; script = bytes })) (λ early. r ≡ Err early)
    → MatchResult r (λ ready. IsReady shelf (Some (Files Run names)) ready.planner ready.script.items work) (λ early. EndsEarly shelf (Some (Files Run names)) early work)
script_ready shelf names game planner work (Ok bytes) r base first takes read is = rw is (record { game = game; base = base; first_is = first; script_is = read; takes = takes })
script_ready shelf names game planner work (Err early) r base first takes read is = rw is (script_early shelf names game early work base takes read)

script_status : (shelf : Shelf) (names : FileNames) (planner : Planned) (old new : ℕ) (s : Result (Vec ℕ Global) Status) (r : Result Ready Status) → new ≡ old + 2
    → MatchResult s (λ bytes. IsInput shelf names.script 16_777_216 bytes.items) (EndsReading shelf names.script 16_777_216 ScriptBytes)
    → MatchResult s (λ bytes. r ≡ Ok (record { planner = planner; script = bytes })) (λ early. r ≡ Err early) → CallsUnder 2 (status_so_far r) old new
script_status shelf names planner old new (Ok bytes) r two read is = rw is two
script_status shelf names planner old new (Err early) r two read is = rw is (script_calls shelf names early old new read two)

both_names : (before mid after : List (Option (List ℕ))) (one two : Option (List ℕ)) → mid ≡ before ++ one ∷ [] → after ≡ mid ++ two ∷ [] → after ≡ before ++ one ∷ two ∷ []
both_names before mid after one two first second = second ∙ (ap (λ (l : List (Option (List ℕ))). l ++ two ∷ []) first ∙ append_assoc before (one ∷ []) (two ∷ []))

pub script_begins : (shelf : Shelf) (names : FileNames) (game : Game) (planner : Planned) (old mid new : Begun) (s : Result (Vec ℕ Global) Status) (r : Result Ready Status) → IsBase shelf (Some (Files Run names)) game
    → BeginsOne shelf names.dump old mid → BeginsOne shelf names.script mid new
    → MatchResult s (λ bytes. IsInput shelf names.script 16_777_216 bytes.items) (EndsReading shelf names.script 16_777_216 ScriptBytes)
    → MatchResult s (λ bytes. r ≡ Ok (record { planner = planner; script = bytes })) (λ early. r ≡ Err early) → BeginsFiles shelf (Some (Files Run names)) old new (status_so_far r)
script_begins shelf names game planner old mid new s r base one two read is =
    let both : new.calls ≡ old.calls + 2 = omega (arith, one.calls, two.calls) in
    record {
      calls = script_status shelf names planner old.calls new.calls s r both read is;
      first = record { count = 2; calls = both; names_are = both_names old.names mid.names new.names (named_in shelf names.dump) (named_in shelf names.script) one.names two.names };
      slots = omega (arith, one.slots, two.slots);
      behind = λ after. (game, base);
      third = λ after. absurd (omega (arith, both, after));
      named = λ dump script none. two.named script ∙ one.named dump;
    }
