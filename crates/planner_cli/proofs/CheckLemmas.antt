-- What a check leaves whose certificate gives no entries, and which files it begins.
use Rattle.std.proofs.Common.{◌≡◌, ◌≢◌, ◌≤◌, ◌+◌, ◌++◌, ◌∷◌, ◌∙◌, [], inr, ℕ, List, ap, append_assoc, arith, length, refl, subst, sym, take}
use Rattle.std.specs.Prelude.{Option, Some}
use Rattle.plan_io.specs.Store.{Shelf, Begun, named_in}
use Rattle.planner_core.specs.Lines.{Planned}
use Rattle.certificate_file.specs.declared.CertEntry.{CertEntry}
use Rattle.script_runner.specs.Checks.{EndsCheck}
use Rattle.plan_io.specs.Lines.{lines_of}
use Rattle.script_runner.specs.TrialLines.{TellsMany}
use Rattle.plan_io.specs.declared.ends.ScriptEnd.{ScriptEnd}
use Rattle.plan_io.specs.declared.ends.ScriptEnd.TheVariants as script
use Rattle.run_inputs.specs.declared.status.Status.{Status}
use Rattle.run_inputs.specs.declared.status.Status.TheVariants.{Done, SomeRefused, BadWords, BadDump, ReadFault, WriteFault, NoMemory, TooLong, BadCert}
use Rattle.run_inputs.specs.declared.status.Long.TheVariants.{DumpBytes, ScriptBytes, ScriptLines, CertBytes}
use Rattle.run_inputs.specs.Begun.{BeginsFiles, BeginsOne, CallsUnder, HasScript}
use Rattle.run_inputs.specs.Certs.{EndsReadingCert}
use Rattle.run_inputs.specs.Early.{EndsEarly, IsTold}
use Rattle.run_inputs.specs.Ready.{IsReady}
use Rattle.run_inputs.specs.Told.{status_of}
use Rattle.run_inputs.specs.Words.{FileNames, Files, Check, Run}
use Rattle.planner_cli.proofs.EndingLemmas.{base_for, begins_told, first_for}

-- the store tells what it told before
pub kept : (R P : Shelf → Type 0) (before now : Shelf) → now ≡ before → R before → (R now → P now) → P before
kept R P before now same r f = subst P same (f (subst R (sym same) r))

-- the run ends early
pub cert_early : (shelf : Shelf) (cert : List ℕ) (names : FileNames) (first : Planned) (bytes : List ℕ) (work : ℕ) (early : Status) → IsReady shelf (Some (Files Run names)) first bytes work → length (lines_of bytes) ≤ 100_000
    → EndsReadingCert shelf cert early → EndsEarly shelf (Some (Files (Check cert) names)) early work
cert_early shelf cert names first bytes work (BadCert fault) ready few ends =
    record { game = ready.game; base = base_for shelf (Check cert) names ready.game ready.base; script = bytes; script_is = ready.script_is; few = few; takes = ready.takes; ends = ends }
cert_early shelf cert names first bytes work (TooLong CertBytes) ready few ends =
    record { game = ready.game; base = base_for shelf (Check cert) names ready.game ready.base; script = bytes; script_is = ready.script_is; few = few; takes = ready.takes; ends = ends }
cert_early shelf cert names first bytes work (TooLong DumpBytes) ready few ends = absurd ends
cert_early shelf cert names first bytes work (TooLong ScriptBytes) ready few ends = absurd ends
cert_early shelf cert names first bytes work (TooLong ScriptLines) ready few ends = absurd ends
cert_early shelf cert names first bytes work ReadFault ready few ends = inr (ready.game, base_for shelf (Check cert) names ready.game ready.base, ready.takes)
cert_early shelf cert names first bytes work NoMemory ready few ends = tt
cert_early shelf cert names first bytes work Done ready few ends = absurd ends
cert_early shelf cert names first bytes work SomeRefused ready few ends = absurd ends
cert_early shelf cert names first bytes work BadWords ready few ends = absurd ends
cert_early shelf cert names first bytes work (BadDump fault) ready few ends = absurd ends
cert_early shelf cert names first bytes work WriteFault ready few ends = absurd ends

-- writing was not cut off before it began
pub cert_no_cut : (shelf : Shelf) (cert : List ℕ) (early : Status) → EndsReadingCert shelf cert early → early ≢ WriteFault
cert_no_cut shelf cert early ends is = subst (EndsReadingCert shelf cert) is ends

-- ---- the files that were begun
-- three calls: the third by one more
two_begun : (shelf : Shelf) (names : FileNames) (first mid : Begun) → BeginsFiles shelf (Some (Files Run names)) first mid Done → mid.names ≡ first.names ++ named_in shelf names.dump ∷ named_in shelf names.script ∷ []
two_begun shelf names first mid begins =
    let two : begins.first.count ≡ 2 = omega (arith, begins.calls, begins.first.calls) in
    subst (λ (n : ℕ). mid.names ≡ first.names ++ take n (named_in shelf names.dump ∷ named_in shelf names.script ∷ [])) two begins.first.names_are

three_names : (before mid after : List (Option (List ℕ))) (one two three : Option (List ℕ)) → mid ≡ before ++ one ∷ two ∷ [] → after ≡ mid ++ three ∷ [] → after ≡ before ++ one ∷ two ∷ three ∷ []
three_names before mid after one two three first second = second ∙ (ap (λ (l : List (Option (List ℕ))). l ++ three ∷ []) first ∙ append_assoc before (one ∷ two ∷ []) (three ∷ []))

grown : (shelf : Shelf) (cert : List ℕ) (names : FileNames) (first mid new : Begun) (status : Status) → HasScript shelf names.script → BeginsFiles shelf (Some (Files Run names)) first mid Done → BeginsOne shelf cert mid new
    → CallsUnder 3 status first.calls (first.calls + 3) → BeginsFiles shelf (Some (Files (Check cert) names)) first new status
grown shelf cert names first mid new status script begins one calls =
    let three : new.calls ≡ first.calls + 3 = omega (arith, one.calls, begins.calls) in
    record {
      calls = subst (CallsUnder 3 status first.calls) (sym three) calls;
      first = record {
        count = 3;
        calls = three;
        names_are = three_names first.names mid.names new.names (named_in shelf names.dump) (named_in shelf names.script) (named_in shelf cert) (two_begun shelf names first mid begins) one.names;
      };
      slots = omega (arith, begins.slots, one.slots);
      behind = λ after. let found = begins.behind (omega (arith, begins.calls)) in (found.0, base_for shelf (Check cert) names found.0 found.1);
      third = λ after. script;
      named = λ dump script given. one.named given ∙ begins.named dump script tt;
    }

early_calls : (shelf : Shelf) (cert : List ℕ) (early : Status) (old : ℕ) → EndsReadingCert shelf cert early → CallsUnder 3 early old (old + 3)
early_calls shelf cert (BadCert fault) old ends = refl
early_calls shelf cert (TooLong CertBytes) old ends = refl
early_calls shelf cert (TooLong DumpBytes) old ends = absurd ends
early_calls shelf cert (TooLong ScriptBytes) old ends = absurd ends
early_calls shelf cert (TooLong ScriptLines) old ends = absurd ends
early_calls shelf cert ReadFault old ends = omega arith
early_calls shelf cert NoMemory old ends = omega arith
early_calls shelf cert Done old ends = absurd ends
early_calls shelf cert SomeRefused old ends = absurd ends
early_calls shelf cert BadWords old ends = absurd ends
early_calls shelf cert (BadDump fault) old ends = absurd ends
early_calls shelf cert WriteFault old ends = absurd ends

pub cert_begins_early : (shelf : Shelf) (cert : List ℕ) (names : FileNames) (first mid new : Begun) (early status : Status) (text : List ℕ) → HasScript shelf names.script → BeginsFiles shelf (Some (Files Run names)) first mid Done → BeginsOne shelf cert mid new
    → EndsReadingCert shelf cert early → IsTold early status text → BeginsFiles shelf (Some (Files (Check cert) names)) first new status
cert_begins_early shelf cert names first mid new early status text script begins one ends told =
    begins_told shelf (Some (Files (Check cert) names)) first new early status text told (grown shelf cert names first mid new early script begins one (early_calls shelf cert early first.calls ends))

checked_calls : (entries : List CertEntry) (first : Planned) (bytes text : List ℕ) (work : ℕ) (end : ScriptEnd) (old : ℕ) → EndsCheck entries first bytes end text work → CallsUnder 3 (status_of end) old (old + 3)
unfolding EndsCheck
checked_calls entries first bytes text work script.Done old ends = refl
checked_calls entries first bytes text work script.SomeRefused old ends = refl
checked_calls entries first bytes text work script.TooManyLines old ends = absurd ends
checked_calls entries first bytes text work script.WriteFault old ends = omega arith
checked_calls entries first bytes text work script.NoMemory old ends = omega arith

pub cert_begins_checked : (shelf : Shelf) (cert : List ℕ) (names : FileNames) (first mid new : Begun) (entries : List CertEntry) (planner : Planned) (bytes text : List ℕ) (work : ℕ) (end : ScriptEnd)
    → HasScript shelf names.script → BeginsFiles shelf (Some (Files Run names)) first mid Done → BeginsOne shelf cert mid new → EndsCheck entries planner bytes end text work
    → BeginsFiles shelf (Some (Files (Check cert) names)) first new (status_of end)
cert_begins_checked shelf cert names first mid new entries planner bytes text work end script begins one ends =
    grown shelf cert names first mid new (status_of end) script begins one (checked_calls entries planner bytes text work end first.calls ends)

many_calls : (before after : Option (List ℕ)) (end : ScriptEnd) (old new : ℕ) → TellsMany before after end → new ≡ old + 2 → CallsUnder 3 (status_of end) old new
many_calls before after script.TooManyLines old new told two = two
many_calls before after script.WriteFault old new told two = omega (arith, two)
many_calls before after script.Done old new told two = absurd told
many_calls before after script.SomeRefused old new told two = absurd told
many_calls before after script.NoMemory old new told two = absurd told

pub cert_begins_many : (shelf : Shelf) (cert : List ℕ) (names : FileNames) (first mid : Begun) (before after : Option (List ℕ)) (end : ScriptEnd) → BeginsFiles shelf (Some (Files Run names)) first mid Done → TellsMany before after end
    → BeginsFiles shelf (Some (Files (Check cert) names)) first mid (status_of end)
cert_begins_many shelf cert names first mid before after end begins told = record {
  calls = many_calls before after end first.calls mid.calls told begins.calls;
  first = first_for shelf (Check cert) names first mid (omega (arith, begins.calls)) begins.first;
  slots = begins.slots;
  behind = λ after. let found = begins.behind after in (found.0, base_for shelf (Check cert) names found.0 found.1);
  third = begins.third;
  named = λ dump script given. begins.named dump script tt;
}
