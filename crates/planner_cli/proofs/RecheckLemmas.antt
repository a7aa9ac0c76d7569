-- A run that checks a script by the certificate that another run told of it.
use Rattle.std.proofs.Common.{◌≡◌, ◌≢◌, ◌≤◌, ℕ, List, IsTrue, length, arith, ap, inl, inr, refl, subst, sym, ◌∙◌}
use Rattle.std.specs.Prelude.{Some}
use Rattle.plan_io.specs.Store.{Shelf}
use Rattle.game_types.specs.declared.games.Game.{Game}
use Rattle.craft_reader.specs.declared.fault.DumpFault.{DumpFault}
use Rattle.game_reader.specs.Games.{HasFault, HasGame}
use Rattle.graph_store.specs.Rows.{member_count}
use Rattle.depend_rows.specs.Rows.{rows_of}
use Rattle.linear_table.specs.declared.SolveAnswer.{SolveAnswer}
use Rattle.certificate_file.specs.Said.{IsCertFault, IsCertificate}
use Rattle.certificate_file.specs.declared.CertEntry.{CertEntry}
use Rattle.certificate_file.specs.declared.CertFault.{CertFault}
use Rattle.certificate_file.specs.declared.CertFault.TheVariants as of_cert
use Rattle.state_changes.specs.States.{first_state}
use Rattle.planner_core.specs.Lines.{IsSessionOf, Planned, first_planned}
use Rattle.script_runner.specs.Certificates.{EndsProof}
use Rattle.plan_io.specs.Lines.{lines_of}
use Rattle.script_runner.specs.Rechecks.{IsProof}
use Rattle.script_runner.specs.Scripts.{IsTooLong}
use Rattle.plan_io.specs.declared.ends.ScriptEnd.TheVariants as script_end
use Rattle.script_runner.proofs.RecheckLemmas.{ends_done}
use Rattle.run_inputs.specs.declared.status.Status.{Status}
use Rattle.run_inputs.specs.declared.status.Status.TheVariants.{Done, SomeRefused, BadWords, BadDump, ReadFault, WriteFault, NoMemory, TooLong, BadCert}
use Rattle.run_inputs.specs.declared.status.Long.TheVariants.{DumpBytes, ScriptBytes, ScriptLines, CertBytes}
use Rattle.run_inputs.specs.Base.{HasBase}
use Rattle.run_inputs.specs.Early.{HasBaseFault, Stops}
use Rattle.planner_cli.specs.Ending.{ChecksCert, EndsRun}
use Rattle.run_inputs.specs.Inputs.{IsBase, IsCert, IsInput, IsScript}
use Rattle.run_inputs.specs.Reading.{IsContent}
use Rattle.planner_cli.specs.Rechecks.{ChecksNoWide, HasSameFiles, IsProved, Side}
use Rattle.run_inputs.specs.Words.{Check, Files}

-- a dump has one game, and none where it has a fault
pub record OneGame : Type 0 where
  pub one : (dump : List ℕ) (game other : Game) → HasGame dump game → HasGame dump other → game ≡ other
  pub faultless : (dump : List ℕ) (game : Game) (fault : DumpFault) → HasGame dump game → HasFault dump fault → ⊥

-- what the first run answered
pub record Proves (side : Side) (certificate : List ℕ) : Type 0 where
  pub game : Game
  pub dump : List ℕ
  pub dump_is : IsInput side.shelf side.names.dump 268_435_456 dump
  pub base : HasBase dump game
  pub script : List ℕ
  pub script_is : IsInput side.shelf side.names.script 16_777_216 script
  pub solved : List SolveAnswer
  pub steps : ℕ
  pub ends : EndsProof (first_planned game) script solved script_end.Done certificate steps

proves : (side : Side) (certificate : List ℕ) → IsProved side certificate → Proves side certificate
unfolding EndsRun
proves side certificate is =
    let all = is.ends in
    record {
      game = all.game;
      dump = all.base.dump;
      dump_is = all.base.given;
      base = all.base.has;
      script = all.script;
      script_is = all.script_is;
      solved = is.solved;
      steps = all.line_work;
      ends = all.ends;
    }

pub first_grown : (game : Game) → IsSessionOf (first_state game) (first_planned game)
first_grown game = record { past = refl; future = tt }

few_lines : (first : Planned) (bytes : List ℕ) (solved : List SolveAnswer) (certificate : List ℕ) (steps : ℕ) → EndsProof first bytes solved script_end.Done certificate steps → length (lines_of bytes) ≤ 100_000
unfolding EndsProof
few_lines first bytes solved certificate steps ends = ends.tells.few

certified : (first : Planned) (bytes : List ℕ) (solved : List SolveAnswer) (certificate : List ℕ) (steps : ℕ) → EndsProof first bytes solved script_end.Done certificate steps → (entries : List CertEntry) × IsCertificate certificate entries
unfolding EndsProof
certified first bytes solved certificate steps ends = (_, ends.says)

-- ---- the files of both runs
content_is : (shelf : Shelf) (name bytes told : List ℕ) → IsTrue shelf.tells → IsContent shelf name bytes → shelf.file name ≡ Some told → bytes ≡ told
content_is shelf name bytes told tells content is = let same : Some bytes ≡ Some told = sym (content tells) ∙ is in cc

content_same : (one other : Shelf) (name second bytes told : List ℕ) → IsTrue one.tells → IsTrue other.tells → one.file name ≡ other.file second → IsContent one name bytes → IsContent other second told → told ≡ bytes
content_same one other name second bytes told tells too same first last = content_is other second told bytes too last (sym same ∙ first tells)

-- the certificate of the file is one
not_bad : (certificate : List ℕ) (fault : CertFault) → ((entries : List CertEntry) × IsCertificate certificate entries) → fault ≢ of_cert.NoMemory → IsCertFault certificate fault → ⊥
not_bad certificate of_cert.NoMemory said memory is = memory refl
not_bad certificate of_cert.NotJson said memory is = is said.1.data_ said.1.json
not_bad certificate of_cert.BadForm said memory is = is.1 said.0 said.1

base_faultless : OneGame → (dump : List ℕ) (game : Game) (fault : DumpFault) (work : ℕ) → HasBase dump game → HasBaseFault dump fault work → ⊥
base_faultless games dump game fault work base (inl found) = games.faultless dump game fault base.has found.0
base_faultless games dump game fault work base (inr found) =
    let same = games.one dump game found.0.game base.has found.0.has in
    let few : member_count (rows_of found.0.game) ≤ 4_194_304 = subst (λ (g : Game). member_count (rows_of g) ≤ 4_194_304) same base.few in
    let many = found.0.many in
    absurd (omega arith)

-- ---- the ends of the second run
-- nothing stops it before its lines
never_stops : OneGame → (first second : Side) (cert certificate : List ℕ) (status : Status) (work : ℕ) → Proves first certificate → HasSameFiles first second cert certificate → Stops second.shelf (Some (Files (Check cert) second.names)) status work → ⊥
never_stops games first second cert certificate BadWords work is files stops = let never = stops.0 in cc
never_stops games first second cert certificate (BadDump fault) work is files stops =
    let same = content_same first.shelf second.shelf first.names.dump second.names.dump is.dump stops.dump files.first_tells files.second_tells files.dump is.dump_is.content stops.given.content in
    base_faultless games is.dump is.game fault work is.base (subst (λ (d : List ℕ). HasBaseFault d fault work) same stops.fault_is)
never_stops games first second cert certificate (TooLong DumpBytes) work is files stops =
    let long = stops.0 in
    let same = content_same first.shelf second.shelf first.names.dump second.names.dump is.dump long.bytes files.first_tells files.second_tells files.dump is.dump_is.content long.content in
    let count : length long.bytes ≡ length is.dump = ap length same in
    absurd (omega (arith, count, long.passes, is.dump_is.fits))
never_stops games first second cert certificate (TooLong ScriptBytes) work is files stops =
    let long = stops.long in
    let same = content_same first.shelf second.shelf first.names.script second.names.script is.script long.bytes files.first_tells files.second_tells files.script is.script_is.content long.content in
    let count : length long.bytes ≡ length is.script = ap length same in
    absurd (omega (arith, count, long.passes, is.script_is.fits))
never_stops games first second cert certificate (TooLong CertBytes) work is files stops =
    let long = stops.ends in
    let same = content_is second.shelf cert long.bytes certificate files.second_tells long.content files.given in
    let count : length long.bytes ≡ length certificate = ap length same in
    absurd (omega (arith, count, long.passes, files.fits))
never_stops games first second cert certificate (BadCert fault) work is files stops =
    let bad = stops.ends in
    let same = content_is second.shelf cert bad.bytes certificate files.second_tells bad.given.content files.given in
    not_bad certificate fault (certified (first_planned is.game) is.script is.solved certificate is.steps is.ends) bad.no_memory (subst (λ (b : List ℕ). IsCertFault b fault) same bad.fault_is)
never_stops games first second cert certificate (TooLong ScriptLines) work is files stops = stops
never_stops games first second cert certificate Done work is files stops = stops
never_stops games first second cert certificate SomeRefused work is files stops = stops
never_stops games first second cert certificate ReadFault work is files stops = stops
never_stops games first second cert certificate WriteFault work is files stops = stops
never_stops games first second cert certificate NoMemory work is files stops = stops

-- the script of the second run is that of the first
script_same : (first second : Side) (cert certificate bytes : List ℕ) → (is : Proves first certificate) → HasSameFiles first second cert certificate → IsScript second.shelf (Some (Files (Check cert) second.names)) bytes → bytes ≡ is.script
script_same first second cert certificate bytes is files given =
    content_same first.shelf second.shelf first.names.script second.names.script is.script bytes files.first_tells files.second_tells files.script is.script_is.content given.content

game_same : OneGame → (first second : Side) (cert certificate : List ℕ) (game : Game) → (is : Proves first certificate) → HasSameFiles first second cert certificate → IsBase second.shelf (Some (Files (Check cert) second.names)) game → is.game ≡ game
game_same games first second cert certificate game is files base =
    let same = content_same first.shelf second.shelf first.names.dump second.names.dump is.dump base.dump files.first_tells files.second_tells files.dump is.dump_is.content base.given.content in
    games.one is.dump is.game game is.base.has (subst (λ (d : List ℕ). HasGame d game) same base.has.has)

not_many : (first second : Side) (cert certificate bytes : List ℕ) (solved : List SolveAnswer) (text : List ℕ) (work : ℕ) → Proves first certificate → HasSameFiles first second cert certificate
    → IsScript second.shelf (Some (Files (Check cert) second.names)) bytes → IsTooLong bytes solved text work → ⊥
not_many first second cert certificate bytes solved text work is files given long =
    let few : length (lines_of bytes) ≤ 100_000 =
    subst (λ (b : List ℕ). length (lines_of b) ≤ 100_000) (sym (script_same first second cert certificate bytes is files given)) (few_lines (first_planned is.game) is.script is.solved certificate is.steps is.ends) in
    absurd (omega (arith, few, long.many))

-- what was proved by the first run, at the planner and the script of the second
proof_there : OneGame → (first second : Side) (cert certificate bytes : List ℕ) (game : Game) (entries : List CertEntry) → Proves first certificate → HasSameFiles first second cert certificate
    → IsBase second.shelf (Some (Files (Check cert) second.names)) game → IsScript second.shelf (Some (Files (Check cert) second.names)) bytes → IsCert second.shelf cert entries → IsProof (first_planned game) bytes certificate entries
proof_there games first second cert certificate bytes game entries is files base given read =
    let same_game = game_same games first second cert certificate game is files base in
    let same_script = script_same first second cert certificate bytes is files given in
    let same_text = content_is second.shelf cert read.bytes certificate files.second_tells read.given.content files.given in
    record {
      base = first_state game;
      grown = first_grown game;
      solved = is.solved;
      steps = is.steps;
      ends = subst (λ (b : List ℕ). EndsProof (first_planned game) b is.solved script_end.Done certificate is.steps) (sym same_script)
          (subst (λ (g : Game). EndsProof (first_planned g) is.script is.solved script_end.Done certificate is.steps) same_game is.ends);
      says = subst (λ (b : List ℕ). IsCertificate b entries) same_text read.says;
    }

none_refused : OneGame → (first second : Side) (cert certificate : List ℕ) (game : Game) (bytes : List ℕ) (solved : List SolveAnswer) (text : List ℕ) (work : ℕ) → Proves first certificate → HasSameFiles first second cert certificate → ChecksNoWide second cert
    → IsBase second.shelf (Some (Files (Check cert) second.names)) game → IsScript second.shelf (Some (Files (Check cert) second.names)) bytes → ChecksCert second.shelf cert (first_planned game) bytes solved script_end.SomeRefused text work → ⊥
none_refused games first second cert certificate game bytes solved text work is files narrow base given checks =
    let proof = proof_there games first second cert certificate bytes game checks.entries is files base given checks.given in
    let never : script_end.SomeRefused ≡ script_end.Done =
    ends_done (first_planned game) bytes certificate checks.entries script_end.SomeRefused text work proof (narrow game bytes checks.entries base given checks.given) checks.ends (λ same. cc) (λ same. cc) in
    cc

ends_as : OneGame → (first second : Side) (cert certificate : List ℕ) (taken : ℕ) (solved : List SolveAnswer) (status : Status) (text : List ℕ) (work : ℕ) → Proves first certificate → HasSameFiles first second cert certificate → ChecksNoWide second cert
    → EndsRun second.shelf (Some (Files (Check cert) second.names)) taken solved status text work → status ≢ ReadFault → status ≢ WriteFault → status ≢ NoMemory → status ≡ Done
unfolding EndsRun
ends_as games first second cert certificate taken solved Done text work is files narrow ends reads writes memory = refl
ends_as games first second cert certificate taken solved SomeRefused text work is files narrow ends reads writes memory =
    absurd (none_refused games first second cert certificate ends.game ends.script solved text ends.line_work is files narrow ends.base ends.script_is ends.ends)
ends_as games first second cert certificate taken solved (TooLong ScriptLines) text work is files narrow ends reads writes memory =
    absurd (not_many first second cert certificate ends.script solved text ends.line_work is files ends.script_is ends.ends)
ends_as games first second cert certificate taken solved ReadFault text work is files narrow ends reads writes memory = absurd (reads refl)
ends_as games first second cert certificate taken solved WriteFault text work is files narrow ends reads writes memory = absurd (writes refl)
ends_as games first second cert certificate taken solved NoMemory text work is files narrow ends reads writes memory = absurd (memory refl)
ends_as games first second cert certificate taken solved BadWords text work is files narrow ends reads writes memory = absurd (never_stops games first second cert certificate BadWords work is files ends.stops)
ends_as games first second cert certificate taken solved (BadDump fault) text work is files narrow ends reads writes memory = absurd (never_stops games first second cert certificate (BadDump fault) work is files ends.stops)
ends_as games first second cert certificate taken solved (TooLong DumpBytes) text work is files narrow ends reads writes memory = absurd (never_stops games first second cert certificate (TooLong DumpBytes) work is files ends.stops)
ends_as games first second cert certificate taken solved (TooLong ScriptBytes) text work is files narrow ends reads writes memory = absurd (never_stops games first second cert certificate (TooLong ScriptBytes) work is files ends.stops)
ends_as games first second cert certificate taken solved (TooLong CertBytes) text work is files narrow ends reads writes memory = absurd (never_stops games first second cert certificate (TooLong CertBytes) work is files ends.stops)
ends_as games first second cert certificate taken solved (BadCert fault) text work is files narrow ends reads writes memory = absurd (never_stops games first second cert certificate (BadCert fault) work is files ends.stops)

pub check_done : OneGame → (first second : Side) (cert certificate : List ℕ) (taken : ℕ) (solved : List SolveAnswer) (status : Status) (text : List ℕ) (work : ℕ) → IsProved first certificate → HasSameFiles first second cert certificate → ChecksNoWide second cert
    → EndsRun second.shelf (Some (Files (Check cert) second.names)) taken solved status text work → status ≢ ReadFault → status ≢ WriteFault → status ≢ NoMemory → status ≡ Done
check_done games first second cert certificate taken solved status text work is files narrow ends reads writes memory =
    ends_as games first second cert certificate taken solved status text work (proves first certificate is) files narrow ends reads writes memory
