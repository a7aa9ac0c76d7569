-- How a run ends that finds no base in a dump.
use Rattle.std.proofs.Common.{◌≡◌, ◌≢◌, ◌<◌, ◌∙◌, ℕ, List, inr, subst, sym}
use Rattle.game_types.specs.declared.games.Game.{Game}
use Rattle.graph_store.specs.Rows.{member_count}
use Rattle.craft_reader.specs.declared.fault.DumpCode.{DumpCode}
use Rattle.craft_reader.specs.declared.fault.DumpCode.TheVariants as d
use Rattle.craft_reader.specs.declared.fault.DumpFault.{DumpFault}
use Rattle.depend_rows.specs.Rows.{rows_of}
use Rattle.game_reader.specs.Games.{HasGame}
use Rattle.run_inputs.specs.declared.status.Status.{Status}
use Rattle.run_inputs.specs.declared.status.Status.TheVariants.{BadDump, NoMemory}
use Rattle.run_inputs.specs.Base.{members_fault}
use Rattle.run_inputs.specs.Early.{EndsLoading, HasBaseFault}

for_fault : (dump : List ℕ) (fault : DumpFault) (status : Status) (work : ℕ) → fault.code ≢ d.NoMemory → (fault.code ≢ d.NoMemory → status ≡ BadDump fault)
    → (fault.code ≢ d.NoMemory → HasBaseFault dump fault work) → EndsLoading dump status work
for_fault dump fault status work some refused has = subst (λ s. EndsLoading dump s work) (sym (refused some)) (has some, some)

-- want of memory is no fault of the dump, and each other fault has its cause
pub ends_loading : (dump : List ℕ) (fault : DumpFault) (code : DumpCode) (status : Status) (work : ℕ) → fault.code ≡ code → (fault.code ≡ d.NoMemory → status ≡ NoMemory)
    → (fault.code ≢ d.NoMemory → status ≡ BadDump fault) → (fault.code ≢ d.NoMemory → HasBaseFault dump fault work) → EndsLoading dump status work
ends_loading dump fault d.Missing status work is memory refused has = for_fault dump fault status work (λ e. let never : d.Missing ≡ d.NoMemory = sym is ∙ e in cc) refused has
ends_loading dump fault d.WrongKind status work is memory refused has = for_fault dump fault status work (λ e. let never : d.WrongKind ≡ d.NoMemory = sym is ∙ e in cc) refused has
ends_loading dump fault d.UnknownName status work is memory refused has = for_fault dump fault status work (λ e. let never : d.UnknownName ≡ d.NoMemory = sym is ∙ e in cc) refused has
ends_loading dump fault d.Number status work is memory refused has = for_fault dump fault status work (λ e. let never : d.Number ≡ d.NoMemory = sym is ∙ e in cc) refused has
ends_loading dump fault d.Energy status work is memory refused has = for_fault dump fault status work (λ e. let never : d.Energy ≡ d.NoMemory = sym is ∙ e in cc) refused has
ends_loading dump fault d.Twice status work is memory refused has = for_fault dump fault status work (λ e. let never : d.Twice ≡ d.NoMemory = sym is ∙ e in cc) refused has
ends_loading dump fault d.Limit status work is memory refused has = for_fault dump fault status work (λ e. let never : d.Limit ≡ d.NoMemory = sym is ∙ e in cc) refused has
ends_loading dump fault (d.Json json) status work is memory refused has = for_fault dump fault status work (λ e. let never : d.Json json ≡ d.NoMemory = sym is ∙ e in cc) refused has
ends_loading dump fault d.NoMemory status work is memory refused has = subst (λ s. EndsLoading dump s work) (sym (memory is)) tt

pub many_members : (dump : List ℕ) (game : Game) (fault : DumpFault) (work : ℕ) → HasGame dump game → (4_194_304 < member_count (rows_of game)) × (fault ≡ members_fault) → HasBaseFault dump fault work
many_members dump game fault work has many = inr (record { game = game; has = has; many = many.0 }, many.1)
