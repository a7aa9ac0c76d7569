-- A dump gives one thing.
use Rattle.std.proofs.Common.{◌≡◌, ◌∙◌, ℕ, List, Ok, Err, Result, ap, sym}
use Rattle.json_text.specs.Accepted.{IsAccepted}
use Rattle.json_text.specs.Kept.{Kept, Wishes}
use Rattle.craft_reader.specs.declared.fault.DumpCode.{DumpCode}
use Rattle.craft_reader.specs.declared.fault.DumpCode.TheVariants as d
use Rattle.craft_reader.specs.declared.fault.DumpFault.{DumpFault}
use Rattle.game_types.specs.declared.games.Game.{Game}
use Rattle.game_reader.specs.Games.{DumpGives, HasFaultOf, HasGame, game_of}
use Rattle.game_reader.specs.Keys.{dump_wishes}

abbrev pub OneTree : Type 0
OneTree = (wanted : Wishes) (bytes : List ℕ) (tree other : Kept) → IsAccepted wanted bytes tree → IsAccepted wanted bytes other → tree ≡ other

pub gives_one : OneTree → (dump : List ℕ) (one other : Result Game DumpFault) → DumpGives dump one → DumpGives dump other → one ≡ other
gives_one one_tree dump one other a b = sym a.given_is ∙ ap game_of (one_tree dump_wishes dump a.tree b.tree a.accepted b.accepted) ∙ b.given_is

game_is : (game other : Game) → ◌≡◌ {A = Result Game DumpFault} (Ok game) (Ok other) → game ≡ other
game_is game other same = cc

no_fault : (game : Game) (fault : DumpFault) → ◌≡◌ {A = Result Game DumpFault} (Ok game) (Err fault) → ⊥
no_fault game fault same = cc

pub one : OneTree → (dump : List ℕ) (game other : Game) → HasGame dump game → HasGame dump other → game ≡ other
one one_tree dump game other a b = game_is game other (gives_one one_tree dump (Ok game) (Ok other) a b)

pub faultless : OneTree → (dump : List ℕ) (game : Game) (fault : DumpFault) → (code : DumpCode) → HasGame dump game → HasFaultOf dump fault code → ⊥
faultless one_tree dump game fault (d.Json json) has refused = refused.0.refused has.tree has.accepted
faultless one_tree dump game fault d.Missing has other = no_fault game fault (gives_one one_tree dump (Ok game) (Err fault) has other)
faultless one_tree dump game fault d.WrongKind has other = no_fault game fault (gives_one one_tree dump (Ok game) (Err fault) has other)
faultless one_tree dump game fault d.UnknownName has other = no_fault game fault (gives_one one_tree dump (Ok game) (Err fault) has other)
faultless one_tree dump game fault d.Number has other = no_fault game fault (gives_one one_tree dump (Ok game) (Err fault) has other)
faultless one_tree dump game fault d.Energy has other = no_fault game fault (gives_one one_tree dump (Ok game) (Err fault) has other)
faultless one_tree dump game fault d.Twice has other = no_fault game fault (gives_one one_tree dump (Ok game) (Err fault) has other)
faultless one_tree dump game fault d.Limit has other = no_fault game fault (gives_one one_tree dump (Ok game) (Err fault) has other)
faultless one_tree dump game fault d.NoMemory has other = no_fault game fault (gives_one one_tree dump (Ok game) (Err fault) has other)
