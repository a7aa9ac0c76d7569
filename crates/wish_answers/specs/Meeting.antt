-- A planner whose table meets a wish.
use Rattle.std.specs.Prelude.{◌≡◌, ℕ, Bool, List, Contains}
use Rattle.game_types.specs.declared.games.Game.{Game}
use Rattle.production_table.specs.declared.tables.Table.{Table}
use Rattle.plan_io.specs.Lines.{lines_of}
use Rattle.planner_core.specs.Lines.{Planned}
use Rattle.planner_core.specs.Replies.{reached_marks}
use Rattle.script_runner.specs.Leading.{Accepted}
use Rattle.script_runner.specs.declared.stepping.Progress.{Progress}
use Rattle.wish_checks.specs.Answers.{IsMet}
use Rattle.wish_setups.specs.declared.wish.Met.{Met}
use Rattle.wish_setups.specs.declared.wish.Wish.{Wish}
use Rattle.wish_words.specs.Named.{IsWishOf}
use Rattle.wish_words.specs.declared.asked.WishRequest.{WishRequest}
use Rattle.wish_answers.specs.declared.finding.Given.{Given}

-- a table meets a wish, with some goods at its rim; by these marks of what is reached
abbrev pub TableMeets : Game → List Bool → List ℕ → Wish → Table → Type 0
TableMeets g marks name wish t = (met : Met) × (met.table ≡ t) × IsMet g marks name wish met

-- one of some tables meets it
abbrev pub TablesMeet : Game → List Bool → List ℕ → Wish → List Table → Type 0
TablesMeet g marks name wish ts = (t : Table) × Contains ts t × TableMeets g marks name wish t

-- the planner has a table of this name that meets a wish
abbrev pub HasMet : Planned → List Bool → List ℕ → Wish → Type 0
HasMet p marks name wish = TablesMeet p.state.book.game marks name wish p.state.tables

-- behind the lines of a script, of which none is refused, the planner is this one
abbrev pub IsBehind : Planned → List ℕ → Planned → Type 0
IsBehind first script last = (done : Progress) × Accepted first (lines_of script) done last

-- The planner has a table of the name that was asked for, which meets the wish of the words by what the planner before it reached: each good that they name
-- at its rate, and the set-ups that they name. What the game hides is as it was given.
pub record MeetsWish (before after : Planned) (given : Given) (asked : WishRequest) : Type 0 where
  pub marks : List Bool
  pub reached : marks ≡ reached_marks before.state.book
  pub wish : Wish
  pub asked_for : IsWishOf before.state.book.game given.belt asked wish
  pub hidden : wish.hidden ≡ given.hidden.now
  pub has : HasMet after marks asked.table.now wish

-- as this, of the planner behind the lines of a script
abbrev pub MeetsWishBehind : Planned → List ℕ → Planned → Given → WishRequest → Type 0
MeetsWishBehind first script after given asked = (before : Planned) × IsBehind first script before × MeetsWish before after given asked
