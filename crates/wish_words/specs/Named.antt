-- What the words of a wish name in a game. The forms are this project's own.
use Rattle.std.specs.Prelude.{◌≡◌, ℕ, true, List, Option, Some, None, Ok, ⊤}
use Rattle.std.specs.List.{AllZip}
use Rattle.fractions.specs.Fraction.{Fraction}
use Rattle.plan_base.specs.declared.ids.GoodId.{GoodId}
use Rattle.name_table.specs.Names.{place_of}
use Rattle.game_types.specs.Nodes.{names_of}
use Rattle.game_types.specs.Temperatures.{is_fit}
use Rattle.game_types.specs.declared.games.Game.{Game}
use Rattle.plan_lines.specs.declared.change.Object.{Object}
use Rattle.script_reader.specs.Fields.{IsObjectAt}
use Rattle.script_reader.specs.declared.fields.Place.{Place}
use Rattle.script_reader.specs.declared.fields.Place.TheVariants.{OneItem, OneMachine, OneRecipe, TableGood}
use Rattle.table_rows.specs.Names.{good_named}
use Rattle.wish_setups.specs.declared.wish.Cheapest.{Cheapest}
use Rattle.wish_setups.specs.declared.wish.Cheapest.TheVariants.{Cost, Power, Pollution, Machines}
use Rattle.wish_setups.specs.declared.wish.Wish.{Wish}
use Rattle.wish_setups.specs.declared.wish.WishBeacon.{WishBeacon}
use Rattle.wish_words.specs.declared.asked.AskedBeacon.{AskedBeacon}
use Rattle.wish_words.specs.declared.asked.AskedImport.{AskedImport}
use Rattle.wish_words.specs.declared.asked.AskedWish.{AskedWish}
use Rattle.wish_words.specs.declared.asked.Least.{Least}
use Rattle.wish_words.specs.declared.asked.Least.TheVariants as least
use Rattle.wish_words.specs.declared.asked.WishRequest.{WishRequest}

-- ---- one word
-- the word names the thing at this place among those of its kind, by an object as in a script
pub record IsPlaceOf (g : Game) (place : Place) (word : List ℕ) (index : ℕ) : Type 0 where
  pub object : Object
  pub writes : IsObjectAt place word object
  pub found : place_of (names_of g object.kind) object.name ≡ Some index

-- the word names this good of tables, as in a script
pub record IsNamedGood (g : Game) (word : List ℕ) (good : GoodId) : Type 0 where
  pub object : Object
  pub writes : IsObjectAt TableGood word object
  pub is : good_named g object ≡ Ok good

-- the word names this good; or a fluid of several temperatures, of which this is one
pub record IsGoodOf (g : Game) (word : List ℕ) (good : GoodId) : Type 0 where
  pub named : GoodId
  pub names : IsNamedGood g word named
  pub fits : is_fit g named.0 None None good.0 ≡ true

-- a word, or none, names what is there, or not
abbrev pub BothOrNone : {A B : Type 0} → (A → B → Type 0) → Option A → Option B → Type 0
BothOrNone R None None = ⊤
BothOrNone R None (Some b) = ⊥
BothOrNone R (Some a) None = ⊥
BothOrNone R (Some a) (Some b) = R a b

-- ---- goods with their numbers
-- the rate that stands behind the good, else that of the belt
abbrev pub rate_or : Option Fraction → Option Fraction → Option Fraction
rate_or None belt = belt
rate_or (Some rate) belt = Some rate

pub record IsWantOf (g : Game) (belt : Option Fraction) (asked : AskedWish) (want : GoodId × Fraction) : Type 0 where
  pub good : IsGoodOf g asked.good.now want.0
  pub rate : rate_or asked.rate belt ≡ Some want.1

pub record IsImportOf (g : Game) (asked : AskedImport) (import_ : GoodId × Fraction) : Type 0 where
  pub good : IsGoodOf g asked.good.now import_.0
  pub price : import_.1 ≡ asked.price

-- ---- how it is made
pub record IsBeaconOf (g : Game) (asked : AskedBeacon) (beacon : WishBeacon) : Type 0 where
  pub beacon_is : IsPlaceOf g OneMachine asked.«machine».now beacon.beacon.0
  pub module_is : IsPlaceOf g OneItem asked.item.now beacon.«module».0
  pub count : beacon.count ≡ asked.count
  pub share : beacon.share ≡ asked.share

abbrev pub cheapest_of : Least → Cheapest
cheapest_of least.Cost = Cost
cheapest_of least.Power = Power
cheapest_of least.Pollution = Pollution
cheapest_of least.Machines = Machines

-- ---- the whole wish
-- It wishes for these goods, in the order of the words, at their rates or a belt's, and is made as they say.
pub record IsWishOf (g : Game) (belt : Option Fraction) (asked : WishRequest) (wish : Wish) : Type 0 where
  pub wants : asked.more ≡ None → AllZip (IsWantOf g belt) asked.wishes.items wish.wants
  pub imports : AllZip (IsImportOf g) asked.imports.items wish.imports
  pub by : AllZip (λ word machine_. IsPlaceOf g OneMachine word.now machine_.0) asked.by.items wish.by
  pub modules : AllZip (λ word item. IsPlaceOf g OneItem word.now item.0) asked.setup.modules.items wish.modules
  pub beacon : BothOrNone (IsBeaconOf g) asked.setup.beacon wish.beacon
  pub fuel : BothOrNone (λ word item. IsPlaceOf g OneItem word.now item.0) asked.setup.fuel wish.fuel
  pub without : AllZip (λ word recipe. IsPlaceOf g OneRecipe word.now recipe.0) asked.choice.without.items wish.without
  pub only : AllZip (λ word recipe. IsPlaceOf g OneRecipe word.now recipe.0) asked.choice.only.items wish.only
  pub rows : wish.rows ≡ asked.choice.rows
  pub cheapest : wish.cheapest ≡ cheapest_of asked.choice.cheapest
  pub dig : wish.dig ≡ asked.dig
  pub power : wish.power ≡ asked.power
