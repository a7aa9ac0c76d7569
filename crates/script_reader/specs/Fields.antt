-- One word as an object, a number or a choice. The forms are this project's own.
use Rattle.std.specs.Prelude.{◌≡◌, ℕ, ◌≤◌, Bool, true, false, List, ◌∷◌, ◌++◌, codes, ◌⊎◌}
use Rattle.std.specs.Str.{bytes_eq}
use Rattle.std.specs.Str.Parse.{digits_value}
use Rattle.fractions.specs.Numeral.{IsWholePart}
use Rattle.plan_base.specs.declared.shape.Kind.{Kind}
use Rattle.plan_base.specs.declared.shape.Kind.TheVariants.{Special, Item, Fluid, Recipe, Source, Machine, Tech}
use Rattle.plan_lines.specs.declared.change.Object.{Object}
use Rattle.script_reader.specs.declared.fields.Place.{Place}
use Rattle.script_reader.specs.declared.fields.Place.TheVariants.{Node, Good, OneRecipe, OneTech, OneItem, OneFluid, OneMachine, Activity, TableGood}

abbrev pub kind_word : Kind → List ℕ
kind_word Special = codes "special"
kind_word Item = codes "item"
kind_word Fluid = codes "fluid"
kind_word Recipe = codes "recipe"
kind_word Source = codes "source"
kind_word Machine = codes "machine"
kind_word Tech = codes "tech"

-- the special objects are three; of every other kind each name is one
abbrev pub IsName : Kind → List ℕ → Type 0
IsName Special name = (name ≡ codes "character") ⊎ ((name ≡ codes "electricity") ⊎ (name ≡ codes "heat"))
IsName kind name = Unit {0}

-- KIND:NAME
pub record WritesObject (word : List ℕ) (kind : Kind) (name : List ℕ) : Type 0 where
  pub name_is : IsName kind name
  pub word_is : word ≡ kind_word kind ++ 58 ∷ name

-- electricity can be made, and is a good of tables; the other special objects can't
abbrev pub is_electricity : List ℕ → Bool
is_electricity name = bytes_eq name (codes "electricity")

-- the objects that a place of a line takes
abbrev pub takes : Place → Kind → List ℕ → Bool
takes Node kind name = true
takes Good Item name = true
takes Good Fluid name = true
takes Good kind name = false
takes OneRecipe Recipe name = true
takes OneRecipe kind name = false
takes OneTech Tech name = true
takes OneTech kind name = false
takes OneItem Item name = true
takes OneItem kind name = false
takes OneFluid Fluid name = true
takes OneFluid kind name = false
takes OneMachine Machine name = true
takes OneMachine kind name = false
takes Activity Recipe name = true
takes Activity Source name = true
takes Activity Fluid name = true
takes Activity Tech name = true
takes Activity Special name = is_electricity name
takes Activity kind name = false
takes TableGood Item name = true
takes TableGood Fluid name = true
takes TableGood Tech name = true
takes TableGood Special name = is_electricity name
takes TableGood kind name = false

-- the word is this object, and the place takes it
pub record IsObjectAt (place : Place) (word : List ℕ) (object : Object) : Type 0 where
  pub writes : WritesObject word object.kind object.name
  pub taken : takes place object.kind object.name ≡ true

-- a whole number in digits without a leading zero, from the least to the most
pub record WritesCount (least most : ℕ) (word : List ℕ) (count : ℕ) : Type 0 where
  pub digits : IsWholePart word
  pub value : count ≡ digits_value 10 word
  pub from : least ≤ count
  pub to : count ≤ most
