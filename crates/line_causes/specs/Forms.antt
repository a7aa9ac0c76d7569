-- What stands behind the first word of a line, place by place, and how that is said. The forms are those of the project's own language of
-- scripts, whose grammar is in `script_reader/specs/Arguments`.
use Rattle.std.specs.Prelude.{ℕ, List, [], ◌∷◌, Option, None, Some, codes, map}
use Rattle.plan_report.specs.Layout.{spaced}
use Rattle.plan_lines.specs.declared.reply.RefusalCode.{RefusalCode}
use Rattle.plan_lines.specs.declared.reply.RefusalCode.TheVariants.{Q2, Q3, Q5}
use Rattle.script_reader.specs.declared.command_words.CommandWord.{CommandWord}
use Rattle.script_reader.specs.declared.command_words.CommandWord.TheVariants as word
use Rattle.line_causes.specs.declared.forms.Slot.{Slot}
use Rattle.line_causes.specs.declared.forms.Slot.TheVariants as slot

-- the name of what stands at a place
abbrev pub slot_name : Slot → List ℕ
slot_name slot.Table = codes "TABLE"
slot_name slot.Label = codes "LABEL"
slot_name slot.Node = codes "NODE"
slot_name slot.Good = codes "GOOD"
slot_name slot.TableGood = codes "TABLEGOOD"
slot_name slot.Recipe = codes "RECIPE"
slot_name slot.Tech = codes "TECH"
slot_name slot.Item = codes "ITEM"
slot_name slot.Fluid = codes "FLUID"
slot_name slot.Machine = codes "MACHINE"
slot_name slot.Activity = codes "ACTIVITY"
slot_name slot.Kind = codes "KIND"
slot_name slot.Amount = codes "AMOUNT or drop"
slot_name slot.Number = codes "Q"
slot_name slot.Price = codes "PRICE"
slot_name slot.PriceOrOff = codes "PRICE or off"
slot_name slot.Count = codes "COUNT"
slot_name slot.Share = codes "SHARE"
slot_name slot.Budget = codes "BUDGET or nothing"
slot_name slot.By = codes "by"
slot_name slot.Switch = codes "on or off"
slot_name slot.Parts = codes "fuel ITEM, module ITEM COUNT, beacon MACHINE COUNT SHARE, in ITEM COUNT behind a beacon, at FLUID, or nothing"

-- what stands at a place, in words
abbrev pub slot_words : Slot → List ℕ
slot_words slot.Table = codes "the name of a table"
slot_words slot.Label = codes "the label of a row"
slot_words slot.Node = codes "the name of a thing, such as item:NAME, recipe:NAME or tech:NAME"
slot_words slot.Good = codes "an item or a fluid, such as item:NAME"
slot_words slot.TableGood = codes "an item, a fluid, special:electricity or a technology, such as item:NAME"
slot_words slot.Recipe = codes "a recipe, such as recipe:NAME"
slot_words slot.Tech = codes "a technology, such as tech:NAME"
slot_words slot.Item = codes "an item, such as item:NAME"
slot_words slot.Fluid = codes "a fluid, such as fluid:NAME"
slot_words slot.Machine = codes "a machine, such as machine:NAME"
slot_words slot.Activity = codes "a recipe, a source, a fluid, special:electricity or a technology, such as recipe:NAME"
slot_words slot.Kind = codes "a kind: special, item, fluid, recipe, source, machine or tech"
slot_words slot.Amount = codes "a number such as 2.5 or 5/2, or drop"
slot_words slot.Number = codes "a number such as 2.5 or 5/2"
slot_words slot.Price = codes "a number such as 2.5 or 5/2"
slot_words slot.PriceOrOff = codes "a number such as 2.5 or 5/2, or off"
slot_words slot.Count = codes "a whole number from 0 to 65535"
slot_words slot.Share = codes "a whole number from 0 to 65535"
slot_words slot.Budget = codes "a whole number from 1 to 100000"
slot_words slot.By = codes "by"
slot_words slot.Switch = codes "on or off"
slot_words slot.Parts = codes "a part of a row"

-- the code of a line in which something else stands there: a number that is none, a fixed word that is another, or else an object that is none
abbrev pub slot_code : Slot → RefusalCode
slot_code slot.Amount = Q3
slot_code slot.Number = Q3
slot_code slot.Price = Q3
slot_code slot.PriceOrOff = Q3
slot_code slot.Count = Q3
slot_code slot.Share = Q3
slot_code slot.Budget = Q3
slot_code slot.Table = Q2
slot_code slot.Label = Q2
slot_code slot.By = Q2
slot_code slot.Switch = Q2
slot_code slot.Parts = Q2
slot_code slot.Node = Q5
slot_code slot.Good = Q5
slot_code slot.TableGood = Q5
slot_code slot.Recipe = Q5
slot_code slot.Tech = Q5
slot_code slot.Item = Q5
slot_code slot.Fluid = Q5
slot_code slot.Machine = Q5
slot_code slot.Activity = Q5
slot_code slot.Kind = Q5

-- what stands behind the first word of a line
abbrev pub form : CommandWord → List Slot
form word.Reach = slot.Node ∷ []
form word.Why = slot.Node ∷ []
form word.Missing = slot.Node ∷ []
form word.Mask = slot.Node ∷ []
form word.List = slot.Kind ∷ []
form word.Milestones = []
form word.Summary = []
form word.Rate = slot.Table ∷ slot.Label ∷ []
form word.Solve = slot.Table ∷ slot.Budget ∷ []
form word.Quiet = slot.Switch ∷ []
form word.Undo = []
form word.Redo = []
form word.Batch = []
form word.End = []
form word.Cancel = []
form word.Grant = slot.Node ∷ []
form word.Revoke = slot.Node ∷ []
form word.Forbid = slot.Node ∷ []
form word.Permit = slot.Node ∷ []
form word.Milestone = slot.Node ∷ []
form word.Unmilestone = slot.Node ∷ []
form word.Ingredient = slot.Recipe ∷ slot.Good ∷ slot.Amount ∷ []
form word.Product = slot.Recipe ∷ slot.Good ∷ slot.Amount ∷ []
form word.Unlock = slot.Tech ∷ slot.Recipe ∷ slot.Switch ∷ []
form word.Time = slot.Recipe ∷ slot.Number ∷ []
form word.Enabled = slot.Recipe ∷ slot.Switch ∷ []
form word.Table = slot.Table ∷ []
form word.Untable = slot.Table ∷ []
form word.Row = slot.Table ∷ slot.Label ∷ slot.Activity ∷ slot.By ∷ slot.Machine ∷ slot.Parts ∷ []
form word.Unrow = slot.Table ∷ slot.Label ∷ []
form word.Price = slot.Table ∷ slot.Label ∷ slot.Price ∷ []
form word.Want = slot.Table ∷ slot.TableGood ∷ slot.Number ∷ []
form word.Import = slot.Table ∷ slot.TableGood ∷ slot.PriceOrOff ∷ []
form word.Surplus = slot.Table ∷ slot.TableGood ∷ slot.PriceOrOff ∷ []
form word.Power = slot.Table ∷ slot.Switch ∷ []

-- names, each behind a space
abbrev pub front_words : List Slot → List ℕ
front_words slots = spaced (map slot_name slots)

-- what stands at a place, or that the line ends there
abbrev pub next_words : Option Slot → List ℕ
next_words (Some slot) = slot_name slot
next_words None = codes "nothing more"
