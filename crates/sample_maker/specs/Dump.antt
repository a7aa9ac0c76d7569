-- The dump of a sample.
use Rattle.std.specs.Prelude.{ℕ, ◌-◌, ◌*◌, ◌==◌, List, [], ◌++◌, if◌then◌else◌, codes, decimal}
use Rattle.sample_maker.specs.Draws.{after, draw, joined}

-- a character and a machine that craft, and the item i0, which builds the machine
abbrev pub head : List ℕ
head = codes "{\"character\":{\"character\":{\"crafting_categories\":[\"crafting\"]}},\"assembling-machine\":{\"m0\":{\"crafting_speed\":1,\"crafting_categories\":[\"crafting\"],\"energy_usage\":\"1kW\",\"energy_source\":{\"type\":\"void\"}}},\"item\":{\"i0\":{\"place_result\":\"m0\"}"

-- the item iK
unfoldable pub item : ℕ → List ℕ
item k = codes ",\"i" ++ (decimal k ++ codes "\":{}")

-- between the items and the recipes
abbrev pub middle : List ℕ
middle = codes "},\"recipe\":{"

-- what comes before the recipes of iK: a comma behind those of another item
unfoldable pub comma : ℕ → List ℕ
comma k = if k == 1 then [] else codes ","

-- one of each of two items, or one of an item that is named twice
unfoldable pub ingredients : ℕ → ℕ → List ℕ
ingredients a b =
    if a == b then codes "[[\"i" ++ (decimal a ++ codes "\",1]]")
    else codes "[[\"i" ++ (decimal a ++ (codes "\",1],[\"i" ++ (decimal b ++ codes "\",1]]")))

-- rK makes iK of a list of ingredients
unfoldable pub maker : ℕ → List ℕ → List ℕ
maker k list =
    codes "\"r" ++ (decimal k ++ (codes "\":{\"ingredients\":" ++ (list ++ (codes ",\"result\":\"i" ++ (decimal k ++ codes "\"}")))))

-- bK makes iC of iK
unfoldable pub unmaker : ℕ → ℕ → List ℕ
unmaker k c =
    codes ",\"b" ++ (decimal k ++ (codes "\":{\"ingredients\":[[\"i" ++ (decimal k ++ (codes "\",1]],\"result\":\"i" ++ (decimal c ++ codes "\"}")))))

-- rK makes iK of iA and iB, and bK makes iC of iK
abbrev pub recipes : ℕ → ℕ → ℕ → ℕ → List ℕ
recipes k a b c = comma k ++ maker k (ingredients a b) ++ unmaker k c

-- the recipes of iK for the three numbers below K that are drawn from a state on
abbrev pub recipes_from : ℕ → ℕ → List ℕ
recipes_from state k = recipes k (draw state 1 k) (draw state 2 k) (draw state 3 k)

-- the recipes of iK among those of a dump: each earlier item took three draws
abbrev pub recipes_at : ℕ → ℕ → List ℕ
recipes_at state k = recipes_from (after (3 * (k - 1)) state) k

-- the dump of a size, its numbers drawn from a state on
unfoldable pub dump_text : ℕ → ℕ → List ℕ
dump_text state size = head ++ joined item size ++ middle ++ joined (recipes_at state) size ++ codes "}}"
