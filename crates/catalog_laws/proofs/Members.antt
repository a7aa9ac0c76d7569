-- The members of catalog_members leave members plain, and no deeper than they were where that is enough for a list.
use Rattle.std.proofs.Common.{◌<◌, ℕ, suc, Bool, true, false, List, arith}
use Rattle.std.specs.Prelude.{◌==◌, Option, None, Some, if◌then◌else◌}
use Rattle.fractions.specs.Fraction.{Fraction}
use Rattle.plan_base.specs.declared.ids.NodeId.{NodeId}
use Rattle.game_types.specs.declared.games.Game.{Game}
use Rattle.serde_json.specs.Data.{Data, array, boolean, item, Items, Members, no_items, number, object, string, unsigned}
use Rattle.catalog_members.specs.Members.{id_text, id_value, items_tree, place_value, with_amount, with_amount_where, with_count, with_id, with_id_where, with_ids, with_items, with_number, with_object, with_places, with_text, with_true, with_words, word_value}
use Rattle.catalog_laws.proofs.Plain.{AllFit, Fits, Holds, array_fits, deeper, object_fits, put_holds, tree_fits}

-- ---- leaves
pub text_fits : (n : ℕ) (text : List ℕ) → Fits n (string text)
text_fits n text = record { plain = tt; shallow = omega arith }

pub number_fits : (n count : ℕ) → Fits n (number (unsigned count))
number_fits n count = record { plain = tt; shallow = omega arith }

truth_fits : (n : ℕ) → Fits n (boolean true)
truth_fits n = record { plain = tt; shallow = omega arith }

-- ---- single members
pub text_holds : {n : ℕ} (key : List ℕ) (text : List ℕ) {ms : Members} → Holds n ms → Holds n (with_text key text ms)
unfolding with_text
text_holds {n} key text {ms} h = put_holds n key (string text) ms (text_fits n text) h

pub number_holds : {n : ℕ} (key : List ℕ) (count : ℕ) {ms : Members} → Holds n ms → Holds n (with_number key count ms)
unfolding with_number
number_holds {n} key count {ms} h = put_holds n key (number (unsigned count)) ms (number_fits n count) h

pub either_holds : {n : ℕ} {a b : Members} (test : Bool) → Holds n a → Holds n b → Holds n (if test then a else b)
either_holds true h k = h
either_holds false h k = k

pub count_holds : {n : ℕ} (key : List ℕ) (count : ℕ) {ms : Members} → Holds n ms → Holds n (with_count key count ms)
unfolding with_count
count_holds {n} key count {ms} h = either_holds (count == 0) h (number_holds _ _ h)

pub true_holds : {n : ℕ} (key : List ℕ) {ms : Members} (is_so : Bool) → Holds n ms → Holds n (with_true key is_so ms)
unfolding with_true
true_holds {n} key {ms} true h = put_holds n key (boolean true) ms (truth_fits n) h
true_holds {n} key {ms} false h = h

pub amount_holds : {n : ℕ} (key : List ℕ) (x : Fraction) {ms : Members} → Holds n ms → Holds n (with_amount key x ms)
unfolding with_amount
amount_holds key x h = text_holds _ _ h

pub amount_where_holds : {n : ℕ} (key : List ℕ) {ms : Members} (x : Option Fraction) → Holds n ms → Holds n (with_amount_where key x ms)
unfolding with_amount_where
amount_where_holds key None h = h
amount_where_holds key (Some x) h = amount_holds _ _ h

pub id_holds : {n : ℕ} (key : List ℕ) (g : Game) (node : NodeId) {ms : Members} → Holds n ms → Holds n (with_id key g node ms)
unfolding with_id
id_holds {n} key g node {ms} h = put_holds n key (string (id_text g node)) ms (text_fits n (id_text g node)) h

pub id_where_holds : {n : ℕ} (key : List ℕ) (g : Game) {ms : Members} (node : Option NodeId) → Holds n ms → Holds n (with_id_where key g node ms)
unfolding with_id_where
id_where_holds key g None h = h
id_where_holds key g (Some node) h = id_holds _ _ _ h

pub object_holds : {m : ℕ} {n : ℕ} (key : List ℕ) {inner : Members} {ms : Members} → m < n → Holds m inner → Holds n ms → Holds n (with_object key inner ms)
unfolding with_object
object_holds {m} {n} key {inner} {ms} less one h = put_holds n key (object inner) ms (deeper (suc m) n (object inner) (omega (arith, less)) (object_fits m inner one)) h

-- ---- lists
pub items_hold : {m : ℕ} {n : ℕ} (key : List ℕ) {ms : Members} → m < n → (ds : Items) → AllFit m ds → Holds n ms → Holds n (with_items key ds ms)
unfolding with_items
items_hold key less no_items all h = h
items_hold {m} {n} key {ms} less (item d ds) all h = put_holds n key (array (item d ds)) ms (deeper (suc m) n (array (item d ds)) (omega (arith, less)) (array_fits m (item d ds) all)) h

pub tree_holds : {A : Type 0} {n : ℕ} {ms : Members} (m : ℕ) (tree : A → Data) (key : List ℕ) (xs : List A) → m < n → ((x : A) → Fits m (tree x)) → Holds n ms → Holds n (with_items key (items_tree tree xs) ms)
tree_holds m tree key xs less each h = items_hold key less (items_tree tree xs) (tree_fits m tree each xs) h

pub ids_hold : {n : ℕ} (key : List ℕ) (g : Game) (nodes : List NodeId) {ms : Members} → 0 < n → Holds n ms → Holds n (with_ids key g nodes ms)
unfolding with_ids
ids_hold {n} key g nodes {ms} some h = tree_holds 0 (id_value g) key nodes some (λ node. text_fits 0 (id_text g node)) h

pub places_hold : {n : ℕ} (key : List ℕ) (ns : List ℕ) {ms : Members} → 0 < n → Holds n ms → Holds n (with_places key ns ms)
unfolding with_places
places_hold key ns some h = tree_holds 0 place_value key ns some (λ place. number_fits 0 place) h

pub words_hold : {n : ℕ} (key : List ℕ) (ws : List (List ℕ)) {ms : Members} → 0 < n → Holds n ms → Holds n (with_words key ws ms)
unfolding with_words
words_hold key ws some h = tree_holds 0 word_value key ws some (λ word. text_fits 0 word) h
