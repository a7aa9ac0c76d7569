-- Texts with commas between, in brackets, are the text of an array.
use Rattle.std.proofs.Common.{◌≡◌, ◌∙◌, ◌<◌, ◌+◌, ℕ, suc, Bool, true, false, List, [], ◌∷◌, ◌++◌, length, refl, ap, arith, append_assoc}
use Rattle.std.specs.Prelude.{slice_index_or}
use Rattle.std.specs.List.{range_with_len}
use Rattle.json.specs.Print.{quoted}
use Rattle.plan_base.specs.declared.ids.NodeId.{NodeId}
use Rattle.game_types.specs.declared.games.Game.{Game}
use Rattle.serde_json.specs.Data.{Data, array}
use Rattle.serde_json.specs.Written.{comma_if, compact_text, items_text}
use Rattle.catalog_members.specs.Members.{id_text, id_value, items_tree}
use Rattle.catalog_text.specs.Catalog.{list_text, names, with_commas}

one_listed : (comma text one rest all end_ : List ℕ) → text ≡ one → rest ++ end_ ≡ all → ((comma ++ text) ++ rest) ++ end_ ≡ comma ++ (one ++ all)
one_listed comma text one rest all end_ same more =
    append_assoc (comma ++ text) rest end_ ∙ (append_assoc comma text (rest ++ end_) ∙ (ap (λ l. comma ++ (l ++ (rest ++ end_))) same ∙ ap (λ l. comma ++ (one ++ l)) more))

texts_listed : (of : ℕ → Data) (later : Bool) (ts : List (List ℕ)) (from : ℕ) → ((k : ℕ) → k < length ts → slice_index_or ts k [] ≡ compact_text (of (from + k)))
    → with_commas later ts ++ 93 ∷ [] ≡ items_text later (items_tree of (range_with_len from (length ts)))
unfolding with_commas
texts_listed of later [] from each = refl
texts_listed of later (t ∷ ts) from each =
    let here : from + 0 ≡ from = omega arith in
    let shifted : (k : ℕ) → from + suc k ≡ from + 1 + k = λ k. omega arith in
    let rest : (k : ℕ) → k < length ts → slice_index_or ts k [] ≡ compact_text (of (from + 1 + k)) = λ k below. each (suc k) (omega (arith, below)) ∙ ap (λ (m : ℕ). compact_text (of m)) (shifted k) in
    one_listed (comma_if later) t (compact_text (of from)) (with_commas true ts) (items_text true (items_tree of (range_with_len (from + 1) (length ts)))) (93 ∷ [])
    (each 0 (omega arith) ∙ ap (λ (m : ℕ). compact_text (of m)) here) (texts_listed of true ts (from + 1) rest)

-- texts of so many values, one for each number
pub texts_are_array : (of : ℕ → Data) (ts : List (List ℕ)) (count : ℕ) → length ts ≡ count → ((k : ℕ) → k < count → slice_index_or ts k [] ≡ compact_text (of k))
    → list_text ts ≡ compact_text (array (items_tree of (range_with_len 0 count)))
unfolding list_text
texts_are_array of ts count long each =
    let from_none : (k : ℕ) → k ≡ 0 + k = λ k. omega arith in
    ap (λ l. 91 ∷ l) (texts_listed of false ts 0 (λ k below. each k (omega (arith, below, long)) ∙ ap (λ (m : ℕ). compact_text (of m)) (from_none k)))
    ∙ ap (λ (m : ℕ). compact_text (array (items_tree of (range_with_len 0 m)))) long

-- ---- names
names_listed : (g : Game) (later : Bool) (nodes : List NodeId) → with_commas later (names g nodes) ++ 93 ∷ [] ≡ items_text later (items_tree (id_value g) nodes)
unfolding with_commas
names_listed g later [] = refl
names_listed g later (n ∷ ns) =
    one_listed (comma_if later) (quoted (id_text g n)) (quoted (id_text g n)) (with_commas true (names g ns)) (items_text true (items_tree (id_value g) ns)) (93 ∷ []) refl (names_listed g true ns)

pub names_are_array : (g : Game) (nodes : List NodeId) → list_text (names g nodes) ≡ compact_text (array (items_tree (id_value g) nodes))
unfolding list_text
names_are_array g nodes = ap (λ l. 91 ∷ l) (names_listed g false nodes)
