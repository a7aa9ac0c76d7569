-- What is written thing by thing, and name by name.
use Rattle.std.proofs.Common.{◌≡◌, ◌∙◌, ◌<◌, ◌+◌, ℕ, Bool, false, List, [], ◌∷◌, ◌++◌, length, map, take, get_or, refl, sym, ap, subst, append_assoc, append-nil, arith, below_more}
use Rattle.std.specs.Prelude.{nat_lt}
use Rattle.std.proofs.lemmas.List.{get_or_append_left, get_or_at, length-append, length-map, length-take-le, map-append, take_all, take_more}
use Rattle.json.specs.Print.{quoted}
use Rattle.plan_base.specs.declared.ids.NodeId.{NodeId}
use Rattle.plan_base.specs.declared.shape.Kind.{Kind}
use Rattle.game_types.specs.declared.games.Game.{Game}
use Rattle.depend_index.specs.declared.index.Index.{Index}
use Rattle.state_changes.specs.States.{State}
use Rattle.serde_json.specs.Written.{comma_if}
use Rattle.catalog_members.specs.Members.{id_text}
use Rattle.catalog_text.specs.Catalog.{AreTexts, WritesThing, WritesThings, names, with_commas}
use Rattle.catalog_text.specs.Things.{IsThingText}
use Rattle.catalog_text.proofs.Commas.{commas_more}

-- ---- things
pub things_none : (s : State) (index : Index) (kind : Kind) (old : List ℕ) → WritesThings s index kind 0 old old
unfolding with_commas
things_none s index kind old = record {
  texts = [];
  are_texts = record { long = refl; each = λ k below. absurd (omega (arith, below)) };
  written = sym (append-nil old);
}

-- the texts of one more thing
texts_more : (s : State) (index : Index) (kind : Kind) (n : ℕ) (texts : List (List ℕ)) (t : List ℕ) → AreTexts s index kind n texts → IsThingText s index kind n t → AreTexts s index kind (n + 1) (texts ++ t ∷ [])
texts_more s index kind n texts t are is = record {
  long = omega (arith, length-append texts (t ∷ []), are.long);
  each = below_more (λ k. IsThingText s index kind k (get_or (texts ++ t ∷ []) k [])) n
      (λ k below. subst (λ (x : List ℕ). IsThingText s index kind k x) (sym (get_or_append_left texts (t ∷ []) [] k (omega (arith, below, are.long)))) (are.each k below))
      (subst (λ (x : List ℕ). IsThingText s index kind n x) (sym (get_or_at texts t [] [] n are.long)) is);
}

-- one more text behind so many
text_behind : (n : ℕ) (texts : List (List ℕ)) (t old middle new : List ℕ) → length texts ≡ n → middle ≡ old ++ with_commas false texts → new ≡ middle ++ (comma_if (nat_lt 0 n) ++ t)
    → new ≡ old ++ with_commas false (texts ++ t ∷ [])
text_behind n texts t old middle new long before one =
    one
    ∙ (ap (λ m. m ++ (comma_if (nat_lt 0 n) ++ t)) before
    ∙ (append_assoc old (with_commas false texts) (comma_if (nat_lt 0 n) ++ t)
    ∙ (ap (λ (m : ℕ). old ++ (with_commas false texts ++ (comma_if (nat_lt 0 m) ++ t))) (sym long)
    ∙ ap (λ l. old ++ l) (sym (commas_more texts t)))))

pub things_more : (s : State) (index : Index) (kind : Kind) (n : ℕ) (old middle new : List ℕ) → WritesThings s index kind n old middle → WritesThing s index kind n middle new → WritesThings s index kind (n + 1) old new
things_more s index kind n old middle new before one = record {
  texts = before.texts ++ one.text ∷ [];
  are_texts = texts_more s index kind n before.texts one.text before.are_texts one.is_text;
  written = text_behind n before.texts one.text old middle new before.are_texts.long before.written one.written;
}

-- ---- names
names_at : (g : Game) (nodes : List NodeId) (k : ℕ) → k < length nodes → length (names g (take k nodes)) ≡ k
names_at g nodes k within = length-map (take k nodes) (λ node. quoted (id_text g node)) ∙ length-take-le k nodes (omega (arith, within))

pub names_more : (g : Game) (nodes : List NodeId) (k : ℕ) (d : NodeId) (old middle new : List ℕ) → k < length nodes → middle ≡ old ++ with_commas false (names g (take k nodes))
    → new ≡ middle ++ (comma_if (nat_lt 0 k) ++ quoted (id_text g (get_or nodes k d))) → new ≡ old ++ with_commas false (names g (take (k + 1) nodes))
names_more g nodes k d old middle new within before one =
    text_behind k (names g (take k nodes)) (quoted (id_text g (get_or nodes k d))) old middle new (names_at g nodes k within) before one
    ∙ ap (λ ts. old ++ with_commas false ts)
    (sym (ap (λ ns. names g ns) (take_more nodes k d within) ∙ map-append (λ n. quoted (id_text g n)) (take k nodes) (get_or nodes k d ∷ [])))

pub names_none : (g : Game) (nodes : List NodeId) (old : List ℕ) → old ≡ old ++ with_commas false (names g (take 0 nodes))
unfolding with_commas
names_none g nodes old = sym (append-nil old)

pub names_all : (g : Game) (nodes : List NodeId) (k : ℕ) (old new : List ℕ) → length nodes ≡ k → new ≡ old ++ with_commas false (names g (take k nodes)) → new ≡ old ++ with_commas false (names g nodes)
names_all g nodes k old new long before = before ∙ ap (λ ns. old ++ with_commas false (names g ns)) (take_all k nodes (omega (arith, long)))
