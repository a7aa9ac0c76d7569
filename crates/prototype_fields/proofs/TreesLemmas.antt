-- What is read of the trees that the reader makes.
use Rattle.std.proofs.Common.{◌≡◌, ◌≢◌, ◌∙◌, ℕ, List, [], ◌∷◌, Vec, None, Some, refl, sym, ap, length, arith, Bool, true, false, cond}
use Rattle.std.specs.Str.{IsUtf8, is_utf8}
use Rattle.std.proofs.lemmas.Str.{is_utf8-from_IsUtf8, IsUtf8-from_is_utf8}
use Rattle.std.specs.declared.alloc.Global.{Global}
use Rattle.json_text.specs.Kept.{Kept}
use Rattle.json_text.specs.Kept as kept
use Rattle.json_text.specs.Machine.{list_of, object_of}
use Rattle.json_text.specs.SpanSeen.{span_seen, node_seen, spans_seen, members_seen}
use Rattle.json_text.specs.declared.span.SpanTree.{SpanTree}
use Rattle.json_text.specs.declared.span.SpanMember.{SpanMember}
use Rattle.json_text.specs.declared.span.SpanNode.TheVariants as variant
use Rattle.json_text.proofs.SpanLemmas.{seen-List, seen-Object}
use Rattle.prototype_fields.specs.Objects.{Member, elements_of, members_of, as_object, as_list, if_utf8}

pub members_of-object_of : (members : List Member) → members_of (object_of members) ≡ members
members_of-object_of [] = refl
members_of-object_of (member ∷ members) = ap (λ ms. member ∷ ms) (members_of-object_of members)

pub elements_of-list_of : (values : List Kept) → elements_of (list_of values) ≡ values
elements_of-list_of [] = refl
elements_of-list_of (value ∷ values) = ap (λ vs. value ∷ vs) (elements_of-list_of values)

pub object-Object : (t : SpanTree) (v : Vec SpanMember Global) → t.node ≡ variant.Object v → as_object (span_seen t) ≡ Some (members_seen v.items)
object-Object t v is = ap (λ node. as_object (node_seen node t.at)) is ∙ ap as_object (seen-Object v t.at) ∙ ap Some (members_of-object_of (members_seen v.items))

pub list-List : (t : SpanTree) (v : Vec SpanTree Global) → t.node ≡ variant.List v → as_list (span_seen t) ≡ Some (spans_seen v.items)
list-List t v is = ap (λ node. as_list (node_seen node t.at)) is ∙ ap as_list (seen-List v t.at) ∙ ap Some (elements_of-list_of (spans_seen v.items))

object_of_empty : (at : ℕ) (ts : List SpanTree) → ts ≡ [] → as_object (kept.list at (list_of (spans_seen ts))) ≡ Some []
object_of_empty at [] is = refl
object_of_empty at (t ∷ ts) is = cc

object_of_full : (at : ℕ) (ts : List SpanTree) → ts ≢ [] → as_object (kept.list at (list_of (spans_seen ts))) ≡ None
object_of_full at [] not = absurd (not refl)
object_of_full at (t ∷ ts) not = refl

pub object-List : (t : SpanTree) (v : Vec SpanTree Global) → t.node ≡ variant.List v → v.items ≡ [] → as_object (span_seen t) ≡ Some []
object-List t v is empty = ap (λ node. as_object (node_seen node t.at)) is ∙ ap as_object (seen-List v t.at) ∙ object_of_empty t.at v.items empty

pub object-full : (t : SpanTree) (v : Vec SpanTree Global) → t.node ≡ variant.List v → v.items ≢ [] → as_object (span_seen t) ≡ None
object-full t v is full = ap (λ node. as_object (node_seen node t.at)) is ∙ ap as_object (seen-List v t.at) ∙ object_of_full t.at v.items full

list_of_empty : (at : ℕ) (ms : List SpanMember) → ms ≡ [] → as_list (kept.object at (object_of (members_seen ms))) ≡ Some []
list_of_empty at [] is = refl
list_of_empty at (m ∷ ms) is = cc

list_of_full : (at : ℕ) (ms : List SpanMember) → ms ≢ [] → as_list (kept.object at (object_of (members_seen ms))) ≡ None
list_of_full at [] not = absurd (not refl)
list_of_full at (m ∷ ms) not = refl

pub list-Object : (t : SpanTree) (v : Vec SpanMember Global) → t.node ≡ variant.Object v → v.items ≡ [] → as_list (span_seen t) ≡ Some []
list-Object t v is empty = ap (λ node. as_list (node_seen node t.at)) is ∙ ap as_list (seen-Object v t.at) ∙ list_of_empty t.at v.items empty

pub list-full : (t : SpanTree) (v : Vec SpanMember Global) → t.node ≡ variant.Object v → v.items ≢ [] → as_list (span_seen t) ≡ None
list-full t v is full = ap (λ node. as_list (node_seen node t.at)) is ∙ ap as_list (seen-Object v t.at) ∙ list_of_full t.at v.items full

-- a list of no elements
pub empty_items : {X : Type 0} (xs : List X) → length xs ≡ 0 → xs ≡ []
empty_items [] is = refl
empty_items (x ∷ xs) is = absurd (omega (arith, is))

pub full_items : {X : Type 0} (xs : List X) → length xs ≢ 0 → xs ≢ []
full_items xs not is = not (ap length is)

-- ---- UTF-8
pub utf8_is : (bytes text : List ℕ) → (text ≡ bytes) × IsUtf8 bytes → Some text ≡ if_utf8 bytes
utf8_is bytes text h = ap Some h.0 ∙ sym (ap (λ b. cond b (Some bytes) None) (is_utf8-from_IsUtf8 bytes h.1))

not_true : (b : Bool) (bytes : List ℕ) → (b ≡ true → ⊥) → cond b (Some bytes) None ≡ None
not_true true bytes h = absurd (h refl)
not_true false bytes h = refl

pub utf8_not : (bytes : List ℕ) → ¬ (IsUtf8 bytes) → None ≡ if_utf8 bytes
utf8_not bytes h = sym (not_true (is_utf8 bytes) bytes (λ e. h (IsUtf8-from_is_utf8 bytes e)))
