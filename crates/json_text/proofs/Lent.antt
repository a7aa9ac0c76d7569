-- Where the texts of a lent tree stand, piece by piece.
use Rattle.std.proofs.Common.{◌≡◌, ◌∙◌, ℕ, ◌+◌, ◌<◌, ◌≤◌, List, [], ◌∷◌, ◌++◌, length, refl, ap, sym, subst, rules, arith, Vec, append-nil}
use Rattle.std.specs.Prelude.{map, flat_map, slice_range}
use Rattle.std.proofs.lemmas.Grind.{flat_map-append}
use Rattle.std.specs.declared.alloc.Global.{Global}
use Rattle.json_text.specs.Lending.{Part, number, string, key, node_parts, node_step, member_step, tree_step, parts, all_parts, member_parts, StandsIn, AllStandIn, IsLentFrom, IsStringAt, IsColon, IsKeyBefore}
use Rattle.json_text.specs.declared.span.SpanTree.{SpanTree}
use Rattle.json_text.specs.declared.span.SpanMember.{SpanMember, fold-SpanMember}
use Rattle.json_text.specs.declared.span.SpanText.{SpanText}
use Rattle.json_text.specs.declared.span.SpanNode.{the_lemmas}
use Rattle.json_text.specs.declared.span.SpanNode.TheVariants as variant
use Rattle.json_text.proofs.Steps.{slice-length}

pub parts-Number : (s : _) (at : ℕ) → node_parts (variant.Number s) at ≡ number at s.now ∷ []
parts-Number s at = search (rules, the_lemmas)

pub parts-Str : (t : SpanText) (at : ℕ) → node_parts (variant.Str t) at ≡ string at t ∷ []
parts-Str t at = search (rules, the_lemmas)

pub parts-Skipped : (at : ℕ) → node_parts variant.Skipped at ≡ []
parts-Skipped at = search (rules, the_lemmas)

with_places : (ts : List SpanTree) → flat_map (λ (t : ℕ × List Part). t.1) (map (λ (t : SpanTree). (t.at, parts t)) ts) ≡ all_parts ts
with_places [] = refl
with_places (t ∷ ts) = ap (λ x. parts t ++ x) (with_places ts)

list-parts : (v : Vec SpanTree Global) (at : ℕ) → node_parts (variant.List v) at ≡ flat_map (λ (t : ℕ × List Part). t.1) (map (λ (t : SpanTree). (t.at, parts t)) v.items)
list-parts v at = search (rules, the_lemmas)

pub parts-List : (v : Vec SpanTree Global) (at : ℕ) → node_parts (variant.List v) at ≡ all_parts v.items
parts-List v at = list-parts v at ∙ with_places v.items

of_member : SpanMember → List Part
of_member = fold-SpanMember (ℕ → List Part) (List Part) (ℕ × List Part) node_step member_step tree_step

member-parts : (m : SpanMember) → of_member m ≡ key m.key m.value.at ∷ parts m.value
unfolding of_member
member-parts m = search (rules, the_lemmas)

of_members : (ms : List SpanMember) → flat_map (λ parts. parts) (map of_member ms) ≡ member_parts ms
of_members [] = refl
of_members (m ∷ ms) = ap (λ x. x ++ flat_map (λ parts. parts) (map of_member ms)) (member-parts m) ∙ ap (λ x. key m.key m.value.at ∷ (parts m.value ++ x)) (of_members ms)

object-parts : (v : Vec SpanMember Global) (at : ℕ) → node_parts (variant.Object v) at ≡ flat_map (λ parts. parts) (map of_member v.items)
unfolding of_member
object-parts v at = search (rules, the_lemmas)

pub parts-Object : (v : Vec SpanMember Global) (at : ℕ) → node_parts (variant.Object v) at ≡ member_parts v.items
parts-Object v at = object-parts v at ∙ of_members v.items

all_append : (bytes : List ℕ) (ps qs : List Part) → AllStandIn bytes ps → AllStandIn bytes qs → AllStandIn bytes (ps ++ qs)
all_append bytes [] qs h g = g
all_append bytes (p ∷ ps) qs h g = (h.0, all_append bytes ps qs h.1 g)

pub lent_element : (bytes : List ℕ) (ts : List SpanTree) (t : SpanTree) → AllStandIn bytes (all_parts ts) → IsLentFrom bytes t → AllStandIn bytes (all_parts (ts ++ t ∷ []))
lent_element bytes ts t h g = subst (AllStandIn bytes) (sym (flat_map-append parts ts (t ∷ []) ∙ ap (λ x. all_parts ts ++ x) (append-nil (parts t)))) (all_append bytes (all_parts ts) (parts t) h g)

pub lent_member : (bytes : List ℕ) (ms : List SpanMember) (m : SpanMember) → AllStandIn bytes (member_parts ms) → IsKeyBefore bytes m.key m.value.at → IsLentFrom bytes m.value → AllStandIn bytes (member_parts (ms ++ m ∷ []))
lent_member bytes ms m h k g =
    let one : List Part = key m.key m.value.at ∷ parts m.value in
    subst (AllStandIn bytes) (sym (flat_map-append (λ (m : SpanMember). key m.key m.value.at ∷ parts m.value) ms (m ∷ []) ∙ ap (λ x. member_parts ms ++ x) (append-nil one))) (all_append bytes (member_parts ms) one h (k, g))

-- the bytes between two places are those of their length from the first on
pub number_stands : (bytes : List ℕ) (at end : ℕ) → at ≤ end → end ≤ length bytes → StandsIn bytes (number at (slice_range bytes at end))
number_stands bytes at end le within =
    let there : end ≡ at + length (slice_range bytes at end) = omega (arith, slice-length bytes at end le within) in
    ap (slice_range bytes at) there

pub key_before : (bytes : List ℕ) (start end value : ℕ) (text : SpanText) (at : ℕ) → IsStringAt bytes start end text → end < value → IsColon (slice_range bytes (end + 1) value) → at ≡ value → IsKeyBefore bytes text at
key_before bytes start end value text at s lt c e = record {
  start = start;
  end = end;
  string = s;
  order = omega arith;
  colon = subst (λ v. IsColon (slice_range bytes (end + 1) v)) (sym e) c;
}
