-- A tree that owns its texts, piece by piece.
use Rattle.std.proofs.Common.{◌≡◌, ◌∙◌, ℕ, suc, ◌+◌, ◌<◌, List, [], ◌∷◌, ◌++◌, length, get_or, drop, refl, ap, sym, subst, true, add-one, append_assoc, rules, Vec}
use Rattle.std.specs.Str.{is_utf8}
use Rattle.std.specs.declared.alloc.Global.{Global}
use Rattle.std.proofs.Math.Seq.{drop-cons}
use Rattle.json_text.specs.Kept.{Kept}
use Rattle.json_text.specs.Kept as k
use Rattle.json_text.specs.Machine.{list_of, object_of}
use Rattle.json_text.specs.Seen.{seen, seen_node, all_seen, members_seen}
use Rattle.json_text.specs.SpanSeen.{span_seen, spans_seen, text_seen, members_seen as lent_members_seen}
use Rattle.json_text.specs.Textual.{IsTextual, AreTextual, MembersAreTextual}
use Rattle.json_text.specs.declared.tree.Tree.{Tree}
use Rattle.json_text.specs.declared.tree.JsonNode.{the_lemmas as own_lemmas}
use Rattle.json_text.specs.declared.tree.JsonNode.TheVariants as own
use Rattle.json_text.specs.declared.span.SpanTree.{SpanTree}
use Rattle.json_text.specs.declared.span.SpanMember.{SpanMember}

pub own-Number : (t : List ℕ) (at : ℕ) → seen_node (own.Number t) at ≡ k.number at t
own-Number t at = search (rules, own_lemmas)

pub own-Str : (t : List ℕ) (at : ℕ) → seen_node (own.Str t) at ≡ k.string at t
own-Str t at = search (rules, own_lemmas)

pub own-List : (v : Vec Tree Global) (at : ℕ) → seen_node (own.List v) at ≡ k.list at (list_of (all_seen v.items))
own-List v at = search (rules, own_lemmas)

pub own-Object : (v : Vec (List ℕ × Tree) Global) (at : ℕ) → seen_node (own.Object v) at ≡ k.object at (object_of (members_seen v.items))
own-Object v at = search (rules, own_lemmas)

cut : {A : Type 0} (ts : List A) (i : ℕ) (x : A) → i < length ts → x ≡ get_or ts i x → drop i ts ≡ x ∷ drop (i + 1) ts
cut ts i x lt is = drop-cons ts i x lt ∙ ap (λ y. y ∷ drop (suc i) ts) (sym is) ∙ ap (λ m. x ∷ drop m ts) (sym (add-one i))

pub element_textual : (ts : List SpanTree) (i : ℕ) (x : SpanTree) → i < length ts → x ≡ get_or ts i x → AreTextual (list_of (spans_seen (drop i ts))) → IsTextual (span_seen x) × AreTextual (list_of (spans_seen (drop (i + 1) ts)))
element_textual ts i x lt is h = subst (λ y. AreTextual (list_of (spans_seen y))) (cut ts i x lt is) h

pub member_textual : (ms : List SpanMember) (i : ℕ) (x : SpanMember) → i < length ms → x ≡ get_or ms i x → MembersAreTextual (object_of (lent_members_seen (drop i ms)))
    → (is_utf8 (text_seen x.key) ≡ true) × IsTextual (span_seen x.value) × MembersAreTextual (object_of (lent_members_seen (drop (i + 1) ms)))
member_textual ms i x lt is h = subst (λ y. MembersAreTextual (object_of (lent_members_seen y))) (cut ms i x lt is) h

all_seen-push : (ts : List Tree) (t : Tree) → all_seen (ts ++ t ∷ []) ≡ all_seen ts ++ seen t ∷ []
all_seen-push [] t = refl
all_seen-push (s ∷ ts) t = ap (λ vs. seen s ∷ vs) (all_seen-push ts t)

members_seen-push : (ms : List (List ℕ × Tree)) (m : List ℕ × Tree) → members_seen (ms ++ m ∷ []) ≡ members_seen ms ++ (m.0, seen m.1) ∷ []
members_seen-push [] m = refl
members_seen-push (n ∷ ms) m = ap (λ vs. (n.0, seen n.1) ∷ vs) (members_seen-push ms m)

pub element_copied : (copies : List Tree) (copy : Tree) (ts : List SpanTree) (i : ℕ) (x : SpanTree) → i < length ts → x ≡ get_or ts i x → seen copy ≡ span_seen x → all_seen copies ++ spans_seen (drop i ts) ≡ spans_seen ts
    → all_seen (copies ++ copy ∷ []) ++ spans_seen (drop (i + 1) ts) ≡ spans_seen ts
element_copied copies copy ts i x lt is e h =
    ap (λ y. y ++ spans_seen (drop (i + 1) ts)) (all_seen-push copies copy) ∙ append_assoc (all_seen copies) (seen copy ∷ []) (spans_seen (drop (i + 1) ts))
    ∙ ap (λ v. all_seen copies ++ (v ∷ spans_seen (drop (i + 1) ts))) e ∙ ap (λ y. all_seen copies ++ spans_seen y) (sym (cut ts i x lt is)) ∙ h

pub member_copied : (copies : List (List ℕ × Tree)) (key : List ℕ) (copy : Tree) (ms : List SpanMember) (i : ℕ) (x : SpanMember) → i < length ms → x ≡ get_or ms i x → key ≡ text_seen x.key → seen copy ≡ span_seen x.value
    → members_seen copies ++ lent_members_seen (drop i ms) ≡ lent_members_seen ms → members_seen (copies ++ (key, copy) ∷ []) ++ lent_members_seen (drop (i + 1) ms) ≡ lent_members_seen ms
member_copied copies key copy ms i x lt is f e h =
    ap (λ y. y ++ lent_members_seen (drop (i + 1) ms)) (members_seen-push copies (key, copy)) ∙ append_assoc (members_seen copies) ((key, seen copy) ∷ []) (lent_members_seen (drop (i + 1) ms))
    ∙ ap (λ y. members_seen copies ++ ((y, seen copy) ∷ lent_members_seen (drop (i + 1) ms))) f ∙ ap (λ v. members_seen copies ++ ((text_seen x.key, v) ∷ lent_members_seen (drop (i + 1) ms))) e
    ∙ ap (λ y. members_seen copies ++ lent_members_seen y) (sym (cut ms i x lt is)) ∙ h
