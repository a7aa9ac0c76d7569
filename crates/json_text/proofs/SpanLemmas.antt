-- What each node of a lent tree is seen as, and the machine at the keys of an object.
use Rattle.std.proofs.Common.{◌≡◌, ◌∙◌, ℕ, ◌+◌, ◌<◌, ◌≤◌, List, [], ◌∷◌, ◌++◌, length, get_or, refl, ap, rules, arith, Vec, true, false, inl, inr}
use Rattle.std.specs.Prelude.{map, ◌⊎◌, ◌||◌, ◌&&◌, if◌then◌else◌, nat_le}
use Rattle.std.specs.List.{list_any}
use Rattle.std.specs.Str.{bytes_eq}
use Rattle.std.specs.declared.alloc.Global.{Global}
use Rattle.std.proofs.lemmas.Bool.Decides.{nat_tests}
use Rattle.json_text.specs.Kept.{Kept, Wishes, is_among}
use Rattle.json_text.specs.Kept as k
use Rattle.json_text.specs.Accepted.{all_bounds}
use Rattle.json_text.specs.Machine.{State, Frame, fault, from, run, class, faulted, first_element, first_key, colon, string_end, for_key, kept_object, keys_of, list_of, object_of, is_full, go_on, refused, done, done_go}
use Rattle.json_text.specs.SpanSeen.{text_seen, node_seen, member_seen, span_seen, spans_seen, members_seen}
use Rattle.json_text.specs.declared.fault.JsonCode.TheVariants.{TooDeep, Repeated, TooMany, NotJson}
use Rattle.json_text.specs.declared.class.Class.{Class}
use Rattle.json_text.specs.declared.class.Class.TheVariants.{Quote, Zero, Digit, Minus, Letter, Comma, Colon, OpenList, CloseList, OpenObject, CloseObject, Space, Other}
use Rattle.json_text.specs.declared.span.SpanTree.{SpanTree}
use Rattle.json_text.specs.declared.span.SpanMember.{SpanMember}
use Rattle.json_text.specs.declared.span.SpanText.{SpanText}
use Rattle.json_text.specs.declared.span.SpanNode.{the_lemmas}
use Rattle.json_text.specs.declared.span.SpanNode.TheVariants as variant
use Rattle.json_text.proofs.Steps.{from-class, from-faulted, from-refused, first_key_refused, shallow, deep}

pub seen-Str : (t : SpanText) (at : ℕ) → node_seen (variant.Str t) at ≡ k.string at (text_seen t)
seen-Str t at = search (rules, the_lemmas)

pub seen-Skipped : (at : ℕ) → node_seen variant.Skipped at ≡ k.skipped at
seen-Skipped at = search (rules, the_lemmas)

pub seen-List : (v : Vec SpanTree Global) (at : ℕ) → node_seen (variant.List v) at ≡ k.list at (list_of (spans_seen v.items))
seen-List v at = search (rules, the_lemmas)

member-seen : (m : SpanMember) → member_seen m ≡ (text_seen m.key, span_seen m.value)
member-seen m = search (rules, the_lemmas)

all-members : (ms : List SpanMember) → map member_seen ms ≡ members_seen ms
all-members [] = refl
all-members (m ∷ ms) = ap (λ x. x ∷ map member_seen ms) (member-seen m) ∙ ap (λ x. (text_seen m.key, span_seen m.value) ∷ x) (all-members ms)

object-seen : (v : Vec SpanMember Global) (at : ℕ) → node_seen (variant.Object v) at ≡ k.object at (object_of (map member_seen v.items))
object-seen v at = search (rules, the_lemmas)

pub seen-Object : (v : Vec SpanMember Global) (at : ℕ) → node_seen (variant.Object v) at ≡ k.object at (object_of (members_seen v.items))
seen-Object v at = object-seen v at ∙ ap (λ x. k.object at (object_of x)) (all-members v.items)

pub spans_seen-push : (ts : List SpanTree) (t : SpanTree) → spans_seen (ts ++ t ∷ []) ≡ spans_seen ts ++ span_seen t ∷ []
spans_seen-push [] t = refl
spans_seen-push (s ∷ ts) t = ap (λ vs. span_seen s ∷ vs) (spans_seen-push ts t)

pub members_seen-push : (ms : List SpanMember) (m : SpanMember) → members_seen (ms ++ m ∷ []) ≡ members_seen ms ++ (text_seen m.key, span_seen m.value) ∷ []
members_seen-push [] m = refl
members_seen-push (n ∷ ms) m = ap (λ vs. (text_seen n.key, span_seen n.value) ∷ vs) (members_seen-push ms m)

-- the new key and the closing quote
pub from-repeated_key : (w : Wishes) (bytes : List ℕ) (at place n p : ℕ) (ms : List (List ℕ × Kept)) (old s : List ℕ) (fs : List Frame) → is_among (keys_of ms) s ≡ true → from w bytes at (string_end place (for_key (kept_object p ms old)) s n fs) ≡ fault Repeated place
from-repeated_key w bytes at place n p ms old s fs h = ap (λ b. from w bytes at (if b && true then faulted Repeated place else colon n (kept_object p ms s) fs)) h ∙ from-faulted w bytes at Repeated place

pub from-new_key : (w : Wishes) (bytes : List ℕ) (at place n p : ℕ) (ms : List (List ℕ × Kept)) (old s : List ℕ) (fs : List Frame) → is_among (keys_of ms) s ≡ false → from w bytes at (string_end place (for_key (kept_object p ms old)) s n fs) ≡ from w bytes at (colon n (kept_object p ms s) fs)
from-new_key w bytes at place n p ms old s fs h = ap (λ b. from w bytes at (if b && true then faulted Repeated place else colon n (kept_object p ms s) fs)) h

pub full_at : (n : ℕ) → 0x100_0000 ≤ n → nat_le 0x100_0000 n ≡ true
full_at n h = grind (arith, nat_tests)

pub room_at : (n : ℕ) → n < 0x100_0000 → nat_le 0x100_0000 n ≡ false
room_at n h = grind (arith, nat_tests)

-- no room for a first element
abbrev pub IsOpen : Class → Type 0
IsOpen c = (c ≡ OpenList) ⊎ (c ≡ OpenObject)

abbrev pub IsScalarClass : Class → Type 0
IsScalarClass c = (c ≡ Quote) ⊎ ((c ≡ Zero) ⊎ ((c ≡ Digit) ⊎ ((c ≡ Minus) ⊎ (c ≡ Letter))))

pub from-full-open : (w : Wishes) (bytes : List ℕ) (at n : ℕ) (f : Frame) (fs : List Frame) → at < length bytes → IsOpen (class (get_or bytes at 0)) → length fs + 1 < 200 → is_full f n ≡ true → from w bytes at (first_element n f fs) ≡ fault TooMany at
from-full-open w bytes at n f fs lt (inl c) few full = let room : nat_le 200 (length (f ∷ fs)) ≡ false = shallow (length (f ∷ fs)) (omega arith) in from-class w bytes at (first_element n f fs) OpenList lt c ∙ rw (room, full) (from-faulted w bytes (at + 1) TooMany at)
from-full-open w bytes at n f fs lt (inr c) few full = let room : nat_le 200 (length (f ∷ fs)) ≡ false = shallow (length (f ∷ fs)) (omega arith) in from-class w bytes at (first_element n f fs) OpenObject lt c ∙ rw (room, full) (from-faulted w bytes (at + 1) TooMany at)

pub from-full-deep : (w : Wishes) (bytes : List ℕ) (at n : ℕ) (f : Frame) (fs : List Frame) → at < length bytes → IsOpen (class (get_or bytes at 0)) → 200 ≤ length fs + 1 → is_full f n ≡ true → from w bytes at (first_element n f fs) ≡ fault TooDeep at
from-full-deep w bytes at n f fs lt (inl c) many full = let room : nat_le 200 (length (f ∷ fs)) ≡ true = deep (length (f ∷ fs)) (omega arith) in from-class w bytes at (first_element n f fs) OpenList lt c ∙ rw room (from-faulted w bytes (at + 1) TooDeep at)
from-full-deep w bytes at n f fs lt (inr c) many full = let room : nat_le 200 (length (f ∷ fs)) ≡ true = deep (length (f ∷ fs)) (omega arith) in from-class w bytes at (first_element n f fs) OpenObject lt c ∙ rw room (from-faulted w bytes (at + 1) TooDeep at)

pub from-full-scalar : (w : Wishes) (bytes : List ℕ) (at n : ℕ) (f : Frame) (fs : List Frame) → at < length bytes → IsScalarClass (class (get_or bytes at 0)) → is_full f n ≡ true → from w bytes at (first_element n f fs) ≡ fault TooMany at
from-full-scalar w bytes at n f fs lt (inl c) full = from-class w bytes at (first_element n f fs) Quote lt c ∙ rw full (from-faulted w bytes (at + 1) TooMany at)
from-full-scalar w bytes at n f fs lt (inr (inl c)) full = from-class w bytes at (first_element n f fs) Zero lt c ∙ rw full (from-faulted w bytes (at + 1) TooMany at)
from-full-scalar w bytes at n f fs lt (inr (inr (inl c))) full = from-class w bytes at (first_element n f fs) Digit lt c ∙ rw full (from-faulted w bytes (at + 1) TooMany at)
from-full-scalar w bytes at n f fs lt (inr (inr (inr (inl c)))) full = from-class w bytes at (first_element n f fs) Minus lt c ∙ rw full (from-faulted w bytes (at + 1) TooMany at)
from-full-scalar w bytes at n f fs lt (inr (inr (inr (inr c)))) full = from-class w bytes at (first_element n f fs) Letter lt c ∙ rw full (from-faulted w bytes (at + 1) TooMany at)

other_first : (w : Wishes) (p n : ℕ) (f : Frame) (fs : List Frame) (b : ℕ) (c : Class) → (c ≡ Space → ⊥) → (c ≡ CloseList → ⊥) → (IsOpen c → ⊥) → (IsScalarClass c → ⊥) → go_on w p (first_element n f fs) b c ≡ refused NotJson
other_first w p n f fs b Quote s k o v = absurd (v (inl refl))
other_first w p n f fs b Zero s k o v = absurd (v (inr (inl refl)))
other_first w p n f fs b Digit s k o v = absurd (v (inr (inr (inl refl))))
other_first w p n f fs b Minus s k o v = absurd (v (inr (inr (inr (inl refl)))))
other_first w p n f fs b Letter s k o v = absurd (v (inr (inr (inr (inr refl)))))
other_first w p n f fs b Comma s k o v = refl
other_first w p n f fs b Colon s k o v = refl
other_first w p n f fs b OpenList s k o v = absurd (o (inl refl))
other_first w p n f fs b CloseList s k o v = absurd (k refl)
other_first w p n f fs b OpenObject s k o v = absurd (o (inr refl))
other_first w p n f fs b CloseObject s k o v = refl
other_first w p n f fs b Space s k o v = absurd (s refl)
other_first w p n f fs b Other s k o v = refl

pub from-full-other : (w : Wishes) (bytes : List ℕ) (at n : ℕ) (f : Frame) (fs : List Frame) → at < length bytes → (class (get_or bytes at 0) ≡ Space → ⊥) → (class (get_or bytes at 0) ≡ CloseList → ⊥) → (IsOpen (class (get_or bytes at 0)) → ⊥) → (IsScalarClass (class (get_or bytes at 0)) → ⊥)
    → from w bytes at (first_element n f fs) ≡ fault NotJson at
from-full-other w bytes at n f fs lt s k o v = from-refused w bytes at (first_element n f fs) NotJson lt (other_first w at n f fs (get_or bytes at 0) (class (get_or bytes at 0)) s k o v)

pub from-full-key : (w : Wishes) (bytes : List ℕ) (at n : ℕ) (f : Frame) (fs : List Frame) → at < length bytes → class (get_or bytes at 0) ≡ Quote → is_full f n ≡ true → from w bytes at (first_key n f fs) ≡ fault TooMany at
from-full-key w bytes at n f fs lt c full = from-class w bytes at (first_key n f fs) Quote lt c ∙ rw full (from-faulted w bytes (at + 1) TooMany at)

pub from-no-key : (w : Wishes) (bytes : List ℕ) (at n : ℕ) (f : Frame) (fs : List Frame) → at < length bytes → (class (get_or bytes at 0) ≡ Space → ⊥) → (class (get_or bytes at 0) ≡ CloseObject → ⊥) → (class (get_or bytes at 0) ≡ Quote → ⊥) → from w bytes at (first_key n f fs) ≡ fault NotJson at
from-no-key w bytes at n f fs lt s k q = from-refused w bytes at (first_key n f fs) NotJson lt (first_key_refused w at n f fs (get_or bytes at 0) (class (get_or bytes at 0)) s k q)

-- the test that the code makes on the keys
pub has_key-seen : (key : List ℕ) (ms : List SpanMember) → list_any (λ m. bytes_eq (text_seen m.key) key) ms ≡ is_among (keys_of (members_seen ms)) key
has_key-seen key [] = refl
has_key-seen key (m ∷ ms) = ap (λ b. bytes_eq (text_seen m.key) key || b) (has_key-seen key ms)

-- the whole text
pub from-first : (w : Wishes) (bytes : List ℕ) (σ : State) → from w bytes 0 σ ≡ run all_bounds w 0 σ bytes
unfolding from
from-first w bytes σ = refl

done_on : (v : Kept) (c : Class) → (c ≡ Space → ⊥) → done_go v c ≡ refused NotJson
done_on v Quote s = refl
done_on v Zero s = refl
done_on v Digit s = refl
done_on v Minus s = refl
done_on v Letter s = refl
done_on v Comma s = refl
done_on v Colon s = refl
done_on v OpenList s = refl
done_on v CloseList s = refl
done_on v OpenObject s = refl
done_on v CloseObject s = refl
done_on v Space s = absurd (s refl)
done_on v Other s = refl

pub from-done-refused : (w : Wishes) (bytes : List ℕ) (at : ℕ) (v : Kept) → at < length bytes → (class (get_or bytes at 0) ≡ Space → ⊥) → from w bytes at (done v) ≡ fault NotJson at
from-done-refused w bytes at v lt s = from-refused w bytes at (done v) NotJson lt (done_on v (class (get_or bytes at 0)) s)

pub seen-Number : (s : _) (at : ℕ) → node_seen (variant.Number s) at ≡ k.number at s.now
seen-Number s at = search (rules, the_lemmas)
