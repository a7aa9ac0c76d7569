-- What edits name, noted in lists edit by edit.
use Rattle.std.proofs.Common.{◌≡◌, ◌∙◌, ◌<◌, ◌≤◌, ◌+◌, ℕ, Bool, true, false, List, Vec, length, drop, get_or, refl, ap, sym, subst, arith}
use Rattle.std.specs.Prelude.{◌==◌, ◌||◌, ◌&&◌}
use Rattle.std.specs.Global.{Global}
use Rattle.std.specs.List.{list_any}
use Rattle.std.proofs.lemmas.Bool.{or_right}
use Rattle.plan_base.specs.declared.ids.NodeId.{NodeId}
use Rattle.plan_base.proofs.Walks.{next, drop_all}
use Rattle.plan_base.proofs.Bools.{or_false}
use Rattle.data_edit.specs.declared.edits.Edit.{Edit}
use Rattle.graph_store.specs.Lists.{has_node, list_at, Rise, Widen}
use Rattle.graph_store.proofs.PutLemmas.{widen_more, widen_same}

-- both of two numbers are these
pub same_pair : (a b c d : ℕ) → ((a == b) && (c == d)) ≡ true → (a ≡ b) × (c ≡ d)
same_pair a b c d both = split (a == b) (c == d) refl refl both
  where
    split : (p q : Bool) → (a == b) ≡ p → (c == d) ≡ q → (p && q) ≡ true → (a ≡ b) × (c ≡ d)
    split true true first second is = (grind (arith, first), grind (arith, second))
    split true false first second is = absurd cc
    split false q first second is = absurd cc

-- What is noted so far of what edits name: numbers of things, each in the list of a number. Those of the edits to come may be
-- missing.
pub record NotedSoFar (of : ℕ → ℕ → Edit → Bool) (first count : ℕ) (edits : List Edit) (old : List (Vec NodeId Global)) (i : ℕ) (now : List (Vec NodeId Global)) : Type 0 where
  pub widen : Widen old now
  pub rise : (k : ℕ) → k < length now → Rise (list_at now k)
  pub noted : (r x : ℕ) → list_any (of r x) edits ≡ true → r < count → x < length old → (has_node (list_at now x) (first + r) || list_any (of r x) (drop i edits)) ≡ true

pub noted_first : (of : ℕ → ℕ → Edit → Bool) (first count : ℕ) (edits : List Edit) (old : List (Vec NodeId Global)) → ((k : ℕ) → k < length old → Rise (list_at old k)) → NotedSoFar of first count edits old 0 old
noted_first of first count edits old rise = record { widen = widen_same old; rise = rise; noted = λ r x named _ _. or_right (has_node (list_at old x) (first + r)) (list_any (of r x) edits) named }

one_more : (before now here rest : Bool) → (before ≡ true → now ≡ true) → (here ≡ true → now ≡ true) → (before || (here || rest)) ≡ true → (now || rest) ≡ true
one_more true now here rest kept put is = ap (λ b. b || rest) (kept refl)
one_more false now true rest kept put is = ap (λ b. b || rest) (put refl)
one_more false now false rest kept put is = or_right now rest is

pub noted_more : (of : ℕ → ℕ → Edit → Bool) (first count : ℕ) (edits : List Edit) (old : List (Vec NodeId Global)) (i : ℕ) (edit : Edit) (now new : List (Vec NodeId Global)) → i < length edits → edit ≡ get_or edits i edit → Widen now new
    → ((r x : ℕ) → of r x edit ≡ true → r < count → x < length now → has_node (list_at new x) (first + r) ≡ true) → NotedSoFar of first count edits old i now → NotedSoFar of first count edits old (i + 1) new
noted_more of first count edits old i edit now new within is widen put before = record {
  widen = widen_more old now new before.widen widen;
  rise = λ k inside.
      let small : k < length now = subst (λ n. k < n) widen.as_long inside in
      widen.rise k small (before.rise k small);
  noted = λ r x named few small.
      one_more (has_node (list_at now x) (first + r)) (has_node (list_at new x) (first + r)) (of r x edit) (list_any (of r x) (drop (i + 1) edits))
      (widen.kept x (first + r)) (λ here. put r x here few (subst (λ n. x < n) (sym before.widen.as_long) small))
      (ap (λ l. has_node (list_at now x) (first + r) || list_any (of r x) l) (sym (next edits i edit within is)) ∙ before.noted r x named few small);
}

pub noted_last : (of : ℕ → ℕ → Edit → Bool) (first count : ℕ) (edits : List Edit) (old : List (Vec NodeId Global)) (i : ℕ) (now : List (Vec NodeId Global)) → length edits ≤ i → NotedSoFar of first count edits old i now
    → (r x : ℕ) → list_any (of r x) edits ≡ true → r < count → x < length old → has_node (list_at now x) (first + r) ≡ true
noted_last of first count edits old i now end before r x named few small =
    sym (or_false (has_node (list_at now x) (first + r))) ∙ ap (λ l. has_node (list_at now x) (first + r) || list_any (of r x) l) (sym (drop_all edits i end)) ∙ before.noted r x named few small
