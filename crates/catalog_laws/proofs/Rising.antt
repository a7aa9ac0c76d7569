-- Members whose keys rise are read back in their order.
use Rattle.std.proofs.Common.{◌≡◌, ◌∙◌, ℕ, Bool, true, false, List, Some, option_and_then, Ordering, Less, Equal, Greater, refl, ap}
use Rattle.std.specs.Prelude.{◌&&◌, ⊤}
use Rattle.std.specs.Cmp.Lexicographic.{slice_cmp}
use Rattle.std.specs.Ordering.{match_ordering, nat_cmp}
use Rattle.std.proofs.lemmas.Bool.{and_parts}
use Rattle.serde_json.specs.Data.{Data, Members, member, no_members, put}
use Rattle.serde_json.specs.Read.{of_json, of_members}
use Rattle.serde_json.specs.Written.{members_outline, outline}

-- the members, with one more behind them
abbrev with_last : Members → List ℕ → Data → Members
with_last no_members k d = member k d no_members
with_last (member l e ms) k d = member l e (with_last ms k d)

abbrev is_above : Ordering → Bool
is_above Less = false
is_above Equal = false
is_above Greater = true

-- whether a key comes after those of all members
abbrev is_last : List ℕ → Members → Bool
is_last k no_members = true
is_last k (member l e ms) = is_above (slice_cmp nat_cmp k l) && is_last k ms

above_put : (o : Ordering) (a b c : Members) → is_above o ≡ true → match_ordering o a b c ≡ c
above_put Less a b c h = absurd (cc)
above_put Equal a b c h = absurd (cc)
above_put Greater a b c h = refl

put_last : (k : List ℕ) (d : Data) (ms : Members) → is_last k ms ≡ true → put k d ms ≡ with_last ms k d
put_last k d no_members h = refl
put_last k d (member l e ms) h =
    let both = and_parts (is_above (slice_cmp nat_cmp k l)) (is_last k ms) h in
    above_put (slice_cmp nat_cmp k l) (member k d (member l e ms)) (member l d ms) (member l e (put k d ms)) both.0 ∙ ap (member l e) (put_last k d ms both.1)

-- whether the keys of members rise, and come after those of others
abbrev pub rises : Members → Members → Bool
rises found no_members = true
rises found (member k d ms) = is_last k found && rises (with_last found k d) ms

-- members behind others
abbrev pub joined : Members → Members → Members
joined found no_members = found
joined found (member k d ms) = joined (with_last found k d) ms

-- the value of each member reads back
abbrev pub EachReads : Members → Type 0
EachReads no_members = ⊤
EachReads (member k d ms) = (of_json (outline d) ≡ Some d) × EachReads ms

pub members_read : (ms found : Members) → rises found ms ≡ true → EachReads ms → of_members (members_outline ms) found ≡ Some (joined found ms)
members_read no_members found h each = refl
members_read (member k d ms) found h each =
    let both = and_parts (is_last k found) (rises (with_last found k d) ms) h in
    ap (option_and_then (λ e. of_members (members_outline ms) (put k e found))) each.0 ∙ (ap (of_members (members_outline ms)) (put_last k d found both.0) ∙ members_read ms (with_last found k d) both.1 each.1)
