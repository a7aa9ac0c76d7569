-- Writing in pieces.
use Rattle.std.proofs.Common.{◌≡◌, ◌+◌, ◌++◌, ◌-◌, [], ℕ, List, length, take, drop, rules, refl, ap, ◌∙◌, append_assoc, length-drop}
use Rattle.std.specs.Prelude.{Option, Some, None, Result, Ok, Err, OnErr}
use Rattle.std.specs.Io.KnownBytes.{Appends, Keeps}
use Rattle.std.proofs.lemmas.List.{take-append-drop}
use Rattle.std.proofs.Math.Seq.{take-add, take-length}
use Rattle.std.proofs.lemmas.Grind.{common_steps}
use Rattle.plan_io.specs.Writing.{AppendsFront}

-- nothing was written
pub appends_none : (known : Option (List ℕ)) → Appends known known []
appends_none None = tt
appends_none (Some xs) = search (rules, common_steps)

-- one text, and then another
pub appends_both : (a b c : Option (List ℕ)) (xs ys : List ℕ) → Appends a b xs → Appends b c ys → Appends a c (xs ++ ys)
appends_both None b c xs ys first second = tt
appends_both (Some m) None c xs ys first second = absurd first
appends_both (Some m) (Some n) None xs ys first second = absurd second
appends_both (Some m) (Some n) (Some o) xs ys first second = second ∙ ap (λ t. t ++ ys) first ∙ append_assoc m xs ys

-- `&xs[d..]`
pub rest_is_drop : (xs : List ℕ) (d : ℕ) → take (length xs - d) (drop d xs) ≡ drop d xs
rest_is_drop xs d = rw (← length-drop d xs) (take-length (drop d xs))

-- the next piece of a text
pub appends_piece : (a b c : Option (List ℕ)) (xs : List ℕ) (d n : ℕ) → Appends a b (take d xs) → Appends b c (take n (take (length xs - d) (drop d xs))) → Appends a c (take (d + n) xs)
appends_piece a b c xs d n first second = rw take-add (appends_both a b c _ _ first (rw rest_is_drop at second))

-- a front of a text, after a front
pub front_after : (a b c : Option (List ℕ)) (xs ys zs : List ℕ) → xs ++ ys ≡ zs → Appends a b xs → AppendsFront b c ys → AppendsFront a c zs
front_after a b c xs ys zs whole first (front, rest, is, second) =
    (xs ++ front, rest, append_assoc xs front rest ∙ ap (λ t. xs ++ t) is ∙ whole, appends_both a b c xs front first second)

pub keeps_front : (a : Option (List ℕ)) (xs : List ℕ) → AppendsFront a a xs
keeps_front a xs = ([], xs, refl, appends_none a)

-- a front of a text, where the next piece failed
pub front_kept : (a b c : Option (List ℕ)) (xs : List ℕ) (d : ℕ) → Appends a b (take d xs) → Keeps b c → AppendsFront a c xs
front_kept None b c xs d first kept = (take d xs, drop d xs, take-append-drop d xs, tt)
front_kept (Some m) None c xs d first kept = absurd first
front_kept (Some m) (Some n) None xs d first kept = absurd kept
front_kept (Some m) (Some n) (Some o) xs d first kept = (take d xs, drop d xs, take-append-drop d xs, kept ∙ first)

pub on_err_always : {T E P : Type 0} (r : Result T E) → P → OnErr r P
on_err_always (Ok x) p = tt
on_err_always (Err e) p = p
