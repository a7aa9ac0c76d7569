use Rattle.std.proofs.Common.{◌≡◌, ◌∙◌, ◌≤◌, ◌-◌, ℕ, Bool, List, length, arith, rules, tests, not, sym}
use mathlib.Core.List.{reverse}
use Rattle.std.specs.List.{after_last, suffix_len}
use Rattle.std.proofs.lemmas.Iterator.Adapters.{YieldsList-from_rev_slice}
use Rattle.std.proofs.lemmas.Iterator.Consumers.{count_from_yields_List, YieldsList-at}
use Rattle.std.proofs.lemmas.Iterator.Search.{YieldsList-from_take_while}
use Rattle.std.proofs.lemmas.List.Folds.{length-prefix_len}
use Rattle.std.proofs.lemmas.List.Sums.{suffix_len-le-length}
use Rattle.std.proofs.lemmas.List.{length-drop}
use Rattle.program_runs.specs.Places.{is_newline}
use Rattle.program_runs.proofs.place.behind_newline.Goals as goal

-- as many stand behind the last that passes as don't pass from the end back
behind : (p : ℕ → Bool) (bytes : List ℕ) → suffix_len (λ x. not (p x)) bytes ≡ length (after_last p bytes)
behind p bytes = shorter _ _ (suffix_len-le-length (λ x. not (p x)) bytes) ∙ sym (length-drop (length bytes - suffix_len (λ x. not (p x)) bytes) bytes)
  where
    shorter : (n m : ℕ) → n ≤ m → n ≡ m - (m - n)
    shorter n m small = omega arith

pub returns-clause-count : goal.returns-clause-count
returns-clause-count c =
    count_from_yields_List c.take_while.result _ c.count.ensures.ran
    (YieldsList-from_take_while _ (λ x. not (is_newline x))
    (YieldsList-at c.take_while.ensures.source (YieldsList-from_rev_slice c.args.bytes.now cc))
    c.take_while.ensures.closure c.take_while.ensures.done (λ x r q k. search (rules, tests)))
    ∙ length-prefix_len (λ x. not (is_newline x)) (reverse c.args.bytes.now) ∙ behind is_newline c.args.bytes.now
