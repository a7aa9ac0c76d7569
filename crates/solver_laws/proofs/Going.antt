-- The rule goes on from each trail until a basis is settled, and in one way.
use Rattle.std.specs.Prelude.{◌≡◌, ℕ, zero, suc, ◌+◌, ◌<◌, ◌≤◌, List, [], ◌∷◌, ◌++◌, length}
use Rattle.std.proofs.Common.{refl, sym, subst, arith, inl, inr, length-append}
use Rattle.linear_table.specs.Answer.{last_basis}
use Rattle.linear_table.specs.Basis.{system_of}
use Rattle.linear_table.specs.Count.{choose}
use Rattle.linear_table.specs.Exchanged.{exchanged}
use Rattle.linear_table.specs.Plans.{IsWellFormed, good_count, column_count}
use Rattle.linear_table.specs.System.{AreEntries, Entries, IsBasis, IsSound, System}
use Rattle.linear_table.specs.Trail.{IsNext, IsSettled, IsTrail, IsTrailFrom, Move, basis_after, first_basis}
use Rattle.linear_table.specs.declared.Linear.{Linear}
use Rattle.linear_table.proofs.Count.{trail_below_choose}
use Rattle.linear_table.proofs.Extend.{trail_more}
use Rattle.linear_table.proofs.First.{first_is_basis}
use Rattle.linear_table.proofs.Laws.{bases_on_trail, values_on_trail}
use Rattle.linear_table.proofs.Next.{decide_settled, next_alone, next_is_there}
use Rattle.linear_table.proofs.NoRepeat.{next_is_basis}
use Rattle.linear_table.proofs.Settled.{system_sound}
use Rattle.linear_table.proofs.Steps.{are_entries_of, entries_alone, entries_of}
use Rattle.solver_laws.specs.Whole.{IsWhole}

abbrev choices : Linear → ℕ
choices l = choose (good_count l + column_count l) (good_count l)

pub fewer : (l : Linear) (ms : List Move) → IsWellFormed l → IsTrail (system_of l) ms → length ms < choices l
fewer l ms well trail = trail_below_choose (system_of l) ms (system_sound l well) trail

-- one exchange more comes nearer to the number of choices
nearer : (bound n left m : ℕ) → bound ≤ n + suc left → m ≡ n + 1 → bound ≤ m + left
nearer bound n left m h e = omega arith

past : (bound n : ℕ) → bound ≤ n + zero → n < bound → ⊥
past bound n h lt = omega arith

goes_on : (l : Linear) (left : ℕ) (ms : List Move) → IsWellFormed l → IsTrail (system_of l) ms → choices l ≤ length ms + left → (ks : List Move) × IsWhole l ks
goes_on l zero ms well trail h = absurd (past (choices l) (length ms) h (fewer l ms well trail))
goes_on l (suc left) ms well trail h =
    let s : System = system_of l in
    let sound : IsSound s = system_sound l well in
    let b : List ℕ = last_basis l ms in
    let basis : IsBasis s b = bases_on_trail s ms sound trail (length ms) in
    let e : Entries = entries_of s b basis in
    let are : AreEntries s b e = are_entries_of s b basis in
    elim (decide_settled s b e) [
      | inl settled ↦ (ms, record { trail = trail; entries = e; are_entries = are; settled = settled })
      | inr not ↦
          let next = next_is_there s b e sound basis are (values_on_trail s ms sound trail (length ms) e are) not in
          goes_on l left (ms ++ next.0 ∷ []) well (trail_more s (first_basis s) ms next.0 trail next.1) (nearer (choices l) (length ms) left (length (ms ++ next.0 ∷ [])) h (length-append ms (next.0 ∷ [])))
    ]

pub ends : (l : Linear) → IsWellFormed l → (ms : List Move) × IsWhole l ms
ends l well = goes_on l (choices l) [] well tt (omega arith)

-- ---- one whole trail
record SettledAt (s : System) (b : List ℕ) : Type 0 where
  entries : Entries
  are_entries : AreEntries s b entries
  settled : IsSettled s b entries

-- a settled basis has no next exchange
no_next : (s : System) (b : List ℕ) (m : Move) → IsBasis s b → SettledAt s b → IsNext s b m → ⊥
no_next s b m basis at next =
    next.not_settled (subst (λ (e : Entries). IsSettled s b e) (entries_alone s b b at.entries next.entries basis at.are_entries next.are_entries (λ c h. h)) at.settled)

same_move : (m k : Move) → (m.enter ≡ k.enter) × (m.leave ≡ k.leave) → m ≡ k
same_move m k h = λ i. record { enter = h.0 i; leave = h.1 i }

same_lists : (m k : Move) (ms ks : List Move) → m ≡ k → ms ≡ ks → m ∷ ms ≡ k ∷ ks
same_lists m k ms ks e h = cc

alone_from : (s : System) (b : List ℕ) (ms ks : List Move) → IsBasis s b → IsTrailFrom s b ms → IsTrailFrom s b ks → SettledAt s (basis_after b ms (length ms)) → SettledAt s (basis_after b ks (length ks)) → ms ≡ ks
alone_from s b [] [] basis t u p q = refl
alone_from s b [] (k ∷ ks) basis t u p q = absurd (no_next s b k basis p u.0)
alone_from s b (m ∷ ms) [] basis t u p q = absurd (no_next s b m basis q t.0)
alone_from s b (m ∷ ms) (k ∷ ks) basis t u p q =
    let same : m ≡ k = same_move m k (next_alone s b m k basis t.0 u.0) in
    let u' : IsTrailFrom s (exchanged m.enter m.leave b) ks = subst (λ (j : Move). IsTrailFrom s (exchanged j.enter j.leave b) ks) (sym same) u.1 in
    let q' : SettledAt s (basis_after (exchanged m.enter m.leave b) ks (length ks)) = subst (λ (j : Move). SettledAt s (basis_after (exchanged j.enter j.leave b) ks (length ks))) (sym same) q in
    same_lists m k ms ks same (alone_from s (exchanged m.enter m.leave b) ms ks (next_is_basis s b m basis t.0) t.1 u' p q')

pub alone : (l : Linear) (ms ks : List Move) → IsWellFormed l → IsWhole l ms → IsWhole l ks → ms ≡ ks
alone l ms ks well one other =
    let s : System = system_of l in
    alone_from s (first_basis s) ms ks (first_is_basis s (system_sound l well)) one.trail other.trail
    (record { entries = one.entries; are_entries = one.are_entries; settled = one.settled })
    (record { entries = other.entries; are_entries = other.are_entries; settled = other.settled })
