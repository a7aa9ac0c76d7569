use Rattle.std.proofs.Common.{◌≡◌, ℕ, ◌<◌, ◌≤◌, ◌∙◌, ap, sym, arith}
use Rattle.fractions.specs.Gcd.{gcd, gcd-mod, gcd-zero, gcd_pos, gcd_comm, gcd-le_right}
use Rattle.fractions.proofs.whole.small_divisor.Goals as goal
use Rattle.fractions.proofs.Ceiling.{gcd-one}

pub loop-b-preserved : goal.loop-b-preserved
loop-b-preserved c = gcd-mod c.loop-b.a c.loop-b.b ∙ c.loop-b.invariant

result_is : (a b first second : ℕ) → gcd a b ≡ gcd first second → b ≡ 0 → a ≡ gcd first second
result_is a b first second h e = sym (gcd-zero a) ∙ (ap (gcd a) (sym e) ∙ h)

one_is : (a b first second : ℕ) → gcd a b ≡ gcd first second → b ≡ 1 → 1 ≡ gcd first second
one_is a b first second h e = sym (gcd-one a) ∙ (ap (gcd a) (sym e) ∙ h)

record Told (r first second : ℕ) : Type 0 where
  positive : 0 < first → 0 < r
  at_most : 0 < first → r ≤ first
  positive_second : 0 < second → 0 < r
  at_most_second : 0 < second → r ≤ second

told : (r first second : ℕ) → r ≡ gcd first second → Told r first second
told r first second same =
    let turned : r ≡ gcd second first = same ∙ gcd_comm first second in
    record {
      positive = λ p. rw turned (gcd_pos _ _ p);
      at_most = λ p. rw turned (gcd-le_right _ _ p);
      positive_second = λ p. rw same (gcd_pos _ _ p);
      at_most_second = λ p. rw same (gcd-le_right _ _ p);
    }

pub returns-then-b-eq0 : goal.returns-then-b-eq0
returns-then-b-eq0 c =
    let same : c.loop-b.a ≡ gcd c.args.first c.args.second = result_is _ _ _ _ c.loop-b.invariant c.if-b-eq0.true in
    let t : Told c.loop-b.a c.args.first c.args.second = told _ _ _ same in
    record { exact = same; positive = t.positive; at_most = t.at_most; positive_second = t.positive_second; at_most_second = t.at_most_second }

pub returns-else-b-eq0 : goal.returns-else-b-eq0
returns-else-b-eq0 c =
    let same : 1 ≡ gcd c.args.first c.args.second = one_is _ _ _ _ c.loop-b.invariant (omega (arith, c.loop-b-test.false, c.if-b-eq0.false)) in
    let t : Told 1 c.args.first c.args.second = told _ _ _ same in
    record { exact = same; positive = t.positive; at_most = t.at_most; positive_second = t.positive_second; at_most_second = t.at_most_second }
