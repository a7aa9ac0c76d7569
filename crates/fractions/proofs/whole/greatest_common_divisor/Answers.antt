use Rattle.std.proofs.Common.{◌≡◌, ◌∙◌, ap, sym}
use Rattle.fractions.specs.Gcd.{gcd, gcd-mod, gcd-zero, gcd_pos, gcd-le_right}
use Rattle.fractions.proofs.whole.greatest_common_divisor.Goals as goal

pub loop-b-preserved : goal.loop-b-preserved
loop-b-preserved c = gcd-mod c.loop-b.a c.loop-b.b ∙ c.loop-b.invariant

pub returns-then-b-eq0 : goal.returns-then-b-eq0
returns-then-b-eq0 c =
    let same : c.loop-b.a ≡ gcd c.args.first c.args.second = sym (gcd-zero c.loop-b.a) ∙ (ap (gcd c.loop-b.a) (sym c.if-b-eq0.true) ∙ c.loop-b.invariant) in
    record {
      exact = same;
      positive = λ p. rw same (gcd_pos _ _ p);
      at_most = λ p. rw same (gcd-le_right _ _ p);
    }

pub returns-else-b-eq0 : goal.returns-else-b-eq0
returns-else-b-eq0 c =
    let same : c.small_divisor.result ≡ gcd c.args.first c.args.second = c.small_divisor.ensures.exact ∙ (gcd-mod c.loop-b.a c.loop-b.b ∙ c.loop-b.invariant) in
    record {
      exact = same;
      positive = λ p. rw same (gcd_pos _ _ p);
      at_most = λ p. rw same (gcd-le_right _ _ p);
    }
