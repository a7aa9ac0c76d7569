-- A node that comes in gets the new round's number, and the others keep what they have.
use Rattle.std.proofs.Common.{◌+◌, List, ℕ, sym, ◌∙◌, subst, arith}
use Rattle.std.proofs.lemmas.Bool.{false≢true}
use Rattle.reach_ranks.specs.Rounds.{world_under}
use Rattle.reach_ranks.proofs.Between.{IsBetween, between-in, between-out, between-held}
use Rattle.reach_ranks.proofs.by_rounds.add_round.Goals as goal
use Rattle.reach_ranks.proofs.by_rounds.add_round.Goals.{then-ranks-n-eq0+then-comes_in, else-ranks-n-eq0, else-ranks-n-eq0-via-then-ranks-n-eq0+else-comes_in, else-ranks-n-eq0-via-else-ranks-n-eq0}

pub loop-n-preserved : goal.loop-n-preserved
loop-n-preserved g c =
    let w0 = world_under (g.R.Rows.rows c.args.rows.now) c.args.marks in
    let old = c.loop-n.invariant.between in
    elim c.if-ranks-n-eq0.branch [
      | then-ranks-n-eq0+then-comes_in w ↦ record {
        between = subst
            (λ (xs : List ℕ). IsBetween w0 c.args.k (c.loop-n.n + 1) xs)
            (sym w.ranks-is)
            (between-in w0 c.requires.marks c.args.k c.loop-n.n c.loop-n.ranks old (omega arith) w.if-ranks-n-eq0.true (sym w.comes_in.ensures.comes ∙ w.if-comes_in.true));
        same = λ e. absurd (false≢true (sym e ∙ w.grew-is));
        later = omega (arith, c.loop-n.invariant.later, w.comes_in.ensures.later, w.steps-is);
      }
      | else-ranks-n-eq0 w ↦ record {
        between = subst
            (λ (xs : List ℕ). IsBetween w0 c.args.k (c.loop-n.n + 1) xs)
            (sym w.ranks-is)
            (elim w.else-ranks-n-eq0.branch [
              | else-ranks-n-eq0-via-then-ranks-n-eq0+else-comes_in v ↦ between-out w0 c.requires.marks c.args.k c.loop-n.n c.loop-n.ranks old v.if-ranks-n-eq0.true (sym v.comes_in.ensures.comes ∙ v.if-comes_in.false)
              | else-ranks-n-eq0-via-else-ranks-n-eq0 v ↦ let some = v.if-ranks-n-eq0.false in between-held w0 c.args.k c.loop-n.n c.loop-n.ranks old (omega arith)
            ]);
        same = λ e. w.ranks-is ∙ c.loop-n.invariant.same (sym w.grew-is ∙ e);
        later = elim w.else-ranks-n-eq0.branch [
          | else-ranks-n-eq0-via-then-ranks-n-eq0+else-comes_in v ↦ omega (arith, w.steps-is, v.steps-is, v.comes_in.ensures.later, c.loop-n.invariant.later)
          | else-ranks-n-eq0-via-else-ranks-n-eq0 v ↦ omega (arith, w.steps-is, v.steps-is, c.loop-n.invariant.later)
        ];
      }
    ]
