-- The base world's ranks agree in the new world but for the milestone, and the new ranks are the only ones.
use Rattle.std.proofs.Common.{◌∙◌, List, ℕ, ap, length, subst, sym, arith}
use Rattle.std.proofs.lemmas.Bool.{eqb-false, or_parts}
use Rattle.std.specs.Prelude.{Some, None, ◌∷◌, [], false, ◌==◌}
use Rattle.reach_ranks.specs.Rounds.{world}
use Rattle.reach_ranks.specs.Ranks.{Agrees}
use Rattle.reach_ranks.proofs.RankLemmas.{Agrees-from_ranks}
use Rattle.milestone_masks.proofs.WorldLemmas.{agrees-barred, size-same}
use Rattle.milestone_masks.proofs.additions.add.Goals as goal

pub repair-requires-clause-agree : goal.repair-requires-clause-agree
repair-requires-clause-agree g c = record {
  as_long = ap length c.in-Ok.ensures ∙ c.requires.base.as_long;
  each = λ n inside h.
      subst
      (λ (ranks : List ℕ). Agrees (world (g.R.Rows.rows c.args.rows.now) c.args.marks.barred.now c.args.marks.granted.now (Some c.args.node)) ranks n)
      (sym c.in-Ok.ensures)
      (agrees-barred
      (g.R.Rows.rows c.args.rows.now)
      c.args.marks.barred.now
      c.args.marks.granted.now
      c.args.node
      n
      c.args.base.now
      (eqb-false c.args.node.0 n (or_parts (c.args.node.0 == n) false h).0)
      (Agrees-from_ranks
      (world (g.R.Rows.rows c.args.rows.now) c.args.marks.barred.now c.args.marks.granted.now None)
      c.requires.marks
      c.args.base.now
      c.requires.base
      n));
}

pub returns-in_default-insert-clause-steps : goal.returns-in_default-insert-clause-steps
returns-in_default-insert-clause-steps g c = λ ranks are.
    omega (
      arith,
      c.repair.ensures.steps,
      size-same
          (world (g.R.Rows.rows c.args.rows.now) c.args.marks.barred.now c.args.marks.granted.now (Some c.args.node))
          (g.R.Rows.rows c.args.rows.now)
          (c.args.node ∷ [])
          c.in-Ok.ranks
          c.args.base.now
          c.repair.new.ranks
          ranks
          c.in-Ok.ensures
          c.repair.ensures.ranks
          are,
    )

pub returns-clause-steps : goal.returns-clause-steps
returns-clause-steps g c = λ ranks are.
    omega (
      arith,
      c.repair.ensures.steps,
      size-same
          (world (g.R.Rows.rows c.args.rows.now) c.args.marks.barred.now c.args.marks.granted.now (Some c.args.node))
          (g.R.Rows.rows c.args.rows.now)
          (c.args.node ∷ [])
          c.in-Ok.ranks
          c.args.base.now
          c.repair.new.ranks
          ranks
          c.in-Ok.ensures
          c.repair.ensures.ranks
          are,
    )
