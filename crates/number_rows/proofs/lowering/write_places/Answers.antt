use Rattle.std.proofs.Common.{ℕ, take, subst, ◌≡◌, ◌<◌, ◌∙◌, sym, arith, pos, length}
use Rattle.number_rows.specs.Places.{HoldsBut}
use Rattle.number_rows.specs.Tops.{top_at}
use Rattle.number_rows.proofs.Lists.{back}
use Rattle.number_rows.proofs.Places.{place_written, fails_written}
use Rattle.number_rows.proofs.lowering.write_places.Goals as goal

pub loop-k-preserved : goal.loop-k-preserved
loop-k-preserved c =
    let k = c.loop-k.k in
    let P : ℕ → Type 0 = λ j. (top_at c.args.tops.now j ≡ pos 0) × (top_at c.args.others.now j ≡ pos 0) in
    let t = back (top_at c.args.tops.now k) (omega (arith, c.requires.tops k (omega arith))) in
    let o = back (top_at c.args.others.now k) (omega (arith, c.requires.others k (omega (arith, c.requires.lengths)))) in
    let room : c.loop-k.count < length c.loop-k.places = omega (arith, c.loop-k.invariant.0, c.loop-k.auto.places, c.requires.room) in
    let one = c.one_of-count in (
      omega (arith, c.loop-k.invariant.0, one.ensures.most),
      place_written P c.loop-k.places c.loop-k.count one.result k c.loop-k.invariant.0 (omega (arith, c.loop-k.auto.places, c.requires.room)) one.ensures.most
          (λ e. (sym t ∙ (one.ensures.none e).0, sym o ∙ (one.ensures.none e).1)) c.loop-k.invariant.1,
      fails_written P c.loop-k.places c.loop-k.count one.result k room one.ensures.most (λ some both. one.ensures.some some (t ∙ both.0, o ∙ both.1)) c.loop-k.invariant.2,
    )

pub returns-clause-places : goal.returns-clause-places
returns-clause-places c =
    let e : c.loop-k.k ≡ length c.args.tops.now = omega (arith, c.loop-k-test.false, c.loop-k.auto.k-end) in
    subst (λ (n : ℕ). HoldsBut (λ k. (top_at c.args.tops.now k ≡ pos 0) × (top_at c.args.others.now k ≡ pos 0)) 0 (take c.loop-k.count c.loop-k.places) n) e c.loop-k.invariant.1
