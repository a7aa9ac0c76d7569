use Rattle.std.proofs.Common.{◌≡◌, ◌∙◌, ℕ, length, sym, subst, arith, true≢false}
use Rattle.fractions.specs.Fraction.{zero_fraction}
use Rattle.linear_table.specs.Plans.{number_at}
use Rattle.number_rows.specs.Places.{HoldsBut, FailsAt}
use Rattle.number_rows.proofs.Filled.{filled_row, filled_only, there}
use Rattle.number_rows.proofs.Places.{but_holds, but_fails, fails_append}
use Rattle.number_rows.proofs.row.NumberRow.filled_places.Goals.{then-not-is_zero+in_ok-push, else-not-is_zero}
use Rattle.number_rows.proofs.row.NumberRow.filled_places.Goals as goal

pub loop-k-preserved : goal.loop-k-preserved
loop-k-preserved c =
    elim c.if-not-is_zero.branch [
      | then-not-is_zero+in_ok-push w ↦
          rw w.places-is (rw w.in_ok-push.ensures.items (
            but_fails (λ k. number_at c.args.self.now.items k ≡ zero_fraction) 0 c.loop-k.places.items c.loop-k.k (omega arith) c.loop-k.invariant.0,
            fails_append (λ k. number_at c.args.self.now.items k ≡ zero_fraction) c.loop-k.places.items c.loop-k.k (λ e. true≢false (sym (c.is_zero.ensures.1 e) ∙ w.if-not-is_zero.true)) c.loop-k.invariant.1,
          ))
      | else-not-is_zero w ↦
          rw w.places-is (
            but_holds (λ k. number_at c.args.self.now.items k ≡ zero_fraction) 0 c.loop-k.places.items c.loop-k.k (c.is_zero.ensures.0 w.if-not-is_zero.false) c.loop-k.invariant.0,
            c.loop-k.invariant.1,
          )
    ]

pub returns-clause-filled : goal.returns-clause-filled
returns-clause-filled c =
    let e : c.loop-k.k ≡ length c.args.self.now.items = omega (arith, c.loop-k-test.false, c.loop-k.auto.k-end, c.len-k-end.ensures) in
    subst (λ (n : ℕ). HoldsBut (λ k. number_at c.args.self.now.items k ≡ zero_fraction) 0 c.loop-k.places.items n) e c.loop-k.invariant.0

pub returns-then-self-clause-filled : goal.returns-then-self-clause-filled
returns-then-self-clause-filled c =
    let r = c.self.inside in
    there _ (λ places. HoldsBut (λ k. number_at c.args.self.now.items k ≡ zero_fraction) 0 places.items (length c.args.self.now.items)) c.listed_places.result
    (λ places listed. filled_row r.short r.bottom r.bound r.tops.items r.numbers.items c.args.self.now _ places.items c.self.view_is c.if-self.true c.self.invariant c.deref.ensures.value listed)
    c.listed_places.ensures.filled

pub returns-then-self-clause-only : goal.returns-then-self-clause-only
returns-then-self-clause-only c =
    let r = c.self.inside in
    there _ (λ places. FailsAt (λ k. number_at c.args.self.now.items k ≡ zero_fraction) places.items) c.listed_places.result
    (λ places listed. filled_only r.short r.bottom r.bound r.tops.items r.numbers.items c.args.self.now _ places.items c.self.view_is c.if-self.true c.self.invariant c.deref.ensures.value listed)
    c.listed_places.ensures.only
