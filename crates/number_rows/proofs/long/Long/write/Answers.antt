use Rattle.std.proofs.Common.{◌≡◌, ◌∙◌, refl, sym, subst, arith, length, List, ℤ, true}
use Rattle.std.proofs.lemmas.List.{with_items_is}
use Rattle.std.specs.Vec.{with_items}
use Rattle.number_rows.specs.Row.{IsKeptLong}
use Rattle.number_rows.proofs.Kept.{length_shown}
use Rattle.number_rows.proofs.Exchanged.{written, same_within}
use Rattle.number_rows.proofs.long.Long.write.Goals.{After-widen}
use Rattle.number_rows.proofs.long.Long.write.Goals as goal

-- as many numbers as before
count : (c : After-widen) → length c.widen.new.wides ≡ length c.self.inside.tops.items
count c =
    let r = c.self.inside in
    omega (arith, c.widen.ensures.length_is, c.requires.lengths, length_shown r.whole r.bottom r.tops.items r.numbers.items c.args.self.now c.self.view_is (λ e. c.self.invariant.same_length))

taken : (c : After-widen) → (with_items c.self.inside.tops c.widen.new.wides).items ≡ c.widen.new.wides
taken c = with_items_is c.self.inside.tops c.widen.new.wides (count c ∙ sym c.self.inside.tops.ok.0)

pub invariant_of-self : goal.invariant_of-self
invariant_of-self c =
    let r = c.self.inside in
    let a = (goal.at.invariant_of-self c).After-widen in
    subst (λ (ts : List ℤ). IsKeptLong c.args.bottom c.args.bound ts r.numbers.items) (sym (taken a))
    (record {
      same_length = count a ∙ c.self.invariant.same_length;
      positive = c.requires.positive;
      bottom_small = c.requires.small;
      bound_small = omega (arith, c.requires.bound_small);
      within = same_within c.args.tops.now c.widen.new.wides c.args.bound c.widen.ensures c.requires.within;
    })

pub returns : goal.returns
returns c =
    written true c.args.bottom c.args.tops.now c.widen.new.wides _ c.self.inside.numbers.items _ refl c.widen.ensures (taken (goal.at.returns c).After-widen) refl
