use Rattle.std.proofs.Common.{◌∙◌, sym, arith}
use Rattle.std.specs.Prelude.{slice_range}
use Rattle.json_text.proofs.Found.{not_minus}
use Rattle.json_text.proofs.Lexed.{from-digit, from-number-ends, from-number-end, from-number-cut, from-number-refused, said}
use Rattle.std.proofs.Common.{subst, length, ◌<◌, ◌≤◌}
use Rattle.json_text.specs.Cutting.{NumberCut}
use Rattle.json_text.proofs.Cuts.{number_more_at, number_whole, number_stops_at, number_cut, stops_at_end}
use Rattle.json_text.proofs.number_ends.number_rest.Goals as goal

pub loop-i-preserved : goal.loop-i-preserved
loop-i-preserved c = record {
  behind = omega arith;
  within = omega arith;
  no_minus = not_minus c.loop-i.now c.in-Some.next _ (sym c.number_next.ensures ∙ c.in-Some.is);
  read = number_more_at c.args.bytes.now c.args.start c.loop-i.i c.loop-i.now c.in-Some.next (omega arith) (omega arith) c.loop-i.invariant.read (sym c.number_next.ensures ∙ c.in-Some.is);
  number = λ w keep n fs. c.loop-i.invariant.number w keep n fs ∙ from-digit w c.args.bytes.now c.args.start c.loop-i.i keep c.loop-i.now c.in-Some.next n fs (omega arith) (omega arith) (sym c.number_next.ensures ∙ c.in-Some.is);
}

pub returns-then-is_whole-clause-number : goal.returns-then-is_whole-clause-number
returns-then-is_whole-clause-number c = λ w keep n fs. c.loop-i.invariant.number w keep n fs
    ∙ from-number-ends w c.args.bytes.now c.loop-i.i keep c.args.start (slice_range c.args.bytes.now c.args.start c.loop-i.i) c.loop-i.now n fs (omega arith) (sym c.number_next.ensures ∙ c.in-None.is) (sym c.is_whole.ensures ∙ c.if-is_whole.true)

pub returns-in-None-clause-fault : goal.returns-in-None-clause-fault
returns-in-None-clause-fault c = λ w keep n fs. c.loop-i.invariant.number w keep n fs
    ∙ from-number-refused w c.args.bytes.now c.loop-i.i keep c.args.start (slice_range c.args.bytes.now c.args.start c.loop-i.i) c.loop-i.now n fs (omega arith) c.loop-i.invariant.no_minus (sym c.number_next.ensures ∙ c.in-None.is) (sym c.is_whole.ensures ∙ c.if-is_whole.false)
    ∙ said _ _ _ _ c.not_json.ensures.code c.not_json.ensures.at

pub returns-then-is_whole-2-clause-number : goal.returns-then-is_whole-2-clause-number
returns-then-is_whole-2-clause-number c = λ w keep n fs. c.loop-i.invariant.number w keep n fs
    ∙ from-number-end w c.args.bytes.now c.loop-i.i keep c.args.start (slice_range c.args.bytes.now c.args.start c.loop-i.i) c.loop-i.now n fs (omega arith) (sym c.is_whole-2.ensures ∙ c.if-is_whole-2.true)

pub returns-else-is_whole-2-clause-fault : goal.returns-else-is_whole-2-clause-fault
returns-else-is_whole-2-clause-fault c = λ w keep n fs. c.loop-i.invariant.number w keep n fs
    ∙ from-number-cut w c.args.bytes.now c.loop-i.i keep c.args.start (slice_range c.args.bytes.now c.args.start c.loop-i.i) c.loop-i.now n fs (omega arith) (sym c.is_whole-2.ensures ∙ c.if-is_whole-2.false)
    ∙ said _ _ _ _ c.not_json-else-is_whole-2.ensures.code c.not_json-else-is_whole-2.ensures.at

pub returns-then-is_whole-clause-numeral : goal.returns-then-is_whole-clause-numeral
returns-then-is_whole-clause-numeral c = number_whole c.loop-i.now (slice_range c.args.bytes.now c.args.start c.loop-i.i) c.loop-i.invariant.read (sym c.is_whole.ensures ∙ c.if-is_whole.true)

pub returns-then-is_whole-clause-stops : goal.returns-then-is_whole-clause-stops
returns-then-is_whole-clause-stops c = number_stops_at c.args.bytes.now c.args.start c.loop-i.i c.loop-i.now (omega arith) c.loop-i.invariant.read (sym c.number_next.ensures ∙ c.in-None.is)

pub returns-in-None-clause-cut : goal.returns-in-None-clause-cut
returns-in-None-clause-cut c = subst (λ k. (c.args.start < k) × (k ≤ length c.args.bytes.now) × NumberCut c.args.bytes.now c.args.start k) (sym c.not_json.ensures.at) (omega arith, omega arith, number_cut c.args.bytes.now c.args.start c.loop-i.i c.loop-i.now c.loop-i.invariant.read (sym c.is_whole.ensures ∙ c.if-is_whole.false))

pub returns-then-is_whole-2-clause-numeral : goal.returns-then-is_whole-2-clause-numeral
returns-then-is_whole-2-clause-numeral c = number_whole c.loop-i.now (slice_range c.args.bytes.now c.args.start c.loop-i.i) c.loop-i.invariant.read (sym c.is_whole-2.ensures ∙ c.if-is_whole-2.true)

pub returns-then-is_whole-2-clause-stops : goal.returns-then-is_whole-2-clause-stops
returns-then-is_whole-2-clause-stops c = stops_at_end c.args.bytes.now c.args.start c.loop-i.i (omega arith)

pub returns-else-is_whole-2-clause-cut : goal.returns-else-is_whole-2-clause-cut
returns-else-is_whole-2-clause-cut c = subst (λ k. (c.args.start < k) × (k ≤ length c.args.bytes.now) × NumberCut c.args.bytes.now c.args.start k) (sym c.not_json-else-is_whole-2.ensures.at) (omega arith, omega arith, number_cut c.args.bytes.now c.args.start c.loop-i.i c.loop-i.now c.loop-i.invariant.read (sym c.is_whole-2.ensures ∙ c.if-is_whole-2.false))
