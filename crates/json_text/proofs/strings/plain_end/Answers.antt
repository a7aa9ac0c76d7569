use Rattle.std.proofs.Common.{◌∙◌, ◌+◌, sym, subst, arith, get_or, ◌≡◌, true}
use Rattle.std.specs.Prelude.{slice_range}
use Rattle.std.specs.List.{list_all}
use Rattle.json_text.specs.Lexing.{is_plain}
use Rattle.json_text.proofs.Steps.{slice-more}
use Rattle.json_text.proofs.Lexed.{all_plain_push}
use Rattle.json_text.proofs.Lanes.{plain_join}
use Rattle.json_text.proofs.strings.plain_end.Goals as goal

pub returns-then-more-lt-LANES-clause-plain : goal.returns-then-more-lt-LANES-clause-plain
returns-then-more-lt-LANES-clause-plain c = plain_join c.args.bytes.now c.args.at c.lanes.i (c.lanes.i + c.plain_lanes-more.result) (omega arith) (omega arith) (omega arith) c.lanes.invariant.plain c.plain_lanes-more.ensures.plain

pub lanes-preserved : goal.lanes-preserved
lanes-preserved c = record {
  behind = omega arith;
  within = omega arith;
  plain = plain_join c.args.bytes.now c.args.at c.lanes.i (c.lanes.i + c.plain_lanes-more.result) (omega arith) (omega arith) (omega arith) c.lanes.invariant.plain c.plain_lanes-more.ensures.plain;
}

pub loop-i-preserved : goal.loop-i-preserved
loop-i-preserved c = record {
  behind = omega arith;
  within = omega arith;
  plain =
      let bytes = c.args.bytes.now in
      let i = c.loop-i.i in
      subst (λ s. list_all is_plain s ≡ true) (sym (slice-more bytes c.args.at i (omega arith) (omega arith))) (all_plain_push (slice_range bytes c.args.at i) (get_or bytes i 0) c.loop-i.invariant.plain (sym c.is_plain.ensures ∙ c.if-is_plain.true));
}
