use Rattle.std.proofs.Common.{◌≡◌, ◌∙◌, sym, arith, get_or, inr}
use Rattle.json_text.specs.Lexing.{lex_next}
use Rattle.json_text.specs.declared.lex.LexGo.TheVariants.{Goes}
use Rattle.json_text.proofs.Lexed.{push_at, push_unmarked, no_end, from-bad, from-cut, said}
use Rattle.std.specs.Prelude.{slice_range}
use Rattle.json_text.proofs.Cuts.{lex_code}
use Rattle.json_text.proofs.WideChars.{wide_at}
use Rattle.json_text.proofs.strings.char_end.Goals as goal

pub returns-then-is_wide : goal.returns-then-is_wide
returns-then-is_wide c =
    let h = c.is_wide.ensures c.if-is_wide.true in
    let w = wide_at c.args.bytes.now c.args.at h in
    record {
      within = (omega arith, h.within);
      runs = w.runs;
      whole = w.whole;
      unmarked = λ ne. w.unmarked;
      cut = tt;
      code = tt;
      fault = tt;
    }

pub returns-in-Between-clause-runs : goal.returns-in-Between-clause-runs
returns-in-Between-clause-runs c = (push_at c.args.bytes.now c.args.at c.bytes.i c.bytes.lex c.in-Goes.next (omega arith) (omega arith) c.bytes.invariant.runs c.bytes.invariant.end (sym c.lex_next.ensures ∙ c.in-Goes.is)).runs

pub returns-in-Between-clause-whole : goal.returns-in-Between-clause-whole
returns-in-Between-clause-whole c = (push_at c.args.bytes.now c.args.at c.bytes.i c.bytes.lex c.in-Goes.next (omega arith) (omega arith) c.bytes.invariant.runs c.bytes.invariant.end (sym c.lex_next.ensures ∙ c.in-Goes.is)).end ∙ c.in-Between.is

pub returns-in-Between-clause-unmarked : goal.returns-in-Between-clause-unmarked
returns-in-Between-clause-unmarked c = λ ne.
    let g : lex_next c.bytes.lex (get_or c.args.bytes.now c.bytes.i 0) ≡ Goes c.in-Goes.next = sym c.lex_next.ensures ∙ c.in-Goes.is in
    (push_unmarked c.args.bytes.now c.args.at c.bytes.i c.bytes.lex c.in-Goes.next (omega arith) (omega arith) g c.bytes.invariant.first ne (c.bytes.invariant.unmarked ne)).1

pub bytes-preserved : goal.bytes-preserved
bytes-preserved c =
    let g : lex_next c.bytes.lex (get_or c.args.bytes.now c.bytes.i 0) ≡ Goes c.in-Goes.next = sym c.lex_next.ensures ∙ c.in-Goes.is in
    let p = push_at c.args.bytes.now c.args.at c.bytes.i c.bytes.lex c.in-Goes.next (omega arith) (omega arith) c.bytes.invariant.runs c.bytes.invariant.end g in
    record {
      behind = omega arith;
      within = omega arith;
      runs = p.runs;
      end = p.end;
      first = inr (λ e. c.in_default.not-Between e);
      unmarked = λ ne. push_unmarked c.args.bytes.now c.args.at c.bytes.i c.bytes.lex c.in-Goes.next (omega arith) (omega arith) g c.bytes.invariant.first ne (c.bytes.invariant.unmarked ne);
    }

pub unreachable-requires : goal.unreachable-requires
unreachable-requires c = no_end c.args.bytes.now c.args.at c.bytes.i c.bytes.lex c.requires.no_quote c.bytes.invariant.first (sym c.lex_next.ensures ∙ c.in-Ends.is)

pub returns-in-Bad-clause-fault : goal.returns-in-Bad-clause-fault
returns-in-Bad-clause-fault c = λ w q s n fs. from-bad w c.args.bytes.now c.args.at c.bytes.i q s c.bytes.lex c.in-Bad.code n fs (omega arith) (omega arith) c.bytes.invariant.runs c.bytes.invariant.end (sym c.lex_next.ensures ∙ c.in-Bad.is)

pub returns-clause-fault : goal.returns-clause-fault
returns-clause-fault c = λ w q s n fs. from-cut w c.args.bytes.now c.args.at c.bytes.i q s n fs (omega arith) (omega arith) (omega arith) c.bytes.invariant.runs ∙ said _ _ _ _ c.not_json.ensures.code c.not_json.ensures.at

pub returns-in-Bad-clause-code : goal.returns-in-Bad-clause-code
returns-in-Bad-clause-code c = lex_code c.bytes.lex (slice_range c.args.bytes.now c.args.at c.bytes.i) (get_or c.args.bytes.now c.bytes.i 0) c.in-Bad.code c.bytes.invariant.runs c.bytes.invariant.end (sym c.lex_next.ensures ∙ c.in-Bad.is)
