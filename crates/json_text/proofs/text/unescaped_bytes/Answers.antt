use Rattle.std.proofs.Common.{◌≡◌, ◌∙◌, ◌++◌, ◌+◌, sym, ap, subst, arith, get_or, take, drop, []}
use Rattle.std.proofs.Math.ListN.{drop_of_length-le}
use Rattle.json_text.specs.Lexing.{lex_after, lex_emits, lex_end}
use Rattle.json_text.proofs.Emits.{Unescaping, can_emit, goes_there, unescape_step, unescaped_utf8}
use Rattle.json_text.proofs.text.unescaped_bytes.Goals as goal

pub byte_emitted-requires : goal.byte_emitted-requires
byte_emitted-requires c =
    let b = get_or c.args.bytes.now c.bytes.i 0 in
    can_emit (take c.bytes.i c.args.bytes.now) c.bytes.text.items c.bytes.lex b (lex_after c.bytes.lex b) c.bytes.invariant.so_far.reads (goes_there c.args.bytes.now c.bytes.i c.bytes.text.items c.bytes.lex (omega arith) c.bytes.invariant.so_far)

pub bytes-preserved : goal.bytes-preserved
bytes-preserved c =
    let grown : c.in-Ok.more.items ≡ c.bytes.text.items ++ lex_emits c.bytes.lex (get_or c.args.bytes.now c.bytes.i 0) = c.in-Ok.ensures.text ∙ ap (λ x. c.bytes.text.items ++ x) c.byte_emitted.ensures in
    record {
      so_far = subst (λ x. Unescaping c.args.bytes.now (c.bytes.i + 1) x c.in-Goes.next) (sym grown) (unescape_step c.args.bytes.now c.bytes.i c.bytes.text.items c.bytes.lex c.in-Goes.next (omega arith) c.bytes.invariant.so_far (sym c.lex_next.ensures ∙ c.in-Goes.is));
    }

pub returns-clause-utf8 : goal.returns-clause-utf8
returns-clause-utf8 c =
    let none : drop c.bytes.i c.args.bytes.now ≡ [] = drop_of_length-le c.args.bytes.now (omega arith) in
    unescaped_utf8 (take c.bytes.i c.args.bytes.now) c.bytes.text.items c.bytes.lex c.bytes.invariant.so_far.reads (ap (lex_end c.bytes.lex) (sym none) ∙ c.bytes.invariant.so_far.whole)
