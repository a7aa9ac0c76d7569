use Rattle.std.proofs.Common.{arith, length, ◌<◌}
use Rattle.json_text.proofs.Passed.{passed_string}
use Rattle.json_text.proofs.quick.quick_string.Goals as goal

pub returns-clause-passed : goal.returns-clause-passed
returns-clause-passed c = λ lt.
    let there : c.quick_quote-quote.result < length c.args.bytes.now = omega (arith, c.quick_quote-quote.ensures.within, c.if-quote-bytes.false) in
    passed_string c.args.bytes.now c.args.at c.quick_quote-quote.result c.args.depth c.requires.depth c.requires.within c.requires.opens there (c.quick_quote-quote.ensures.found there)
