use Rattle.std.specs.Prelude.{slice_range}
use Rattle.json_text.proofs.Lexed.{plain_runs}
use Rattle.json_text.proofs.quick.quick_quote.Goals as goal

pub returns-then-has_quote-clause-found : goal.returns-then-has_quote-clause-found
returns-then-has_quote-clause-found c = λ lt.
    let p = plain_runs (slice_range c.args.bytes.now c.args.at c.front_end-place.result) c.front_end-place.ensures.plain in
    record { behind = c.front_end-place.ensures.behind; runs = p.runs; whole = p.end_is; closes = (c.has_quote.ensures c.if-has_quote.true).1 }
