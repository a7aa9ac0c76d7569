use Rattle.std.specs.Prelude.{slice_range}
use Rattle.json_text.proofs.Lexed.{plain_runs, plain_unmarked, from-quote}
use Rattle.json_text.proofs.strings.string_end.Goals as goal

pub returns-then-has_quote : goal.returns-then-has_quote
returns-then-has_quote c =
    let bytes = c.args.bytes.now in
    let at = c.args.at in
    let place = c.front_end-place.result in
    let quote = c.has_quote.ensures c.if-has_quote.true in
    let p = plain_runs (slice_range bytes at place) c.front_end-place.ensures.plain in
    record {
      within = (c.front_end-place.ensures.behind, quote.0);
      runs = p.runs;
      whole = p.end_is;
      quote = quote.1;
      plain = λ e. plain_unmarked (slice_range bytes at place) c.front_end-place.ensures.plain;
      escape = λ e. absurd (cc);
      cut = tt;
      code = tt;
      text = λ w q n fs. from-quote w bytes at place q n fs c.front_end-place.ensures.behind quote.0 p.runs p.end_is quote.1;
      fault = tt;
    }
