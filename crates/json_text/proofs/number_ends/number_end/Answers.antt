use Rattle.std.proofs.Common.{◌∙◌, arith}
use Rattle.std.specs.Prelude.{slice_range}
use Rattle.json_text.proofs.Lexed.{from-number-ends, ok_then, err_then}
use Rattle.json_text.proofs.Cuts.{number_whole, number_stops_at}
use Rattle.json_text.proofs.Digits.{still_no_minus, number_further, from-phases}
use Rattle.json_text.proofs.number_ends.number_end.Goals as goal

pub returns-then-stops_before-clause-numeral : goal.returns-then-stops_before-clause-numeral
returns-then-stops_before-clause-numeral c =
    let d = c.digits_further-place.result in
    let s = c.stops_before.ensures c.if-stops_before.true in
    number_whole d.1 (slice_range c.args.bytes.now c.args.start d.0) (number_further c.args.bytes.now c.args.start c.args.at d.0 c.args.phase d.1 (omega arith) c.digits_further-place.ensures.behind c.digits_further-place.ensures.within c.requires.read c.digits_further-place.ensures.phases) s.2

pub returns-then-stops_before-clause-stops : goal.returns-then-stops_before-clause-stops
returns-then-stops_before-clause-stops c =
    let d = c.digits_further-place.result in
    let s = c.stops_before.ensures c.if-stops_before.true in
    number_stops_at c.args.bytes.now c.args.start d.0 d.1 (omega arith) (number_further c.args.bytes.now c.args.start c.args.at d.0 c.args.phase d.1 (omega arith) c.digits_further-place.ensures.behind c.digits_further-place.ensures.within c.requires.read c.digits_further-place.ensures.phases) s.1

pub returns-then-stops_before-clause-number : goal.returns-then-stops_before-clause-number
returns-then-stops_before-clause-number c = λ w keep n fs.
    let d = c.digits_further-place.result in
    let s = c.stops_before.ensures c.if-stops_before.true in
    from-phases w c.args.bytes.now c.args.start c.args.at d.0 keep c.args.phase d.1 n fs (omega arith) c.digits_further-place.ensures.behind c.digits_further-place.ensures.within c.digits_further-place.ensures.phases
    ∙ from-number-ends w c.args.bytes.now d.0 keep c.args.start (slice_range c.args.bytes.now c.args.start d.0) d.1 n fs s.0 s.1 s.2

pub number_rest-requires-clause-no_minus : goal.number_rest-requires-clause-no_minus
number_rest-requires-clause-no_minus c = still_no_minus c.args.phase (slice_range c.args.bytes.now c.args.at c.digits_further-place.result.0) c.digits_further-place.result.1 c.requires.no_minus c.digits_further-place.ensures.phases

pub number_rest-requires-clause-read : goal.number_rest-requires-clause-read
number_rest-requires-clause-read c =
    let d = c.digits_further-place.result in
    number_further c.args.bytes.now c.args.start c.args.at d.0 c.args.phase d.1 (omega arith) c.digits_further-place.ensures.behind c.digits_further-place.ensures.within c.requires.read c.digits_further-place.ensures.phases

pub returns-clause-number : goal.returns-clause-number
returns-clause-number c = ok_then c.number_rest.result c.number_rest.ensures.number (λ end h w keep n fs.
    from-phases w c.args.bytes.now c.args.start c.args.at c.digits_further-place.result.0 keep c.args.phase c.digits_further-place.result.1 n fs (omega arith) c.digits_further-place.ensures.behind c.digits_further-place.ensures.within c.digits_further-place.ensures.phases ∙ h w keep n fs)

pub returns-clause-fault : goal.returns-clause-fault
returns-clause-fault c = err_then c.number_rest.result c.number_rest.ensures.fault (λ f h w keep n fs.
    from-phases w c.args.bytes.now c.args.start c.args.at c.digits_further-place.result.0 keep c.args.phase c.digits_further-place.result.1 n fs (omega arith) c.digits_further-place.ensures.behind c.digits_further-place.ensures.within c.digits_further-place.ensures.phases ∙ h w keep n fs)
