use Rattle.std.proofs.Common.{◌∙◌, ◌∷◌, ◌+◌, None, ap, drop, arith}
use Rattle.std.proofs.lemmas.Str.Pattern.{strip_prefix_char}
use Rattle.std.proofs.lemmas.List.{drop_more}
use Rattle.rocket_launches.proofs.flight_names.cut.Goals as goal

pub returns-in-None : goal.returns-in-None
returns-in-None c = λ colon.
    strip_prefix_char 58 c.split_at.result.1.now None c.in-None.ensures.cases (omega arith) (drop (c.args.place + 1) c.args.text.now)
    (c.split_at.ensures.back ∙ drop_more c.args.text.now c.args.place 0 c.requires ∙ ap (λ n. n ∷ drop (c.args.place + 1) c.args.text.now) colon)
