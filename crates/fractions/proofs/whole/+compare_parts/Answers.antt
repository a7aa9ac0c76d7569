use Rattle.std.proofs.Common.{◌∙◌, ◌%◌}
use Rattle.fractions.proofs.Compare.{cmp_by_whole, cmp_by_rest, cmp_at_zero, cmp_turned}
use Rattle.fractions.proofs.whole.+compare_parts.Goals as goal

pub returns-then-whole-other_whole : goal.returns-then-whole-other_whole
returns-then-whole-other_whole t c =
    c.cmp.ensures ∙ cmp_by_whole c.args.a c.args.b c.args.c c.args.d c.requires.first c.requires.second c.if-whole-other_whole.true

pub returns-then-rest-eq0 : goal.returns-then-rest-eq0
returns-then-rest-eq0 t c =
    c.cmp-then-rest-eq0.ensures
    ∙ (cmp_at_zero _ _ c.args.b c.args.d c.requires.first c.requires.second c.then-rest-eq0.either
    ∙ cmp_by_rest c.args.a c.args.b c.args.c c.args.d c.requires.first c.requires.second c.if-whole-other_whole.false)

pub returns : goal.returns
returns t c =
    c.compare_parts.ensures
    ∙ (cmp_turned c.args.d (c.args.a % c.args.b) c.args.b (c.args.c % c.args.d)
    ∙ cmp_by_rest c.args.a c.args.b c.args.c c.args.d c.requires.first c.requires.second c.if-whole-other_whole.false)
