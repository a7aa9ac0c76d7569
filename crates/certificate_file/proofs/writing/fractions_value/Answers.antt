use Rattle.fractions.specs.Limits.{IsNarrow}
use Rattle.certificate_file.specs.Tree.{fraction_tree}
use Rattle.certificate_file.proofs.Loops.{all_written}
use Rattle.serde_json.proofs.Views.{view-Array}
use Rattle.std.proofs.Common.{◌∙◌, ap}
use Rattle.serde_json.specs.Data.{array}
use Rattle.certificate_file.proofs.writing.fractions_value.Goals as goal

pub returns : goal.returns
returns c =
    let done = all_written fraction_tree IsNarrow c.args.fractions.now c.loop-fraction.fraction-index c.loop-fraction.list.items c.loop-fraction-test.false c.loop-fraction.invariant in
    (view-Array c.loop-fraction.list ∙ ap array done.0, done.1)
