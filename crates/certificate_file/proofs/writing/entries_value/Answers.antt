use Rattle.certificate_file.specs.Narrow.{IsNarrowClaim}
use Rattle.certificate_file.specs.Tree.{entry_tree}
use Rattle.certificate_file.proofs.Loops.{all_written}
use Rattle.serde_json.proofs.Views.{view-Array}
use Rattle.std.proofs.Common.{◌∙◌, ap}
use Rattle.serde_json.specs.Data.{array}
use Rattle.certificate_file.proofs.writing.entries_value.Goals as goal

pub returns : goal.returns
returns c =
    let done = all_written entry_tree (λ e. IsNarrowClaim e.claim) c.args.entries.now c.loop-entry.entry-index c.loop-entry.list.items c.loop-entry-test.false c.loop-entry.invariant in
    (view-Array c.loop-entry.list ∙ ap array done.0, done.1)
