use Rattle.std.proofs.lemmas.Result.{IfOk-weaker}
use Rattle.std.specs.Option.{option_copied}
use Rattle.catalog_text.proofs.Known.{thing_is}
use Rattle.catalog_text.proofs.sections.known_text.Goals as goal

pub returns : goal.returns
returns c =
    IfOk-weaker c.thing_text.result _ _
    (λ text told. λ s kind number same is. thing_is s c.args.index.now (option_copied c.shown_of-shown.result) c.args.game.now kind number c.args.thing.now _ same is told)
    c.thing_text.ensures
