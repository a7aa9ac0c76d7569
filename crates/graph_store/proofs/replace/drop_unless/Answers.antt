-- The list without the user, or as it was.
use Rattle.std.proofs.Common.{◌∙◌, ap, List}
use Rattle.plan_base.specs.declared.NodeId.{NodeId}
use Rattle.graph_store.specs.Replace.{count_of}
use Rattle.graph_store.proofs.DropLemmas.{without-same, without-other}
use Rattle.graph_store.proofs.replace.drop_unless.Goals as goal

pub returns-then-not-is_marked-clause-others : goal.returns-then-not-is_marked-clause-others
returns-then-not-is_marked-clause-others c = λ u ne.
    ap (λ (us : List NodeId). count_of us u) c.drop_user.ensures ∙ without-other c.args.user.0 u ne c.args.users.now.items

pub returns-then-not-is_marked-clause-gone : goal.returns-then-not-is_marked-clause-gone
returns-then-not-is_marked-clause-gone c = λ _.
    ap (λ (us : List NodeId). count_of us c.args.user.0) c.drop_user.ensures ∙ without-same c.args.user.0 c.args.users.now.items
