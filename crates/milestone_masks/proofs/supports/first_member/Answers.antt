-- The least turn is that of the first member.
use Rattle.milestone_masks.specs.Numbers.{nodes_at}
use Rattle.milestone_masks.proofs.WhyLemmas.{first-of_least, none-of_least}
use Rattle.milestone_masks.proofs.supports.first_member.Goals as goal

pub returns-then-least-lt-NO_TURN : goal.returns-then-least-lt-NO_TURN
returns-then-least-lt-NO_TURN c =
    first-of_least c.args.ranks.now (nodes_at c.args.members.now) c.least_turn-least.result c.least_turn-least.ensures c.if-least-lt-NO_TURN.true

pub returns-else-least-lt-NO_TURN : goal.returns-else-least-lt-NO_TURN
returns-else-least-lt-NO_TURN c =
    none-of_least c.args.ranks.now (nodes_at c.args.members.now) c.least_turn-least.result c.least_turn-least.ensures c.if-least-lt-NO_TURN.false
