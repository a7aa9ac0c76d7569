-- The lists after adding, and after the rows were exchanged.
use Rattle.std.proofs.Common.{arith}
use Rattle.graph_store.proofs.ExchangeLemmas.{may-added, may-exchanged, members-put, nodes-back, members-back}
use Rattle.graph_store.proofs.replace.replace_all.Goals as goal

pub tidy-requires-clause-users : goal.tidy-requires-clause-users
tidy-requires-clause-users c =
    may-exchanged
    c.args.rows.now
    c.exchange.new.rows
    c.args.changes.now
    c.exchange.new.changes
    c.add_all.new.users
    c.exchange.ensures.put
    c.exchange.ensures.back
    c.exchange.ensures.nodes
    c.in-Ok.ensures.there
    (may-added c.args.rows.now c.args.changes.now c.args.users.now c.add_all.new.users c.requires.graph.as_long c.requires.graph.each c.add_all.ensures.adds)

pub tidy-requires-clause-nodes : goal.tidy-requires-clause-nodes
tidy-requires-clause-nodes c = nodes-back c.args.rows.now c.exchange.new.rows c.exchange.new.changes c.exchange.ensures.back

pub tidy-requires-clause-members : goal.tidy-requires-clause-members
tidy-requires-clause-members c =
    members-put c.args.rows.now c.exchange.new.rows c.args.changes.now c.exchange.ensures.put c.requires.graph.members c.requires.members

pub tidy-requires-clause-rows : goal.tidy-requires-clause-rows
tidy-requires-clause-rows c =
    members-back c.args.rows.now c.exchange.new.rows c.exchange.new.changes c.exchange.ensures.back c.requires.graph.members

pub tidy-requires-in-Err-clause-users : goal.tidy-requires-in-Err-clause-users
tidy-requires-in-Err-clause-users c =
    may-added c.args.rows.now c.args.changes.now c.args.users.now c.add_all.new.users c.requires.graph.as_long c.requires.graph.each c.add_all.ensures.adds

pub returns-in-Ok-clause-graph : goal.returns-in-Ok-clause-graph
returns-in-Ok-clause-graph c = record {
  few = omega (arith, c.exchange.ensures.put.as_long, c.requires.graph.few);
  members = members-put c.args.rows.now c.exchange.new.rows c.args.changes.now c.exchange.ensures.put c.requires.graph.members c.requires.members;
  as_long = c.tidy.ensures.as_long;
  each = c.tidy.ensures.users;
  marks_long = c.tidy.ensures.marks;
  clear = c.tidy.ensures.clear;
}
