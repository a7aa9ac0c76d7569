-- One change more is exchanged, up to all of them.
use Rattle.std.proofs.Common.{arith, []}
use Rattle.graph_store.specs.Replace.{Change}
use Rattle.graph_store.proofs.ExchangeLemmas.{exchanged-none, exchanged-more, replaces-put, replaces-back, nodes-same}
use Rattle.graph_store.proofs.replace.exchange.Goals as goal

no_change : Change
no_change = (record { 0 = 0 }, record { groups = [] })

pub loop-i-init : goal.loop-i-init
loop-i-init c = exchanged-none c.args.rows.now c.args.changes.now

pub loop-i-preserved : goal.loop-i-preserved
loop-i-preserved c =
    exchanged-more
    c.loop-i.i
    c.args.rows.now
    c.loop-i.rows
    c.args.changes.now
    c.loop-i.changes
    c.index-changes-i.result
    c.swap.new.x
    c.swap.new.y
    c.index-rows-change.result
    (omega arith)
    c.requires.nodes
    c.requires.differ
    c.loop-i.invariant
    c.swap.ensures.x_after
    c.swap.ensures.y_after

pub returns-clause-put : goal.returns-clause-put
returns-clause-put c =
    replaces-put c.loop-i.i c.args.rows.now c.loop-i.rows c.args.changes.now c.loop-i.changes no_change (omega (arith, c.loop-i.invariant.after_long)) c.requires.nodes c.loop-i.invariant

pub returns-clause-back : goal.returns-clause-back
returns-clause-back c =
    replaces-back c.loop-i.i c.args.rows.now c.loop-i.rows c.args.changes.now c.loop-i.changes no_change (omega (arith, c.loop-i.invariant.after_long)) c.requires.nodes c.loop-i.invariant

pub returns-clause-nodes : goal.returns-clause-nodes
returns-clause-nodes c = nodes-same c.loop-i.i c.args.rows.now c.loop-i.rows c.args.changes.now c.loop-i.changes c.loop-i.invariant
