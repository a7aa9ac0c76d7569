-- One group more was taken from the numbers.
use Rattle.std.proofs.Common.{◌<◌, ◌+◌, List, [], false, length, get_or, drop, arith}
use Rattle.graph_store.specs.declared.Group.{Group}
use Rattle.milestone_masks.proofs.NumberLemmas.{group-noted, left-first, numbers-below}
use Rattle.milestone_masks.proofs.supports.note_row.Goals as goal

no_group : Group
no_group = record { all = false; members = [] }

pub note_group-requires-clause-members : goal.note_group-requires-clause-members
note_group-requires-clause-members c =
    let groups : List Group = c.args.row.now.groups in
    let inside : c.loop-k.k < length groups = omega (arith, c.group_count-k-end.ensures, c.loop-k-test.true) in
    let first = c.first_group-all.ensures (get_or groups c.loop-k.k no_group) (drop (c.loop-k.k + 1) groups) (left-first groups c.loop-k.k no_group _ inside c.loop-k.invariant.left) in
    let below = numbers-below (length c.args.seen.now) groups c.loop-k.k no_group (drop (c.loop-k.k + 1) groups) _ _ _ inside c.requires.members first in
    λ j d lt. omega (arith, below j d lt, c.loop-k.auto.seen)

pub loop-k-preserved : goal.loop-k-preserved
loop-k-preserved c =
    let groups : List Group = c.args.row.now.groups in
    let inside : c.loop-k.k < length groups = omega (arith, c.group_count-k-end.ensures, c.loop-k-test.true) in
    let first = c.first_group-all.ensures (get_or groups c.loop-k.k no_group) (drop (c.loop-k.k + 1) groups) (left-first groups c.loop-k.k no_group _ inside c.loop-k.invariant.left) in
    record {
      seen = c.in_ok-note_group.ensures.seen;
      left = first.rest;
      grows = group-noted
          c.args.ranks.now
          groups
          c.loop-k.k
          no_group
          (drop (c.loop-k.k + 1) groups)
          _
          _
          _
          c.args.found.now
          c.loop-k.found
          c.note_group.new.found
          inside
          first
          c.loop-k.invariant.grows
          c.in_ok-note_group.ensures.grows;
    }
