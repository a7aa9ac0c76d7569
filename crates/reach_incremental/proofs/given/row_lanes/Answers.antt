-- One group more was taken from the numbers.
use Rattle.std.proofs.Common.{◌∙◌, ◌&&◌, ◌<◌, ◌+◌, List, Bool, [], false, length, get_or, drop, take, ap, sym, arith}
use Rattle.std.specs.List.{list_all}
use Rattle.std.proofs.lemmas.List.Folds.{list_all_more}
use Rattle.graph_store.specs.declared.Group.{Group}
use Rattle.reach_ranks.specs.Rounds.{is_satisfied}
use Rattle.reach_ranks.specs.Ranks.{is_one_to, within}
use Rattle.reach_ranks.proofs.NumberLemmas.{left-first, met-satisfied, numbers-below}
use Rattle.reach_incremental.specs.Lanes.{lane}
use Rattle.reach_incremental.proofs.given.row_lanes.Goals as goal

no_group : Group
no_group = record { all = false; members = [] }

pub group_lanes-requires : goal.group_lanes-requires
group_lanes-requires c =
    let groups : List Group = c.args.row.now.groups in
    let inside : c.loop-g.g < length groups = omega (arith, c.group_count-g-end.ensures, c.loop-g-test.true) in
    let first = c.first_group-all.ensures (get_or groups c.loop-g.g no_group) (drop (c.loop-g.g + 1) groups) (left-first groups c.loop-g.g no_group _ inside c.loop-g.invariant.left) in
    numbers-below (length c.args.ranks.now) groups c.loop-g.g no_group (drop (c.loop-g.g + 1) groups) _ _ _ inside c.requires first

pub loop-g-preserved : goal.loop-g-preserved
loop-g-preserved c =
    let groups : List Group = c.args.row.now.groups in
    let inside : c.loop-g.g < length groups = omega (arith, c.group_count-g-end.ensures, c.loop-g-test.true) in
    let first = c.first_group-all.ensures (get_or groups c.loop-g.g no_group) (drop (c.loop-g.g + 1) groups) (left-first groups c.loop-g.g no_group _ inside c.loop-g.invariant.left) in
    record {
      left = first.rest;
      so_far = λ i k lt below.
          let test : Group → Bool = λ group. is_satisfied (within (lane i c.args.ranks.now) k) group in
          c.take_later.ensures i (k + 1) lt
          ∙ (ap (λ (b : Bool). b && is_one_to (k + 1) (get_or c.group_lanes.result i 0)) (c.loop-g.invariant.so_far i k lt below)
          ∙ (ap (λ (b : Bool). list_all test (take c.loop-g.g groups) && b) (c.group_lanes.ensures i k lt below ∙ met-satisfied (within (lane i c.args.ranks.now) k) (get_or groups c.loop-g.g no_group) (drop (c.loop-g.g + 1) groups) _ _ _ first)
          ∙ sym (list_all_more test groups c.loop-g.g no_group inside)));
    }
