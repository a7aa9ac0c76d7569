-- One group more was taken from the numbers.
use Rattle.std.proofs.Common.{◌∙◌, ◌&&◌, ◌<◌, ◌+◌, List, Bool, [], false, length, get_or, drop, take, ap, sym, arith}
use Rattle.std.specs.List.{list_all}
use Rattle.std.proofs.lemmas.List.Folds.{list_all_more}
use Rattle.graph_store.specs.declared.Group.{Group}
use Rattle.reach_ranks.specs.Rounds.{is_satisfied}
use Rattle.reach_ranks.specs.Ranks.{is_one_to, within}
use Rattle.reach_ranks.proofs.Early.{fails_by}
use Rattle.reach_ranks.proofs.NumberLemmas.{left-first, met-satisfied, numbers-below}
use Rattle.reach_ranks.proofs.given.row_rank.Goals as goal

no_group : Group
no_group = record { all = false; members = [] }

pub group_rank-requires : goal.group_rank-requires
group_rank-requires c =
    let groups : List Group = c.args.row.now.groups in
    let inside : c.loop-g.g < length groups = omega (arith, c.group_count-g-end.ensures, c.loop-g-test.true) in
    let first = c.first_group-all.ensures (get_or groups c.loop-g.g no_group) (drop (c.loop-g.g + 1) groups) (left-first groups c.loop-g.g no_group _ inside c.loop-g.invariant.left) in
    numbers-below (length c.args.ranks.now) groups c.loop-g.g no_group (drop (c.loop-g.g + 1) groups) _ _ _ inside c.requires first

pub loop-g-preserved : goal.loop-g-preserved
loop-g-preserved c =
    let groups : List Group = c.args.row.now.groups in
    let inside : c.loop-g.g < length groups = omega (arith, c.group_count-g-end.ensures, c.loop-g-test.true) in
    let first = c.first_group-all.ensures (get_or groups c.loop-g.g no_group) (drop (c.loop-g.g + 1) groups) (left-first groups c.loop-g.g no_group _ inside c.loop-g.invariant.left) in
    record {
      left = first.rest;
      so_far = λ k lt.
          c.later-rank.ensures (k + 1)
          ∙ (ap (λ (b : Bool). b && is_one_to (k + 1) c.group_rank.result) (c.loop-g.invariant.so_far k lt)
          ∙ (ap (λ (b : Bool). list_all (λ group. is_satisfied (within c.args.ranks.now k) group) (take c.loop-g.g groups) && b) (c.group_rank.ensures k lt ∙ met-satisfied (within c.args.ranks.now k) (get_or groups c.loop-g.g no_group) (drop (c.loop-g.g + 1) groups) _ _ _ first)
          ∙ sym (list_all_more (λ (group : Group). is_satisfied (within c.args.ranks.now k) group) groups c.loop-g.g no_group inside)));
    }

pub returns-then-rank-eq0 : goal.returns-then-rank-eq0
returns-then-rank-eq0 c = λ k lt.
    let groups : List Group = c.args.row.now.groups in
    let inside : c.loop-g.g < length groups = omega (arith, c.group_count-g-end.ensures, c.loop-g-test.true) in
    let first = c.first_group-all.ensures (get_or groups c.loop-g.g no_group) (drop (c.loop-g.g + 1) groups) (left-first groups c.loop-g.g no_group _ inside c.loop-g.invariant.left) in
    sym
    (fails_by
    (λ group. is_satisfied (within c.args.ranks.now k) group)
    groups
    c.loop-g.g
    no_group
    (is_one_to (k + 1) c.loop-g.rank)
    (is_one_to (k + 1) c.group_rank.result)
    inside
    (c.loop-g.invariant.so_far k lt)
    (c.group_rank.ensures k lt ∙ met-satisfied (within c.args.ranks.now k) (get_or groups c.loop-g.g no_group) (drop (c.loop-g.g + 1) groups) _ _ _ first)
    (sym (c.later-rank.ensures (k + 1)) ∙ ap (is_one_to (k + 1)) c.if-rank-eq0.true))
