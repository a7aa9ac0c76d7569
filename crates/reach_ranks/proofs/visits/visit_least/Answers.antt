-- A visit keeps each key early enough, and takes no more steps than it leaves fewer to do.
use Rattle.std.proofs.Common.{◌≡◌, ℕ, Option, Some, refl, sym, ◌∙◌, ap, get_or, arith}
use Rattle.std.specs.Prelude.{◌==◌, slice_set}
use Rattle.reach_ranks.specs.Rounds.{world_under}
use Rattle.reach_ranks.specs.Given.{given, key_of, is_same_key}
use Rattle.reach_ranks.proofs.RepairLemmas.{work_left-after}
use Rattle.reach_ranks.proofs.MarkLemmas.{above-after, bounds-after, early-after, early-put, same_key-is}
use Rattle.reach_ranks.proofs.visits.visit_least.Goals as goal

right-is : (kept by_row given_is : ℕ) (right : Option ℕ) (key : Option ℕ) → by_row ≡ given_is → right ≡ key_of kept by_row → right ≡ key → key_of kept given_is ≡ key
right-is kept by_row given_is right key e f h = ap (λ b. key_of kept b) (sym e) ∙ (sym f ∙ h)

pub returns-then-not-is_key-clause-steps : goal.returns-then-not-is_key-clause-steps
returns-then-not-is_key-clause-steps g c =
    omega (
      arith,
      c.given_rank-by_row.ensures.step,
      early-put
          (world_under (g.R.Rows.rows c.args.rows.now) c.args.marks)
          4294967295
          c.args.ranks.now
          c.args.heap.now
          c.take_least.new.self
          c.put.new.heap
          c.in-Some.node.0
          c.in-Some.key
          c.requires.keys.heap_long
          c.in-Some.ensures.least.inside
          c.in-Some.ensures.least.here
          (ap (λ (right : Option ℕ). is_same_key right (Some c.in-Some.key)) (ap (λ b. key_of (get_or c.args.ranks.now c.in-Some.node.0 0) b) (sym c.given_rank-by_row.ensures.given) ∙ sym c.right_key.ensures) ∙ (sym c.is_key.ensures ∙ c.if-not-is_key.true))
          c.in-Some.ensures.some
          (c.put.ensures ∙ ap (λ (key : Option ℕ). slice_set c.take_least.new.self c.in-Some.node.0 key) (c.right_key-then-not-is_key.ensures ∙ ap (λ b. key_of (get_or c.args.ranks.now c.in-Some.node.0 0) b) c.given_rank-by_row.ensures.given)),
    )

pub returns-then-not-is_key-clause-nearer : goal.returns-then-not-is_key-clause-nearer
returns-then-not-is_key-clause-nearer g c = λ _.
    omega (
      arith,
      early-put
          (world_under (g.R.Rows.rows c.args.rows.now) c.args.marks)
          4294967295
          c.args.ranks.now
          c.args.heap.now
          c.take_least.new.self
          c.put.new.heap
          c.in-Some.node.0
          c.in-Some.key
          c.requires.keys.heap_long
          c.in-Some.ensures.least.inside
          c.in-Some.ensures.least.here
          (ap (λ (right : Option ℕ). is_same_key right (Some c.in-Some.key)) (ap (λ b. key_of (get_or c.args.ranks.now c.in-Some.node.0 0) b) (sym c.given_rank-by_row.ensures.given) ∙ sym c.right_key.ensures) ∙ (sym c.is_key.ensures ∙ c.if-not-is_key.true))
          c.in-Some.ensures.some
          (c.put.ensures ∙ ap (λ (key : Option ℕ). slice_set c.take_least.new.self c.in-Some.node.0 key) (c.right_key-then-not-is_key.ensures ∙ ap (λ b. key_of (get_or c.args.ranks.now c.in-Some.node.0 0) b) c.given_rank-by_row.ensures.given)),
    )

pub returns-else-not-is_key-clause-keys : goal.returns-else-not-is_key-clause-keys
returns-else-not-is_key-clause-keys g c =
    bounds-after
    (world_under (g.R.Rows.rows c.args.rows.now) c.args.marks)
    4294967295
    c.args.floor.now
    c.args.ranks.now
    c.args.heap.now
    c.take_least.new.self
    c.put-in-Some.new.heap
    c.give_keys.new.heap
    c.in-Some.node.0
    c.in-Some.key
    c.next_kept-next.result
    (c.next_kept-next.result == c.in-Some.key)
    c.users-users.result.now
    c.requires.keys
    c.requires.floor
    c.requires.above
    c.in-Some.ensures.least
    (right-is (get_or c.args.ranks.now c.in-Some.node.0 0) c.given_rank-by_row.result (given (world_under (g.R.Rows.rows c.args.rows.now) c.args.marks) 4294967295 c.args.ranks.now c.in-Some.node.0) c.right_key.result (Some c.in-Some.key) c.given_rank-by_row.ensures.given c.right_key.ensures (same_key-is c.right_key.result c.in-Some.key (sym c.is_key.ensures ∙ c.if-not-is_key.false)))
    c.next_kept-next.ensures
    refl
    c.in-Some.ensures.some
    (c.put-in-Some.ensures ∙ ap (λ (key : Option ℕ). slice_set c.take_least.new.self c.in-Some.node.0 key) (c.right_key-in-Some.ensures ∙ ap (λ b. key_of c.next_kept-next.result b) c.given_rank-by_row.ensures.given))
    c.users-users.ensures.users
    c.give_keys.ensures.keys

pub returns-else-not-is_key-clause-steps : goal.returns-else-not-is_key-clause-steps
returns-else-not-is_key-clause-steps g c =
    omega (
      arith,
      c.given_rank-by_row.ensures.step,
      c.users-users.ensures.step,
      work_left-after
          (world_under (g.R.Rows.rows c.args.rows.now) c.args.marks)
          c.requires.marks
          4294967295
          c.args.ranks.now
          c.args.heap.now
          c.in-Some.node.0
          c.in-Some.key
          c.next_kept-next.result
          c.requires.keys
          c.in-Some.ensures.least
          (right-is (get_or c.args.ranks.now c.in-Some.node.0 0) c.given_rank-by_row.result (given (world_under (g.R.Rows.rows c.args.rows.now) c.args.marks) 4294967295 c.args.ranks.now c.in-Some.node.0) c.right_key.result (Some c.in-Some.key) c.given_rank-by_row.ensures.given c.right_key.ensures (same_key-is c.right_key.result c.in-Some.key (sym c.is_key.ensures ∙ c.if-not-is_key.false)))
          c.next_kept-next.ensures,
      early-after
          (world_under (g.R.Rows.rows c.args.rows.now) c.args.marks)
          4294967295
          c.args.floor.now
          c.args.ranks.now
          c.args.heap.now
          c.take_least.new.self
          c.put-in-Some.new.heap
          c.give_keys.new.heap
          c.in-Some.node.0
          c.in-Some.key
          c.next_kept-next.result
          (c.next_kept-next.result == c.in-Some.key)
          c.users-users.result.now
          c.requires.keys
          c.in-Some.ensures.least.inside
          c.in-Some.ensures.some
          (c.put-in-Some.ensures ∙ ap (λ (key : Option ℕ). slice_set c.take_least.new.self c.in-Some.node.0 key) (c.right_key-in-Some.ensures ∙ ap (λ b. key_of c.next_kept-next.result b) c.given_rank-by_row.ensures.given))
          c.users-users.ensures.users
          c.give_keys.ensures.keys,
    )

pub returns-else-not-is_key-clause-nearer : goal.returns-else-not-is_key-clause-nearer
returns-else-not-is_key-clause-nearer g c = λ _.
    omega (
      arith,
      work_left-after
          (world_under (g.R.Rows.rows c.args.rows.now) c.args.marks)
          c.requires.marks
          4294967295
          c.args.ranks.now
          c.args.heap.now
          c.in-Some.node.0
          c.in-Some.key
          c.next_kept-next.result
          c.requires.keys
          c.in-Some.ensures.least
          (right-is (get_or c.args.ranks.now c.in-Some.node.0 0) c.given_rank-by_row.result (given (world_under (g.R.Rows.rows c.args.rows.now) c.args.marks) 4294967295 c.args.ranks.now c.in-Some.node.0) c.right_key.result (Some c.in-Some.key) c.given_rank-by_row.ensures.given c.right_key.ensures (same_key-is c.right_key.result c.in-Some.key (sym c.is_key.ensures ∙ c.if-not-is_key.false)))
          c.next_kept-next.ensures,
      early-after
          (world_under (g.R.Rows.rows c.args.rows.now) c.args.marks)
          4294967295
          c.args.floor.now
          c.args.ranks.now
          c.args.heap.now
          c.take_least.new.self
          c.put-in-Some.new.heap
          c.give_keys.new.heap
          c.in-Some.node.0
          c.in-Some.key
          c.next_kept-next.result
          (c.next_kept-next.result == c.in-Some.key)
          c.users-users.result.now
          c.requires.keys
          c.in-Some.ensures.least.inside
          c.in-Some.ensures.some
          (c.put-in-Some.ensures ∙ ap (λ (key : Option ℕ). slice_set c.take_least.new.self c.in-Some.node.0 key) (c.right_key-in-Some.ensures ∙ ap (λ b. key_of c.next_kept-next.result b) c.given_rank-by_row.ensures.given))
          c.users-users.ensures.users
          c.give_keys.ensures.keys,
    )

pub returns-else-not-is_key-clause-above : goal.returns-else-not-is_key-clause-above
returns-else-not-is_key-clause-above g c =
    above-after
    (world_under (g.R.Rows.rows c.args.rows.now) c.args.marks)
    4294967295
    c.args.floor.now
    c.args.ranks.now
    c.in-Some.node.0
    c.in-Some.key
    c.next_kept-next.result
    c.requires.floor
    c.requires.above
    (omega (arith, c.requires.keys.heap_long, c.in-Some.ensures.least.inside))
    c.requires.keys.ranks_long
    (right-is (get_or c.args.ranks.now c.in-Some.node.0 0) c.given_rank-by_row.result (given (world_under (g.R.Rows.rows c.args.rows.now) c.args.marks) 4294967295 c.args.ranks.now c.in-Some.node.0) c.right_key.result (Some c.in-Some.key) c.given_rank-by_row.ensures.given c.right_key.ensures (same_key-is c.right_key.result c.in-Some.key (sym c.is_key.ensures ∙ c.if-not-is_key.false)))
    c.next_kept-next.ensures
