use Rattle.std.proofs.Common.{refl, sym, ap, ◌∙◌, arith, ℕ, List, length, length-append, get_or, ◌≡◌}
use Rattle.std.proofs.lemmas.List.{get_or_read, with_items_is}
use Rattle.std.specs.Vec.{with_item, with_items}
use Rattle.linear_table.specs.Basis.{name_at}
use Rattle.linear_table.specs.declared.Exchange.{Exchange}
use Rattle.pivot_solver.proofs.ManyRows.{where_err, where_ok}
use Rattle.pivot_solver.proofs.Paths.{pivot_not_zero, pivoted_at, wide_at, path_onward, path_wide}
use Rattle.pivot_solver.proofs.path.advance.Goals as goal

pub pivot-requires-clause-not_zero : goal.pivot-requires-clause-not_zero
pivot-requires-clause-not_zero c =
    pivot_not_zero c.args.linear.now c.args.path c.args.row c.args.enter c.deref_mut.result.now c.requires.is_path c.requires.is_next c.deref_mut.ensures.value

pub returns-in_ok-push-in-Ok : goal.returns-in_ok-push-in-Ok
returns-in_ok-push-in-Ok c =
    let row_known = c.requires.is_next.inside in
    let leave : c.index.result.now ≡ get_or c.args.path.basis.items c.args.row 0 = get_or_read c.args.path.basis.items c.args.row c.index.result.now row_known c.index.ensures 0 in
    λ budget fewer. (
      path_onward c.args.linear.now c.args.path
          (record {
            basis = with_item c.args.path.basis c.args.row c.args.enter;
            rows = with_items c.args.path.rows c.pivot.new.rows;
            cost = c.pivot.new.cost;
            trail = c.push.new.self;
          })
          c.args.row c.args.enter (record { enter = c.name_of_place.result; leave = c.name_of_place-2.result }) c.requires.is_path c.requires.is_next
          (pivoted_at c.args.row c.args.enter c.deref_mut.ensures.value (λ i. c.args.path.cost.items)
          (sym (with_items_is c.args.path.rows c.pivot.new.rows ((where_ok c.in_ok-pivot.field-0 c.in-Ok.field-0 c.in-Ok.is c.in_ok-pivot.ensures.ok).row_count ∙ (ap length c.deref_mut.ensures.value ∙ sym c.args.path.rows.ok.0))))
          (λ i. c.pivot.new.cost.items)
          (where_ok c.in_ok-pivot.field-0 c.in-Ok.field-0 c.in-Ok.is c.in_ok-pivot.ensures.ok))
          refl c.in_ok-push-in-Ok.ensures.items c.name_of_place.ensures (ap (λ (k : ℕ). name_at c.args.linear.now k) (sym leave) ∙ c.name_of_place-2.ensures),
      omega (arith, ap (λ (x : List Exchange). length x) c.in_ok-push-in-Ok.ensures.items, length-append {A = Exchange}),
      fewer,
    )

pub returns-in-Err : goal.returns-in-Err
returns-in-Err c =
    let row_known = c.requires.is_next.inside in
    let leave : c.index.result.now ≡ get_or c.args.path.basis.items c.args.row 0 = get_or_read c.args.path.basis.items c.args.row c.index.result.now row_known c.index.ensures 0 in
    λ budget fewer. (
      path_wide c.args.linear.now budget c.args.path c.args.row c.args.enter (record { enter = c.name_of_place.result; leave = c.name_of_place-2.result }) c.in-Err.at c.place_of.result c.from_vec.result
          c.requires.is_path c.requires.is_next
          (wide_at c.args.row c.args.enter c.in-Err.at c.deref_mut.ensures.value (λ i. c.args.path.cost.items) (where_err _ c.in_ok-pivot.field-0 c.in-Err.at c.in-Err.is c.in_ok-pivot.ensures.err))
          c.place_of.ensures fewer c.from_vec.ensures c.name_of_place.ensures (ap (λ (k : ℕ). name_at c.args.linear.now k) (sym leave) ∙ c.name_of_place-2.ensures),
      tt,
    )
