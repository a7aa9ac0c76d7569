use Rattle.std.proofs.Common.{◌∙◌, ◌≤◌, ap, subst, sym, length, List}
use Rattle.fractions.specs.Fraction.{Fraction}
use Rattle.std.specs.Prelude.{slice_get}
use Rattle.std.specs.List.{prefix_len}
use Rattle.game_types.specs.Temperatures.{is_cooler}
use Rattle.fluid_variants.proofs.ListLemmas.{put_before, put_end, put_there}
use Rattle.fluid_variants.proofs.lists.put_temperature.Goals as goal

pub returns-in_ok-insert-in-Some : goal.returns-in_ok-insert-in-Some
returns-in_ok-insert-in-Some c =
    c.in_ok-insert-in-Some.ensures.items
    ∙ sym (put_before c.args.at c.in-Some.next c.args.list.now.items c.cooler_count-place.result
    (c.cooler_count-place.ensures.count ∙ ap (prefix_len (λ lower. is_cooler lower c.args.at)) c.as_slice.ensures.value)
    (ap (λ xs. slice_get xs c.cooler_count-place.result) (sym c.as_slice-2.ensures.value) ∙ sym c.at_place.ensures ∙ c.in-Some.is)
    (sym c.is_cooler.ensures ∙ c.if-is_cooler.true))

pub returns-else-is_cooler : goal.returns-else-is_cooler
returns-else-is_cooler c =
    put_there c.args.at c.in-Some.next c.args.list.now.items c.cooler_count-place.result
    (c.cooler_count-place.ensures.count ∙ ap (prefix_len (λ lower. is_cooler lower c.args.at)) c.as_slice.ensures.value)
    (ap (λ xs. slice_get xs c.cooler_count-place.result) (sym c.as_slice-2.ensures.value) ∙ sym c.at_place.ensures ∙ c.in-Some.is)
    (sym c.is_cooler.ensures ∙ c.if-is_cooler.false)

pub returns-in_ok-push-in-None : goal.returns-in_ok-push-in-None
returns-in_ok-push-in-None c =
    c.in_ok-push-in-None.ensures.items
    ∙ sym (put_end c.args.at c.args.list.now.items c.cooler_count-place.result
    (c.cooler_count-place.ensures.count ∙ ap (prefix_len (λ lower. is_cooler lower c.args.at)) c.as_slice.ensures.value)
    (subst (λ (xs : List Fraction). c.cooler_count-place.result ≤ length xs) c.as_slice.ensures.value c.cooler_count-place.ensures.within)
    (ap (λ xs. slice_get xs c.cooler_count-place.result) (sym c.as_slice-2.ensures.value) ∙ sym c.at_place.ensures ∙ c.in-None.is))
