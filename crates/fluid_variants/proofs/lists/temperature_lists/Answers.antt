use Rattle.std.proofs.Common.{◌≡◌, ◌∙◌, ◌<◌, ◌≤◌, ◌+◌, ℕ, List, length, ap, subst, sym}
use Rattle.std.specs.Prelude.{All, Vec}
use Rattle.std.specs.Global.{Global}
use Rattle.std.specs.List.Sorted.{IsPermutation}
use Rattle.fractions.specs.Fraction.{Fraction}
use Rattle.fluid_variants.specs.declared.made.Made.{Made}
use Rattle.fluid_variants.specs.Contents.{AreEmpty, ArePut, contents}
use Rattle.fluid_variants.specs.Temperatures.{IsRising, all_made}
use Rattle.fluid_variants.proofs.Contents.{all_put, all_there, empty_rise, length_contents, whole}
use Rattle.fluid_variants.proofs.lists.temperature_lists.Goals as goal

pub put_all-requires-clause-rising : goal.put_all-requires-clause-rising
put_all-requires-clause-rising c =
    subst (λ (ls : List (Vec Fraction Global)). All IsRising (contents ls)) (sym c.as_mut_slice.ensures.value) (empty_rise c.len.result (contents c.in_ok-lists.lists.items) c.in_ok-lists.ensures)

pub put_all-requires-clause-there : goal.put_all-requires-clause-there
put_all-requires-clause-there c =
    let game = c.args.game.now in
    let lists = c.in_ok-lists.lists.items in
    let order : List Made = c.coolest_first.new.all.items in
    let long : length lists ≡ length game.fluids = sym (length_contents lists) ∙ c.in_ok-lists.ensures.as_long ∙ c.len.ensures in
    let same : IsPermutation (all_made game) order = subst (λ (xs : List Made). IsPermutation xs order) c.in_ok-made.ensures c.coolest_first.ensures in
    subst (λ (xs : List Made). All (λ (m : Made). (c.len-2.result ≤ m.good.0) × (m.good.0 < c.len-2.result + length c.as_mut_slice.result.now)) xs) (sym c.as_slice.ensures.value)
    (subst (λ (n : ℕ). All (λ (m : Made). (n ≤ m.good.0) × (m.good.0 < n + length c.as_mut_slice.result.now)) order) (sym c.len-2.ensures)
    (subst (λ (ls : List (Vec Fraction Global)). All (λ (m : Made). (length game.items ≤ m.good.0) × (m.good.0 < length game.items + length ls)) order) (sym c.as_mut_slice.ensures.value)
    (all_there game order lists same c.requires long)))

pub returns : goal.returns
returns c =
    let game = c.args.game.now in
    let lists = c.in_ok-lists.lists.items in
    let new = c.put_all.new.lists in
    let order : List Made = c.coolest_first.new.all.items in
    let same : IsPermutation (all_made game) order = subst (λ (xs : List Made). IsPermutation xs order) c.in_ok-made.ensures c.coolest_first.ensures in
    let empty : AreEmpty (length game.fluids) (contents lists) = subst (λ (n : ℕ). AreEmpty n (contents lists)) c.len.ensures c.in_ok-lists.ensures in
    let put : ArePut (length game.items) order (contents lists) (contents new) =
    subst (λ (n : ℕ). ArePut n order (contents lists) (contents new)) c.len-2.ensures
    (subst (λ (xs : List Made). ArePut c.len-2.result xs (contents lists) (contents new)) c.as_slice.ensures.value
    (subst (λ (ls : List (Vec Fraction Global)). ArePut c.len-2.result c.as_slice.result.now (contents ls) (contents new)) c.as_mut_slice.ensures.value c.in_ok-put_all.ensures)) in
    let long : length new ≡ length lists = sym (length_contents new) ∙ put.as_long ∙ length_contents lists in
    ap contents (whole lists new c.in_ok-lists.lists.len long (c.in_ok-lists.lists.ok.0)) ∙ all_put game order (contents lists) (contents new) same empty put
