use Rattle.std.specs.Prelude.{List, nat_le, count_by}
use Rattle.std.specs.List.{before_first, list_any}
use Rattle.std.proofs.Common.{rules, sym, ap, ◌∙◌}
use Rattle.script_reader.specs.declared.parts.PartWords.{PartWords}
use Rattle.script_reader.specs.PartWords.{is_beacon, is_fuel, is_in}
use Rattle.script_reader.proofs.PartLemmas.{not_by, no_list, the_list, two_fuels, in_first}
use Rattle.script_reader.proofs.Readings.{answers_of_fault}
use Rattle.script_reader.proofs.parts.parts_after.Goals as goal

pub returns-then-ne : goal.returns-then-ne
returns-then-ne c = not_by c.args.by.now c.args.words.now (search rules)

pub returns-in_err-parts : goal.returns-in_err-parts
returns-in_err-parts c = answers_of_fault _ c.in_err-parts.field-0.0 _ c.from_residual.ensures (no_list c.args.by.now c.args.words.now c.in_err-parts.field-0.0 c.in_err-parts.ensures)

pub returns-then-has_in_first : goal.returns-then-has_in_first
returns-then-has_in_first c = in_first c.args.by.now c.args.words.now c.in_ok-parts.parts c.in_ok-parts.ensures (ap (λ (p : List PartWords). list_any is_in (before_first is_beacon p)) (sym c.as_slice.ensures) ∙ (sym c.has_in_first.ensures ∙ c.if-has_in_first.true))

pub returns-then-has_one_fuel : goal.returns-then-has_one_fuel
returns-then-has_one_fuel c = the_list c.args.by.now c.args.words.now c.in_ok-parts.parts (search rules) c.in_ok-parts.ensures (ap (λ (p : List PartWords). nat_le (count_by is_fuel p) 1) (sym c.as_slice-2.ensures) ∙ (sym c.has_one_fuel.ensures ∙ c.if-has_one_fuel.true)) (ap (λ (p : List PartWords). list_any is_in (before_first is_beacon p)) (sym c.as_slice.ensures) ∙ (sym c.has_in_first.ensures ∙ c.if-has_in_first.false))

pub returns-else-has_one_fuel : goal.returns-else-has_one_fuel
returns-else-has_one_fuel c = two_fuels c.args.by.now c.args.words.now c.in_ok-parts.parts c.in_ok-parts.ensures (ap (λ (p : List PartWords). nat_le (count_by is_fuel p) 1) (sym c.as_slice-2.ensures) ∙ (sym c.has_one_fuel.ensures ∙ c.if-has_one_fuel.false))
