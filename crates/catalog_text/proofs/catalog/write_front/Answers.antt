use Rattle.std.proofs.Common.{◌≡◌, ◌∙◌, codes, subst, string_bytes}
use Rattle.std.proofs.lemmas.Result.{on_ok_weaker}
use Rattle.plan_base.specs.declared.shape.Kind.TheVariants.{Item, Machine}
use Rattle.planner_core.specs.Lines.{Planned}
use Rattle.catalog_text.specs.Catalog.{WritesSection}
use Rattle.catalog_text.proofs.catalog.write_front.Goals as goal

pub returns-clause-written : goal.returns-clause-written
returns-clause-written g c =
    let one = c.in_ok-write_section.ensures.stays in
    let two = c.in_ok-write_section-2.ensures.stays ∙ one in
    let index = c.args.sources.now.index.now in
    let first = string_bytes c.write_section.new.text in
    let second = string_bytes c.write_section-2.new.text in
    let third = string_bytes c.write_section-3.new.text in
    on_ok_weaker c.write_section-3.result
    (λ machines. record {
      fluid = first;
      item = second;
      fluids = c.in_ok-write_section.ensures.written;
      items = subst (λ (p : Planned). WritesSection p.state index (codes ",\"format\":\"factoplan-catalog\",\"item\":") Item first second) one c.in_ok-write_section-2.ensures.written;
      machines = subst (λ (p : Planned). WritesSection p.state index (codes ",\"machine\":") Machine second third) two machines;
    })
    c.write_section-3.ensures.written
