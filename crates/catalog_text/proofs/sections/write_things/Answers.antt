use Rattle.std.proofs.Common.{◌∙◌, refl, subst, string_bytes}
use Rattle.planner_core.specs.Lines.{Planned}
use Rattle.catalog_text.specs.Catalog.{WritesThing}
use Rattle.catalog_text.proofs.Written.{things_more, things_none}
use Rattle.catalog_text.proofs.sections.write_things.Goals as goal

pub loop-number-init : goal.loop-number-init
loop-number-init g c = record { stays = refl; written = things_none c.args.planner.now.state c.args.sources.now.index.now c.args.kind (string_bytes c.args.text.now) }

pub loop-number-preserved : goal.loop-number-preserved
loop-number-preserved g c = record {
  stays = c.in_ok-write_thing.ensures.stays ∙ c.loop-number.invariant.stays;
  written = things_more c.args.planner.now.state c.args.sources.now.index.now c.args.kind c.loop-number.number (string_bytes c.args.text.now) (string_bytes c.loop-number.text) (string_bytes c.write_thing.new.text)
      c.loop-number.invariant.written
      (subst (λ (p : Planned). WritesThing p.state c.args.sources.now.index.now c.args.kind c.loop-number.number (string_bytes c.loop-number.text) (string_bytes c.write_thing.new.text)) c.loop-number.invariant.stays
      c.in_ok-write_thing.ensures.written);
}
