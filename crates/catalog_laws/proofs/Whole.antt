-- The whole text of a catalog is the text of its object, which reads back.
use Rattle.std.proofs.Common.{◌≡◌, ◌∙◌, ℕ, List, [], ◌∷◌, ◌++◌, ap, arith}
use Rattle.std.specs.Prelude.{Option, codes}
use Rattle.plan_base.specs.declared.shape.Kind.{Kind}
use Rattle.plan_base.specs.declared.shape.Kind.TheVariants.{Special, Item, Fluid, Recipe, Source, Machine, Tech}
use Rattle.depend_index.specs.declared.index.Index.{Index}
use Rattle.state_changes.specs.States.{State}
use Rattle.serde_json.specs.Read.{read}
use Rattle.serde_json.specs.Written.{compact_text}
use Rattle.catalog_text.specs.declared.fields.Shown.{Shown}
use Rattle.catalog_text.specs.Catalog.{IsCatalog}
use Rattle.catalog_laws.specs.Value.{ReadsBack, catalog_value, milestones_value, things_value}
use Rattle.catalog_laws.proofs.Object.{object_good, object_is_shallow, object_text}
use Rattle.catalog_laws.proofs.OneLine.{value_inner}
use Rattle.catalog_laws.proofs.Plain.{Fits}
use Rattle.catalog_laws.proofs.Reading.{Good, line_reads}
use Rattle.catalog_laws.proofs.Sections.{Section, milestones_good, milestones_text, section, things_fit}

pub catalog_fits : (s : State) (index : Index) (shown : Kind → ℕ → Option Shown) → Fits 6 (catalog_value s index shown)
unfolding catalog_value
catalog_fits s index shown =
    object_is_shallow 5 (things_value s index (shown Fluid) Fluid) (things_value s index (shown Item) Item) (things_value s index (shown Machine) Machine) (milestones_value s)
    (things_value s index (shown Recipe) Recipe) (things_value s index (shown Source) Source) (things_value s index (shown Special) Special) (things_value s index (shown Tech) Tech)
    (things_fit s index (shown Fluid) Fluid) (things_fit s index (shown Item) Item) (things_fit s index (shown Machine) Machine) (milestones_good s).fits
    (things_fit s index (shown Recipe) Recipe) (things_fit s index (shown Source) Source) (things_fit s index (shown Special) Special) (things_fit s index (shown Tech) Tech)

-- what is shown, kind by kind
abbrev by_kind : (fluid item machine recipe source special tech : ℕ → Option Shown) → Kind → ℕ → Option Shown
by_kind fluid item machine recipe source special tech Special = special
by_kind fluid item machine recipe source special tech Item = item
by_kind fluid item machine recipe source special tech Fluid = fluid
by_kind fluid item machine recipe source special tech Recipe = recipe
by_kind fluid item machine recipe source special tech Source = source
by_kind fluid item machine recipe source special tech Machine = machine
by_kind fluid item machine recipe source special tech Tech = tech

pub catalog_reads : (s : State) (text : List ℕ) → IsCatalog s text → ReadsBack s text
unfolding catalog_value
catalog_reads s text is =
    let index : Index = is.index in
    let fluid : Section s index (codes "{\"fluid\":") Fluid [] is.writes_front.fluid = section s index (codes "{\"fluid\":") Fluid [] is.writes_front.fluid is.writes_front.fluids in
    let item : Section s index (codes ",\"format\":\"factoplan-catalog\",\"item\":") Item is.writes_front.fluid is.writes_front.item =
    section s index (codes ",\"format\":\"factoplan-catalog\",\"item\":") Item is.writes_front.fluid is.writes_front.item is.writes_front.items in
    let machine : Section s index (codes ",\"machine\":") Machine is.writes_front.item is.front = section s index (codes ",\"machine\":") Machine is.writes_front.item is.front is.writes_front.machines in
    let recipe : Section s index (codes ",\"recipe\":") Recipe is.middle is.writes_back.recipe = section s index (codes ",\"recipe\":") Recipe is.middle is.writes_back.recipe is.writes_back.recipes in
    let source : Section s index (codes ",\"source\":") Source is.writes_back.recipe is.writes_back.source =
    section s index (codes ",\"source\":") Source is.writes_back.recipe is.writes_back.source is.writes_back.sources in
    let special : Section s index (codes ",\"special\":") Special is.writes_back.source is.writes_back.special =
    section s index (codes ",\"special\":") Special is.writes_back.source is.writes_back.special is.writes_back.specials in
    let tech : Section s index (codes ",\"tech\":") Tech is.writes_back.special is.writes_back.tech = section s index (codes ",\"tech\":") Tech is.writes_back.special is.writes_back.tech is.writes_back.techs in
    let shown : Kind → ℕ → Option Shown = by_kind fluid.shown item.shown machine.shown recipe.shown source.shown special.shown tech.shown in
    let good : Good 6 (catalog_value s index shown) =
    object_good 5 (things_value s index fluid.shown Fluid) (things_value s index item.shown Item) (things_value s index machine.shown Machine) (milestones_value s)
    (things_value s index recipe.shown Recipe) (things_value s index source.shown Source) (things_value s index special.shown Special) (things_value s index tech.shown Tech)
    fluid.good item.good machine.good (milestones_good s) recipe.good source.good special.good tech.good in
    let milestones : is.middle ≡ (is.front ++ codes ",\"milestones\":") ++ compact_text (milestones_value s) = is.writes_milestones.written ∙ ap (λ l. (is.front ++ codes ",\"milestones\":") ++ l) (milestones_text s) in
    let compact : text ≡ compact_text (catalog_value s index shown) ++ 10 ∷ [] =
    object_text (things_value s index fluid.shown Fluid) (things_value s index item.shown Item) (things_value s index machine.shown Machine) (milestones_value s) (things_value s index recipe.shown Recipe)
    (things_value s index source.shown Source) (things_value s index special.shown Special) (things_value s index tech.shown Tech)
    is.writes_front.fluid is.writes_front.item is.front is.middle is.writes_back.recipe is.writes_back.source is.writes_back.special is.writes_back.tech text
    fluid.written item.written machine.written milestones recipe.written source.written special.written tech.written is.writes_back.end in
    record {
      index = index;
      is_index = is.is_index;
      shown = shown;
      is_line = record { compact = compact; one_line = value_inner (catalog_value s index shown) good.fits.plain good.small; reads_back = ap read compact ∙ line_reads 6 (catalog_value s index shown) (omega arith) good };
    }
