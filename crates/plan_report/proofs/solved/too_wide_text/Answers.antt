use Rattle.std.proofs.Common.{◌≡◌, ℕ, List, ◌++◌, ◌∷◌, map, decimal}
use Rattle.std.specs.Prelude.{codes}
use Rattle.plan_report.specs.Plans.{exchange_line, place_line}
use Rattle.plan_report.proofs.PlanTexts.{trail_further}
use Rattle.plan_report.proofs.solved.too_wide_text.Goals as goal

joined : (out number table trail next place table_is trail_is next_is place_is further : List ℕ)
    → out ≡ number ++ (codes " refused V1 " ++ (table ++ 10 ∷ (trail ++ (codes "  next" ++ (next ++ place)))))
    → table ≡ table_is → trail ≡ trail_is → next ≡ next_is → place ≡ place_is → further ≡ trail_is ++ (codes "  next" ++ (next_is ++ place_is))
    → out ≡ number ++ (codes " refused V1 " ++ (table_is ++ 10 ∷ further))
joined out number table trail next place table_is trail_is next_is place_is further written is-table is-trail is-next is-place lines = cc

pub returns : goal.returns
returns c =
    let lines = trail_further (map (exchange_line c.args.game.now c.args.labels.now) c.args.trail.now) (codes "next" ∷ exchange_line c.args.game.now c.args.labels.now c.args.next) (place_line c.args.game.now c.args.labels.now c.args.place) in
    joined _ (decimal c.args.line) _ _ _ _ _ _ _ _ _ c.in_ok-format.ensures.ok c.in_ok-table.ensures c.in_ok-trail.ensures c.in_ok-next.ensures c.in_ok-place.ensures lines
