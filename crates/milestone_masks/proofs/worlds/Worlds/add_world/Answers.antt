-- The new worlds, whatever the answer.
use Rattle.std.proofs.Common.{◌≡◌, ◌≤◌, ◌∙◌, length, ap, subst, sym}
use Rattle.std.specs.Prelude.{Some, insert}
use Rattle.std.proofs.lemmas.Result.{on_ok_weaker}
use Rattle.reach_ranks.specs.Rounds.{world}
use Rattle.milestone_masks.specs.Worlds.{Kept, milestones_of, AddsWorld, AreWorlds}
use Rattle.milestone_masks.proofs.WorldLemmas.{added-nodes, added-worlds, same-worlds, either-way}
use Rattle.milestone_masks.proofs.worlds.Worlds.add_world.Goals as goal

pub returns-clause-added : goal.returns-clause-added
returns-clause-added g c =
    on_ok_weaker
    c.add.result
    (λ (adds : AddsWorld (world (g.R.Rows.rows c.args.rows.now) c.args.marks.barred.now c.args.marks.granted.now (Some c.args.node)) c.args.node c.args.place c.self.inside.milestones.items c.add.new.milestones.items).
    added-nodes
    (world (g.R.Rows.rows c.args.rows.now) c.args.marks.barred.now c.args.marks.granted.now (Some c.args.node))
    c.args.node
    c.args.place
    c.self.inside.milestones.items
    c.add.new.milestones.items
    adds
    ∙ ap (λ (kept : Kept). insert (milestones_of kept) c.args.place c.args.node) c.self.view_is)
    c.add.ensures.added

pub returns-clause-worlds : goal.returns-clause-worlds
returns-clause-worlds g c =
    let are : AreWorlds (g.R.Rows.rows c.args.rows.now) c.args.marks.barred.now c.args.marks.granted.now (record { base = c.self.inside.base; milestones = c.self.inside.milestones.items }) =
    subst (λ (kept : Kept). AreWorlds (g.R.Rows.rows c.args.rows.now) c.args.marks.barred.now c.args.marks.granted.now kept) (sym c.self.view_is) c.requires.worlds in
    let le : c.args.place ≤ length c.self.inside.milestones.items =
    subst (λ (kept : Kept). c.args.place ≤ length kept.milestones) (sym c.self.view_is) c.requires.place in
    either-way
    c.add.result
    (AddsWorld (world (g.R.Rows.rows c.args.rows.now) c.args.marks.barred.now c.args.marks.granted.now (Some c.args.node)) c.args.node c.args.place c.self.inside.milestones.items c.add.new.milestones.items)
    (c.add.new.milestones.items ≡ c.self.inside.milestones.items)
    (AreWorlds (g.R.Rows.rows c.args.rows.now) c.args.marks.barred.now c.args.marks.granted.now (record { base = c.self.inside.base; milestones = c.add.new.milestones.items }))
    c.add.ensures.added
    c.add.ensures.err
    (added-worlds (g.R.Rows.rows c.args.rows.now) c.args.marks.barred.now c.args.marks.granted.now c.args.node c.args.place c.self.inside.base c.self.inside.milestones.items c.add.new.milestones.items le are)
    (same-worlds (g.R.Rows.rows c.args.rows.now) c.args.marks.barred.now c.args.marks.granted.now c.self.inside.base c.self.inside.milestones.items c.add.new.milestones.items are)
