-- What an entry changes, and what takes it back.
use Rattle.std.specs.Prelude.{◌≡◌, List, [], ◌∷◌, false, true}
use Rattle.std.specs.List.{list_all}
use Rattle.plan_lines.specs.declared.change.Change.{Change}
use Rattle.plan_lines.specs.declared.change.Change.TheVariants.{Milestone, Unmilestone}
use Rattle.state_changes.specs.declared.entries.Entry.{Entry}
use Rattle.state_changes.specs.declared.entries.Entry.TheVariants.{Add, Take, Held}
use Rattle.state_changes.specs.declared.entries.Back.{Back}
use Rattle.state_changes.specs.declared.entries.Back.TheVariants.{Drops, Puts, Parts}
use Rattle.state_changes.specs.declared.undos.Undo.{Undo}
use Rattle.state_changes.specs.declared.undos.Undo.TheVariants.{Added, Taken}
use Rattle.state_changes.specs.Actions.{can_be_held}
use Rattle.state_changes.specs.Undoing.{is_of_milestone}

-- one milestone, or changes of the book and of the tables
abbrev pub IsEntryOf : List Change → Entry → Type 0
IsEntryOf changes (Add object) = changes ≡ Milestone object.now ∷ []
IsEntryOf changes (Take object) = changes ≡ Unmilestone object.now ∷ []
IsEntryOf changes Held = list_all can_be_held changes ≡ true

-- one milestone, or parts of the book and of the tables
abbrev pub IsBackOf : List Undo → Back → Type 0
IsBackOf undos (Drops node) = undos ≡ Added node ∷ []
IsBackOf undos (Puts node place) = undos ≡ Taken node place ∷ []
IsBackOf undos Parts = is_of_milestone undos ≡ false
