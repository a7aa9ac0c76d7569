-- The lines of every reply.
use Rattle.std.specs.Prelude.{ℕ, List, [], ◌∷◌, ◌++◌, Option, None, Some, codes, decimal}
use Rattle.fractions.specs.Print.{printed}
use Rattle.fractions.specs.Fraction.{Fraction}
use Rattle.plan_base.specs.declared.shape.Kind.{Kind}
use Rattle.game_types.specs.declared.effects.Effects.{Effects}
use Rattle.game_types.specs.declared.effects.Rates.{Rates}
use Rattle.game_types.specs.declared.games.Game.{Game}
use Rattle.plan_report.specs.Layout.{Line, reply_text}
use Rattle.plan_report.specs.Nodes.{node_word}
use Rattle.plan_report.specs.Questions.{list_lines, mask_line, milestones_lines, missing_lines, reach_line, summary_line, why_lines}
use Rattle.plan_report.specs.Words.{object_word, printed_word}
use Rattle.plan_lines.specs.declared.reply.Detail.{Detail}
use Rattle.plan_lines.specs.declared.reply.Detail.TheVariants.{Bare, Word, Node, Effect, Row}
use Rattle.plan_lines.specs.declared.reply.Reply.{Reply}
use Rattle.plan_lines.specs.declared.reply.Reply.TheVariants.{Ok, Nothing, Held, Reach, List as Listed, Why, Missing, Mask, Milestones, Summary, Rate, Solved, Refused}
use Rattle.plan_report.specs.Codes.{code_word, effect_word}
use Rattle.plan_report.specs.Plans.{solved_lines}

-- ---- refusals
abbrev pub named_word : Option Kind → List ℕ → List ℕ
named_word (Some kind) name = object_word kind name
named_word None name = printed_word name

abbrev pub detail_words : Game → Detail → List (List ℕ)
detail_words g Bare = []
detail_words g (Word kind name) = named_word kind name ∷ []
detail_words g (Node node) = node_word g node ∷ []
detail_words g (Effect node kind) = node_word g node ∷ effect_word kind ∷ []
detail_words g (Row label step) = printed_word label ∷ decimal step ∷ []

-- the line of a batch
abbrev pub at_words : Option ℕ → List (List ℕ)
at_words None = []
at_words (Some line) = codes "at" ∷ decimal line ∷ []

-- ---- rates
abbrev pub consumption_words : Effects → List (List ℕ)
consumption_words e = codes "consumption" ∷ printed e.consumption ∷ codes "pollution" ∷ printed e.pollution ∷ []

abbrev pub effects_words : Effects → List (List ℕ)
effects_words e = codes "speed" ∷ printed e.speed ∷ codes "productivity" ∷ printed e.productivity ∷ consumption_words e

abbrev pub fuel_words : Rates → Fraction → List (List ℕ)
fuel_words r beacons = codes "fuel" ∷ printed r.fuel ∷ codes "emits" ∷ printed r.pollution ∷ codes "beacons" ∷ printed beacons ∷ []

-- what one craft a second takes
abbrev pub rates_words : Rates → Fraction → List (List ℕ)
rates_words r beacons = codes "machines" ∷ printed r.machines ∷ codes "power" ∷ printed r.power ∷ codes "drain" ∷ printed r.drain ∷ fuel_words r beacons

abbrev pub rate_line : List ℕ → List ℕ → Effects → Rates → Fraction → Line
rate_line table label effects rates beacons = codes "rate" ∷ printed_word table ∷ printed_word label ∷ (effects_words effects ++ rates_words rates beacons)

-- ---- every reply
abbrev pub reply_lines : Game → Reply → List Line
reply_lines g Ok = (codes "ok" ∷ []) ∷ []
reply_lines g Nothing = []
reply_lines g Held = (codes "held" ∷ []) ∷ []
reply_lines g (Reach node rank) = reach_line g node rank ∷ []
reply_lines g (Listed kind nodes) = list_lines g kind nodes
reply_lines g (Why node nodes) = why_lines g node nodes
reply_lines g (Missing node reached forbidden groups) = missing_lines g node reached forbidden groups
reply_lines g (Mask node reached milestones) = mask_line g node reached milestones ∷ []
reply_lines g (Milestones nodes) = milestones_lines g nodes
reply_lines g (Summary reached nodes milestones bits tables done undone) = summary_line reached nodes milestones bits tables done undone ∷ []
reply_lines g (Rate table label effects rates beacons) = rate_line table label effects rates beacons ∷ []
reply_lines g (Solved table labels goods columns rows total answer) = solved_lines g table labels goods columns rows total answer
reply_lines g (Refused code detail at) = (codes "refused" ∷ code_word code ∷ (detail_words g detail ++ at_words at)) ∷ []

-- what is printed for the line with this number
abbrev pub printed_reply : Game → ℕ → Reply → List ℕ
printed_reply g number reply = reply_text number (reply_lines g reply)
