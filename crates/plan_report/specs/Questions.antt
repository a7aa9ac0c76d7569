-- The lines of the replies to questions.
use Rattle.std.specs.Prelude.{ℕ, ◌==◌, Bool, true, false, List, [], ◌∷◌, ◌++◌, codes, decimal, if◌then◌else◌, length, map}
use Rattle.plan_base.specs.declared.ids.NodeId.{NodeId}
use Rattle.plan_base.specs.declared.shape.Kind.{Kind}
use Rattle.script_reader.specs.Fields.{kind_word}
use Rattle.game_types.specs.declared.games.Game.{Game}
use Rattle.plan_report.specs.Layout.{Line}
use Rattle.plan_report.specs.Nodes.{node_word}

-- ---- questions about nodes
-- a node with its rank
abbrev pub ranked_line : Game → NodeId × ℕ → Line
ranked_line g node = node_word g node.0 ∷ codes "rank" ∷ decimal node.1 ∷ []

abbrev pub reach_line : Game → NodeId → ℕ → Line
reach_line g node rank = if rank == 0 then codes "reach" ∷ node_word g node ∷ codes "no" ∷ [] else codes "reach" ∷ node_word g node ∷ codes "rank" ∷ decimal rank ∷ []

abbrev pub why_line : Game → NodeId × ℕ × Bool → Line
why_line g node = if node.2 then node_word g node.0 ∷ codes "rank" ∷ decimal node.1 ∷ codes "granted" ∷ [] else node_word g node.0 ∷ codes "rank" ∷ decimal node.1 ∷ []

-- the reached nodes of a kind
abbrev pub list_lines : Game → Kind → List (NodeId × ℕ) → List Line
list_lines g kind nodes = (codes "list" ∷ kind_word kind ∷ decimal (length nodes) ∷ []) ∷ map (ranked_line g) nodes

-- the nodes that support one, where it is reached
abbrev pub why_lines : Game → NodeId → List (NodeId × ℕ × Bool) → List Line
why_lines g node [] = (codes "why" ∷ node_word g node ∷ codes "no" ∷ []) ∷ []
why_lines g node (first ∷ others) = (codes "why" ∷ node_word g node ∷ []) ∷ map (why_line g) (first ∷ others)

-- all of a group's members are needed, or any of them
abbrev pub group_line : Game → Bool × List NodeId → Line
group_line g group = (if group.0 then codes "all" else codes "any") ∷ map (node_word g) group.1

abbrev pub forbidden_lines : Bool → List Line
forbidden_lines true = (codes "forbidden" ∷ []) ∷ []
forbidden_lines false = []

abbrev pub missing_lines : Game → NodeId → Bool → Bool → List (Bool × List NodeId) → List Line
missing_lines g node true forbidden groups = (codes "missing" ∷ node_word g node ∷ codes "none" ∷ []) ∷ []
missing_lines g node false forbidden groups = (codes "missing" ∷ node_word g node ∷ []) ∷ (forbidden_lines forbidden ++ map (group_line g) groups)

abbrev pub mask_words : Game → Bool → List NodeId → List (List ℕ)
mask_words g false milestones = codes "unreached" ∷ []
mask_words g true [] = codes "none" ∷ []
mask_words g true (first ∷ others) = map (node_word g) (first ∷ others)

abbrev pub mask_line : Game → NodeId → Bool → List NodeId → Line
mask_line g node reached milestones = codes "mask" ∷ node_word g node ∷ mask_words g reached milestones

-- ---- questions about all
abbrev pub milestones_lines : Game → List NodeId → List Line
milestones_lines g nodes = (codes "milestones" ∷ decimal (length nodes) ∷ []) ∷ map (λ node. node_word g node ∷ []) nodes

abbrev pub history_words : ℕ → ℕ → ℕ → List (List ℕ)
history_words tables done undone = codes "tables" ∷ decimal tables ∷ codes "done" ∷ decimal done ∷ codes "undone" ∷ decimal undone ∷ []

abbrev pub masks_words : ℕ → ℕ → ℕ → ℕ → ℕ → List (List ℕ)
masks_words milestones bits tables done undone = codes "milestones" ∷ decimal milestones ∷ codes "bits" ∷ decimal bits ∷ history_words tables done undone

abbrev pub summary_line : ℕ → ℕ → ℕ → ℕ → ℕ → ℕ → ℕ → Line
summary_line reached nodes milestones bits tables done undone =
    codes "summary" ∷ codes "reached" ∷ decimal reached ∷ codes "of" ∷ decimal nodes ∷ masks_words milestones bits tables done undone
