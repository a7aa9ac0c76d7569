-- Each reply as an object of JSON, as docs/DATA.md lists the members. Each function of this file puts members into those that are there.
use Rattle.std.specs.Prelude.{ℕ, Bool, List, [], ◌∷◌, ◌++◌, Option, Some, None, codes, map, slice_index_or}
use Rattle.std.specs.List.{flat_map, zip}
use Rattle.fractions.specs.Fraction.{Fraction}
use Rattle.plan_base.specs.declared.ids.GoodId.{GoodId}
use Rattle.plan_base.specs.declared.ids.NodeId.{NodeId}
use Rattle.plan_base.specs.declared.shape.Kind.{Kind}
use Rattle.script_reader.specs.Fields.{kind_word}
use Rattle.game_types.specs.declared.effects.Effects.{Effects}
use Rattle.game_types.specs.declared.effects.Rates.{Rates}
use Rattle.game_types.specs.declared.games.Game.{Game}
use Rattle.linear_table.specs.declared.Column.{Column}
use Rattle.linear_table.specs.declared.Column.TheVariants.{Line as TableRow, Import, Surplus, Unit as Single}
use Rattle.linear_table.specs.declared.Exchange.{Exchange}
use Rattle.linear_table.specs.declared.Place.{Place}
use Rattle.linear_table.specs.declared.Place.TheVariants.{Entry, Value, Reduced, Total}
use Rattle.linear_table.specs.declared.Plan.{Plan}
use Rattle.linear_table.specs.declared.SolveAnswer.{SolveAnswer}
use Rattle.linear_table.specs.declared.SolveAnswer.TheVariants.{Planned, Infeasible, TooWide, OutOfBudget}
use Rattle.plan_report.specs.Codes.{code_word, effect_word}
use Rattle.plan_report.specs.Plans.{column_kind}
use Rattle.plan_lines.specs.declared.reply.Detail.{Detail}
use Rattle.plan_lines.specs.declared.reply.Detail.TheVariants.{Bare, Word, Node, Effect, Row}
use Rattle.plan_lines.specs.declared.reply.Figures.{Figures}
use Rattle.plan_lines.specs.declared.reply.RefusalCode.{RefusalCode}
use Rattle.plan_lines.specs.declared.reply.RefusalCode.TheVariants.{V1, V2}
use Rattle.plan_lines.specs.declared.reply.Reply.{Reply}
use Rattle.plan_lines.specs.declared.reply.Reply.TheVariants.{Ok, Nothing, Held, Reach, List as Listed, Why, Missing, Mask, Milestones, Summary, Rate, Solved, Refused}
use Rattle.serde_json.specs.Data.{Data, item, Items, Members, no_items, no_members, number, object, string, unsigned}
use Rattle.serde_json.specs.View.{items_of}
use Rattle.catalog_members.specs.Members.{id_text, with_object, with_text}
use Rattle.report_json.specs.Values.{good_id, with_figure, with_flag, with_good, with_kind, with_list, with_node, with_nodes, with_number, with_whole}

-- ---- questions about nodes
-- the rank of a node that isn't reached is 0
unfoldable pub with_ranked : Game → NodeId → ℕ → Members → Members
with_ranked g node rank ms = with_whole (codes "rank") rank (with_node g node ms)

abbrev pub ranked_value : Game → NodeId × ℕ → Data
ranked_value g node = object (with_ranked g node.0 node.1 no_members)

unfoldable pub with_reach : Game → NodeId → ℕ → Members → Members
with_reach g node rank ms = with_ranked g node rank (with_kind (codes "reach") ms)

unfoldable pub with_listed : Game → Kind → List (NodeId × ℕ) → Members → Members
with_listed g kind nodes ms = with_list (codes "nodes") (items_of (map (ranked_value g) nodes)) (with_text (codes "of") (kind_word kind) (with_kind (codes "list") ms))

abbrev pub support_value : Game → NodeId × ℕ × Bool → Data
support_value g node = object (with_flag (codes "granted") node.2 (with_ranked g node.0 node.1 no_members))

unfoldable pub with_why : Game → NodeId → List (NodeId × ℕ × Bool) → Members → Members
with_why g node nodes ms = with_list (codes "by") (items_of (map (support_value g) nodes)) (with_node g node (with_kind (codes "why") ms))

-- a group of nodes of which all are needed, or any
abbrev pub group_value : Game → Bool × List NodeId → Data
group_value g group = object (with_nodes (codes "nodes") g group.1 (with_flag (codes "all") group.0 no_members))

unfoldable pub with_missing : Game → NodeId → Bool → Bool → List (Bool × List NodeId) → Members → Members
with_missing g node reached forbidden groups ms =
    with_list (codes "groups") (items_of (map (group_value g) groups))
    (with_flag (codes "forbidden") forbidden
    (with_flag (codes "reached") reached
    (with_node g node (with_kind (codes "missing") ms))))

unfoldable pub with_mask : Game → NodeId → Bool → List NodeId → Members → Members
with_mask g node reached milestones ms =
    with_nodes (codes "milestones") g milestones (with_flag (codes "reached") reached (with_node g node (with_kind (codes "mask") ms)))

-- ---- questions about all
unfoldable pub with_milestones : Game → List NodeId → Members → Members
with_milestones g nodes ms = with_nodes (codes "milestones") g nodes (with_kind (codes "milestones") ms)

unfoldable pub with_history : ℕ → ℕ → ℕ → Members → Members
with_history tables done undone ms = with_whole (codes "undone") undone (with_whole (codes "done") done (with_whole (codes "tables") tables ms))

unfoldable pub with_summary : ℕ → ℕ → ℕ → ℕ → ℕ → ℕ → ℕ → Members → Members
with_summary reached nodes milestones bits tables done undone ms =
    with_history tables done undone
    (with_whole (codes "bits") bits
    (with_whole (codes "milestones") milestones
    (with_whole (codes "nodes") nodes
    (with_whole (codes "reached") reached (with_kind (codes "summary") ms)))))

-- ---- rates
unfoldable pub with_effects : Effects → Members → Members
with_effects e ms =
    with_number (codes "pollution") e.pollution
    (with_number (codes "consumption") e.consumption
    (with_number (codes "productivity") e.productivity
    (with_number (codes "speed") e.speed ms)))

-- what one craft a second takes
unfoldable pub with_takes : Rates → Fraction → Members → Members
with_takes r beacons ms =
    with_number (codes "beacons") beacons
    (with_number (codes "emits") r.pollution
    (with_number (codes "fuel") r.fuel
    (with_number (codes "drain") r.drain
    (with_number (codes "power") r.power
    (with_number (codes "machines") r.machines ms)))))

unfoldable pub with_rate : List ℕ → List ℕ → Effects → Rates → Fraction → Members → Members
with_rate table label effects rates beacons ms =
    with_object (codes "takes") (with_takes rates beacons no_members)
    (with_object (codes "effects") (with_effects effects no_members)
    (with_text (codes "row") label
    (with_text (codes "table") table (with_kind (codes "rate") ms))))

-- ---- a plan
unfoldable pub with_uses : Figures → Members → Members
with_uses f ms =
    with_figure (codes "pollution") f.pollution
    (with_figure (codes "beacons") f.beacons
    (with_figure (codes "drain") f.drain
    (with_figure (codes "power") f.power ms)))

unfoldable pub with_row : List ℕ → Fraction → Figures → Members → Members
with_row label rate figures ms =
    with_uses figures
    (with_figure (codes "count") figures.count
    (with_figure (codes "machines") figures.machines
    (with_number (codes "rate") rate
    (with_text (codes "row") label ms))))

abbrev pub row_value : List ℕ × (Fraction × Figures) → Data
row_value row = object (with_row row.0 row.1.0 row.1.1 no_members)

-- a good and a number
unfoldable pub with_stream : Game → List ℕ → GoodId → Fraction → Members → Members
with_stream g kind good rate ms = with_number (codes "rate") rate (with_good (codes "good") g good (with_kind kind ms))

abbrev pub stream_value : Game → List ℕ → GoodId → Fraction → Data
stream_value g kind good rate = object (with_stream g kind good rate no_members)

-- an import or a surplus at its rate; the rows stand elsewhere
abbrev pub streams_of : Game → Column × Fraction → List Data
streams_of g (TableRow row, rate) = []
streams_of g (Import good, rate) = stream_value g (codes "import") good rate ∷ []
streams_of g (Surplus good, rate) = stream_value g (codes "surplus") good rate ∷ []
streams_of g (Single good, rate) = []

abbrev pub price_value : Game → GoodId × Fraction → Data
price_value g good = object (with_number (codes "price") good.1 (with_good (codes "good") g good.0 no_members))

unfoldable pub with_prices : Game → List GoodId → List Fraction → Members → Members
with_prices g goods prices ms = with_list (codes "prices") (items_of (map (price_value g) (zip goods prices))) ms

unfoldable pub with_rows : List (List ℕ) → List Fraction → List Figures → Members → Members
with_rows labels rates rows ms = with_list (codes "rows") (items_of (map row_value (zip labels (zip rates rows)))) ms

unfoldable pub with_streams : Game → List Column → List Fraction → Members → Members
with_streams g columns rates ms = with_list (codes "streams") (items_of (flat_map (streams_of g) (zip columns rates))) ms

unfoldable pub with_plan : Game → List (List ℕ) → List GoodId → List Column → List Figures → Figures → Plan → Members → Members
with_plan g labels goods columns rows total plan ms =
    with_object (codes "total") (with_uses total no_members)
    (with_prices g goods plan.prices
    (with_streams g columns plan.rates
    (with_rows labels plan.rates rows
    (with_number (codes "cost") plan.cost (with_kind (codes "plan") ms)))))

-- ---- what isn't planned
unfoldable pub with_infeasible : Game → List GoodId → List Fraction → Members → Members
with_infeasible g goods prices ms = with_prices g goods prices (with_kind (codes "infeasible") ms)

unfoldable pub with_code : RefusalCode → Members → Members
with_code code ms = with_text (codes "code") (code_word code) (with_kind (codes "refused") ms)

-- the name of a column: the label of its row, or its good
abbrev pub column_id : Game → List (List ℕ) → Column → List ℕ
column_id g labels (TableRow row) = slice_index_or labels row []
column_id g labels (Import good) = good_id g good
column_id g labels (Surplus good) = good_id g good
column_id g labels (Single good) = good_id g good

unfoldable pub with_column : Game → List (List ℕ) → Column → Members → Members
with_column g labels column ms = with_text (codes "name") (column_id g labels column) (with_text (codes "column") (column_kind column) ms)

unfoldable pub with_exchange : Game → List (List ℕ) → Exchange → Members → Members
with_exchange g labels e ms =
    with_object (codes "leave") (with_column g labels e.leave no_members) (with_object (codes "enter") (with_column g labels e.enter no_members) ms)

abbrev pub exchange_value : Game → List (List ℕ) → Exchange → Data
exchange_value g labels e = object (with_exchange g labels e no_members)

unfoldable pub with_trail : Game → List (List ℕ) → List Exchange → Members → Members
with_trail g labels trail ms = with_list (codes "trail") (items_of (map (exchange_value g labels) trail)) ms

-- the number that is past the limits
unfoldable pub with_place : Game → List (List ℕ) → Place → Members → Members
with_place g labels (Entry column row) ms = with_whole (codes "row") row (with_column g labels column (with_text (codes "number") (codes "entry") ms))
with_place g labels (Value row) ms = with_whole (codes "row") row (with_text (codes "number") (codes "value") ms)
with_place g labels (Reduced column) ms = with_column g labels column (with_text (codes "number") (codes "reduced") ms)
with_place g labels Total ms = with_text (codes "number") (codes "total") ms

unfoldable pub with_too_wide : Game → List (List ℕ) → List Exchange → Exchange → Place → Members → Members
with_too_wide g labels trail next place ms =
    with_object (codes "place") (with_place g labels place no_members)
    (with_object (codes "next") (with_exchange g labels next no_members)
    (with_trail g labels trail (with_code V1 ms)))

unfoldable pub with_out_of_budget : Game → List (List ℕ) → List Exchange → Members → Members
with_out_of_budget g labels trail ms = with_trail g labels trail (with_code V2 ms)

unfoldable pub with_answer : Game → List (List ℕ) → List GoodId → List Column → List Figures → Figures → SolveAnswer → Members → Members
with_answer g labels goods columns rows total (Planned plan) ms = with_plan g labels goods columns rows total plan ms
with_answer g labels goods columns rows total (Infeasible prices) ms = with_infeasible g goods prices ms
with_answer g labels goods columns rows total (TooWide trail next place) ms = with_too_wide g labels trail next place ms
with_answer g labels goods columns rows total (OutOfBudget trail) ms = with_out_of_budget g labels trail ms

unfoldable pub with_solved : Game → List ℕ → List (List ℕ) → List GoodId → List Column → List Figures → Figures → SolveAnswer → Members → Members
with_solved g table labels goods columns rows total answer ms = with_text (codes "table") table (with_answer g labels goods columns rows total answer ms)

-- ---- refusals
abbrev pub named_id : Option Kind → List ℕ → List ℕ
named_id (Some kind) name = kind_word kind ++ 58 ∷ name
named_id None name = name

-- what a refusal names: texts, and behind a row the step of its rates
abbrev pub detail_items : Game → Detail → Items
detail_items g Bare = no_items
detail_items g (Word kind name) = item (string (named_id kind name)) no_items
detail_items g (Node node) = item (string (id_text g node)) no_items
detail_items g (Effect node kind) = item (string (id_text g node)) (item (string (effect_word kind)) no_items)
detail_items g (Row label step) = item (string label) (item (number (unsigned step)) no_items)

-- the line of a batch, where one is named
unfoldable pub with_at : Option ℕ → Members → Members
with_at None ms = ms
with_at (Some line) ms = with_whole (codes "at") line ms

unfoldable pub with_refused : Game → RefusalCode → Detail → Option ℕ → Members → Members
with_refused g code detail at ms = with_at at (with_list (codes "words") (detail_items g detail) (with_code code ms))

-- ---- every reply
unfoldable pub with_reply : Game → Reply → Members → Members
with_reply g Ok ms = with_kind (codes "ok") ms
with_reply g Nothing ms = with_kind (codes "nothing") ms
with_reply g Held ms = with_kind (codes "held") ms
with_reply g (Reach node rank) ms = with_reach g node rank ms
with_reply g (Listed kind nodes) ms = with_listed g kind nodes ms
with_reply g (Why node nodes) ms = with_why g node nodes ms
with_reply g (Missing node reached forbidden groups) ms = with_missing g node reached forbidden groups ms
with_reply g (Mask node reached milestones) ms = with_mask g node reached milestones ms
with_reply g (Milestones nodes) ms = with_milestones g nodes ms
with_reply g (Summary reached nodes milestones bits tables done undone) ms = with_summary reached nodes milestones bits tables done undone ms
with_reply g (Rate table label effects rates beacons) ms = with_rate table label effects rates beacons ms
with_reply g (Solved table labels goods columns rows total answer) ms = with_solved g table labels goods columns rows total answer ms
with_reply g (Refused code detail at) ms = with_refused g code detail at ms

-- a reply as an object of JSON
unfoldable pub reply_value : Game → Reply → Data
reply_value g reply = object (with_reply g reply no_members)
