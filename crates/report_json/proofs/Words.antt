-- Whoever reads the object of a reply gets the words of the reply.
use Rattle.std.proofs.Common.{◌≡◌, ◌∙◌, ℕ, suc, ◌+◌, ◌-◌, Bool, true, false, List, [], ◌∷◌, ◌++◌, Option, Some, None, length, map, refl, sym, ap, ap₂, codes, decimal}
use Rattle.std.specs.Prelude.{⊤, ◌==◌, if◌then◌else◌, nat_lt, slice_index_or}
use Rattle.std.specs.List.{flat_map, zip}
use Rattle.fractions.specs.Fraction.{Fraction}
use Rattle.plan_base.specs.declared.ids.GoodId.{GoodId}
use Rattle.plan_base.specs.declared.ids.NodeId.{NodeId}
use Rattle.plan_base.specs.declared.shape.Kind.{Kind}
use Rattle.plan_base.specs.declared.shape.Kind.TheVariants.{Special, Tech}
use Rattle.game_types.specs.declared.effects.EffectKind.{EffectKind}
use Rattle.game_types.specs.declared.effects.EffectKind.TheVariants.{Speed, Productivity, Consumption, Pollution}
use Rattle.game_types.specs.declared.effects.Effects.{Effects}
use Rattle.game_types.specs.declared.effects.Rates.{Rates}
use Rattle.game_types.specs.declared.games.Game.{Game}
use Rattle.linear_table.specs.declared.Column.{Column}
use Rattle.linear_table.specs.declared.Column.TheVariants.{Line as TableRow, Import, Surplus, Unit as Single}
use Rattle.linear_table.specs.declared.Exchange.{Exchange}
use Rattle.linear_table.specs.declared.Place.{Place}
use Rattle.linear_table.specs.declared.Place.TheVariants.{Entry, Value, Reduced, Total}
use Rattle.linear_table.specs.declared.SolveAnswer.{SolveAnswer}
use Rattle.linear_table.specs.declared.SolveAnswer.TheVariants.{Planned, Infeasible, TooWide, OutOfBudget}
use Rattle.plan_report.specs.Layout.{Line}
use Rattle.plan_report.specs.Nodes.{good_word, name_at, node_word, solid_and_fluid}
use Rattle.plan_report.specs.Questions.{forbidden_lines, group_line, ranked_line, why_line}
use Rattle.plan_report.specs.Words.{object_word, printed_word}
use Rattle.script_reader.specs.Fields.{kind_word}
use Rattle.fractions.specs.Print.{printed}
use Rattle.linear_table.specs.declared.Plan.{Plan}
use Rattle.plan_report.specs.Codes.{code_word, effect_word}
use Rattle.plan_report.specs.Plans.{column_kind, column_name, exchange_line, figure_word, place_line, price_line, price_lines, row_line, stream_lines, use_words}
use Rattle.plan_report.specs.Replies.{detail_words, reply_lines}
use Rattle.plan_lines.specs.declared.reply.Detail.{Detail}
use Rattle.plan_lines.specs.declared.reply.Detail.TheVariants.{Bare, Word, Node, Effect, Row}
use Rattle.plan_lines.specs.declared.reply.Figures.{Figures}
use Rattle.plan_lines.specs.declared.reply.RefusalCode.{RefusalCode}
use Rattle.plan_lines.specs.declared.reply.Reply.{Reply}
use Rattle.plan_lines.specs.declared.reply.Reply.TheVariants.{Ok, Nothing, Held, Reach, List as Listed, Why, Missing, Mask, Milestones, Summary, Rate, Solved, Refused}
use Rattle.serde_json.specs.Data.{Data, no_members, object}
use Rattle.serde_json.specs.View.{items_of}
use Rattle.catalog_members.specs.Members.{id_text, id_value, with_amount, with_id, with_object, with_text}
use Rattle.report_json.specs.Reading.{column_in, exact_in, exchange_in, figure_in, figures_in, group_in, lines_of, listed, place_in, price_in, ranked_in, row_in, stream_in, support_in, use_keys, word_in}
use Rattle.report_json.specs.Replies.{column_id, detail_items, exchange_value, group_value, price_value, ranked_value, reply_value, row_value, stream_value, streams_of, support_value, with_answer, with_at, with_code, with_column, with_effects, with_exchange, with_history, with_infeasible, with_listed, with_mask, with_milestones, with_missing, with_out_of_budget, with_place, with_plan, with_prices, with_ranked, with_rate, with_reach, with_refused, with_reply, with_row, with_rows, with_solved, with_stream, with_streams, with_summary, with_takes, with_too_wide, with_trail, with_uses, with_why}
use Rattle.report_json.specs.Values.{figure_value, good_id, with_figure, with_flag, with_good, with_kind, with_list, with_node, with_nodes, with_number, with_parts, with_whole}

-- what a proof unfolds to compute the members of an object
unfoldable pub all_members : ⊤
unfolding id_text node_word with_amount with_id with_object with_text with_answer with_at with_code with_column with_effects with_exchange with_history with_infeasible with_listed with_mask with_milestones with_missing with_out_of_budget with_place with_plan with_prices with_ranked with_rate with_reach with_refused with_reply with_row with_rows with_solved with_stream with_streams with_summary with_takes with_too_wide with_trail with_uses with_why with_figure with_flag with_good with_kind with_list with_node with_nodes with_number with_parts with_whole reply_value lines_of
all_members = tt

-- ---- lists
read_all : {A B : Type 0} (tree : A → Data) (read : Data → B) (line : A → B) → ((x : A) → read (tree x) ≡ line x) → (xs : List A) → map read (listed (items_of (map tree xs))) ≡ map line xs
read_all tree read line each [] = refl
read_all tree read line each (x ∷ xs) = ap₂ (λ l ls. l ∷ ls) (each x) (read_all tree read line each xs)

length_listed : {A : Type 0} (tree : A → Data) (xs : List A) → length (listed (items_of (map tree xs))) ≡ length xs
length_listed tree [] = refl
length_listed tree (x ∷ xs) = ap suc (length_listed tree xs)

-- ---- names
node_is : (g : Game) (node : NodeId) → word_in (id_value g node) ≡ node_word g node
unfolding all_members
node_is g node = refl

by_tests : (a b : Bool) (x y z u v w : List ℕ) → printed_word x ≡ u → printed_word y ≡ v → printed_word z ≡ w
    → printed_word (if a then x else if b then y else z) ≡ (if a then u else if b then v else w)
by_tests true b x y z u v w p q r = p
by_tests false true x y z u v w p q r = q
by_tests false false x y z u v w p q r = r

good_is : (g : Game) (good : GoodId) → printed_word (good_id g good) ≡ good_word g good
unfolding all_members good_id good_word
good_is g good =
    by_tests (nat_lt good.0 (solid_and_fluid g)) (good.0 == solid_and_fluid g) (id_text g (record { 0 = 3 + good.0 }))
    (kind_word Special ++ 58 ∷ codes "electricity")
    (kind_word Tech ++ 58 ∷ name_at g Tech (good.0 - (solid_and_fluid g + 1)))
    (node_word g (record { 0 = 3 + good.0 }))
    (object_word Special (codes "electricity"))
    (object_word Tech (name_at g Tech (good.0 - (solid_and_fluid g + 1))))
    refl refl refl

nodes_are : (g : Game) (nodes : List NodeId) → map word_in (listed (items_of (map (id_value g) nodes))) ≡ map (node_word g) nodes
nodes_are g nodes = read_all (id_value g) word_in (node_word g) (node_is g) nodes

-- ---- questions
ranked_is : (g : Game) (node : NodeId × ℕ) → ranked_in (ranked_value g node) ≡ ranked_line g node
unfolding all_members
ranked_is g node = refl

support_is : (g : Game) (node : NodeId × ℕ × Bool) → support_in (support_value g node) ≡ why_line g node
unfolding all_members
support_is g node = refl

group_is : (g : Game) (group : Bool × List NodeId) → group_in (group_value g group) ≡ group_line g group
unfolding all_members
group_is g group = ap (λ ws. (if group.0 then codes "all" else codes "any") ∷ ws) (nodes_are g group.1)

why_back : (g : Game) (node : NodeId) (nodes : List (NodeId × ℕ × Bool)) → lines_of (reply_value g (Why node nodes)) ≡ reply_lines g (Why node nodes)
unfolding all_members
why_back g node [] = refl
why_back g node (first ∷ others) = ap (λ ls. (codes "why" ∷ node_word g node ∷ []) ∷ ls) (read_all (support_value g) support_in (why_line g) (support_is g) (first ∷ others))

listed_back : (g : Game) (kind : Kind) (nodes : List (NodeId × ℕ)) → lines_of (reply_value g (Listed kind nodes)) ≡ reply_lines g (Listed kind nodes)
unfolding all_members
listed_back g kind nodes =
    ap₂ (λ (n : ℕ) ls. (codes "list" ∷ kind_word kind ∷ decimal n ∷ []) ∷ ls)
    (length_listed (ranked_value g) nodes)
    (read_all (ranked_value g) ranked_in (ranked_line g) (ranked_is g) nodes)

missing_back : (g : Game) (node : NodeId) (reached forbidden : Bool) (groups : List (Bool × List NodeId))
    → lines_of (reply_value g (Missing node reached forbidden groups)) ≡ reply_lines g (Missing node reached forbidden groups)
unfolding all_members
missing_back g node true forbidden groups = refl
missing_back g node false forbidden groups =
    ap (λ ls. (codes "missing" ∷ node_word g node ∷ []) ∷ (forbidden_lines forbidden ++ ls)) (read_all (group_value g) group_in (group_line g) (group_is g) groups)

mask_back : (g : Game) (node : NodeId) (reached : Bool) (milestones : List NodeId) → lines_of (reply_value g (Mask node reached milestones)) ≡ reply_lines g (Mask node reached milestones)
unfolding all_members
mask_back g node false milestones = refl
mask_back g node true [] = refl
mask_back g node true (first ∷ others) = ap (λ ws. (codes "mask" ∷ node_word g node ∷ ws) ∷ []) (nodes_are g (first ∷ others))

milestones_back : (g : Game) (nodes : List NodeId) → lines_of (reply_value g (Milestones nodes)) ≡ reply_lines g (Milestones nodes)
unfolding all_members
milestones_back g nodes =
    ap₂ (λ (n : ℕ) ls. (codes "milestones" ∷ decimal n ∷ []) ∷ ls)
    (length_listed (id_value g) nodes)
    (read_all (id_value g) (λ node. word_in node ∷ []) (λ node. node_word g node ∷ []) (λ node. ap (λ w. w ∷ []) (node_is g node)) nodes)

-- ---- plans
figure_is : (figure : Option Fraction) → figure_in (figure_value figure) ≡ figure_word figure
unfolding all_members
figure_is None = refl
figure_is (Some x) = refl

uses_are : (f : Figures) → figures_in use_keys (object (with_uses f no_members)) ≡ use_words f
unfolding all_members
uses_are f = simp figure_is

row_is : (row : List ℕ × (Fraction × Figures)) → row_in (row_value row) ≡ row_line row
unfolding all_members
row_is row = simp figure_is

stream_is : (g : Game) (kind : List ℕ) (good : GoodId) (rate : Fraction) → stream_in (stream_value g kind good rate) ≡ kind ∷ good_word g good ∷ printed rate ∷ []
unfolding all_members
stream_is g kind good rate = ap (λ w. kind ∷ w ∷ printed rate ∷ []) (good_is g good)

streams_are : (g : Game) (columns : List (Column × Fraction)) → map stream_in (listed (items_of (flat_map (streams_of g) columns))) ≡ flat_map (stream_lines g) columns
streams_are g [] = refl
streams_are g ((TableRow row, rate) ∷ columns) = streams_are g columns
streams_are g ((Import good, rate) ∷ columns) = ap₂ (λ l ls. l ∷ ls) (stream_is g (codes "import") good rate) (streams_are g columns)
streams_are g ((Surplus good, rate) ∷ columns) = ap₂ (λ l ls. l ∷ ls) (stream_is g (codes "surplus") good rate) (streams_are g columns)
streams_are g ((Single good, rate) ∷ columns) = streams_are g columns

price_is : (g : Game) (good : GoodId × Fraction) → price_in (price_value g good) ≡ price_line g good
unfolding all_members
price_is g good = ap (λ w. codes "price" ∷ w ∷ printed good.1 ∷ []) (good_is g good.0)

prices_are : (g : Game) (goods : List GoodId) (prices : List Fraction) → map price_in (listed (items_of (map (price_value g) (zip goods prices)))) ≡ price_lines g goods prices
prices_are g goods prices = read_all (price_value g) price_in (price_line g) (price_is g) (zip goods prices)

-- the parts of a plan
plan_parts : (head : Line) (a a' b b' c c' : List Line) (t t' : Line) → a ≡ a' → b ≡ b' → c ≡ c' → t ≡ t'
    → head ∷ (a ++ (b ++ (c ++ (codes "total" ∷ t) ∷ []))) ≡ head ∷ (a' ++ (b' ++ (c' ++ (codes "total" ∷ t') ∷ [])))
plan_parts head a a' b b' c c' t t' p q r s = cc

plan_back : (g : Game) (table : List ℕ) (labels : List (List ℕ)) (goods : List GoodId) (columns : List Column) (rows : List Figures) (total : Figures) (plan : Plan)
    → lines_of (reply_value g (Solved table labels goods columns rows total (Planned plan))) ≡ reply_lines g (Solved table labels goods columns rows total (Planned plan))
unfolding all_members
plan_back g table labels goods columns rows total plan =
    plan_parts (codes "plan" ∷ printed_word table ∷ codes "cost" ∷ printed plan.cost ∷ [])
    (map row_in (listed (items_of (map row_value (zip labels (zip plan.rates rows))))))
    (map row_line (zip labels (zip plan.rates rows)))
    (map stream_in (listed (items_of (flat_map (streams_of g) (zip columns plan.rates)))))
    (flat_map (stream_lines g) (zip columns plan.rates))
    (map price_in (listed (items_of (map (price_value g) (zip goods plan.prices)))))
    (price_lines g goods plan.prices)
    (figures_in use_keys (object (with_uses total no_members)))
    (use_words total)
    (read_all row_value row_in row_line row_is (zip labels (zip plan.rates rows)))
    (streams_are g (zip columns plan.rates))
    (prices_are g goods plan.prices)
    (uses_are total)

infeasible_back : (g : Game) (table : List ℕ) (labels : List (List ℕ)) (goods : List GoodId) (columns : List Column) (rows : List Figures) (total : Figures) (prices : List Fraction)
    → lines_of (reply_value g (Solved table labels goods columns rows total (Infeasible prices))) ≡ reply_lines g (Solved table labels goods columns rows total (Infeasible prices))
unfolding all_members
infeasible_back g table labels goods columns rows total prices = ap (λ ls. (codes "infeasible" ∷ printed_word table ∷ []) ∷ ls) (prices_are g goods prices)

-- ---- what is past the limits
name_is : (g : Game) (labels : List (List ℕ)) (column : Column) → printed_word (column_id g labels column) ≡ column_name g labels column
name_is g labels (TableRow row) = refl
name_is g labels (Import good) = good_is g good
name_is g labels (Surplus good) = good_is g good
name_is g labels (Single good) = good_is g good

exchange_is : (g : Game) (labels : List (List ℕ)) (e : Exchange) → exchange_in (exchange_value g labels e) ≡ exchange_line g labels e
unfolding all_members
exchange_is g labels e =
    ap₂ (λ v w. codes "enter" ∷ column_kind e.enter ∷ v ∷ codes "leave" ∷ column_kind e.leave ∷ w ∷ []) (name_is g labels e.enter) (name_is g labels e.leave)

place_is : (g : Game) (labels : List (List ℕ)) (place : Place) → place_in (object (with_place g labels place no_members)) ≡ place_line g labels place
unfolding all_members
place_is g labels (Entry column row) = ap (λ w. codes "entry" ∷ column_kind column ∷ w ∷ decimal row ∷ []) (name_is g labels column)
place_is g labels (Value row) = refl
place_is g labels (Reduced column) = ap (λ w. codes "reduced" ∷ column_kind column ∷ w ∷ []) (name_is g labels column)
place_is g labels Total = refl

trail_is : (g : Game) (labels : List (List ℕ)) (trail : List Exchange) → map exchange_in (listed (items_of (map (exchange_value g labels) trail))) ≡ map (exchange_line g labels) trail
trail_is g labels trail = read_all (exchange_value g labels) exchange_in (exchange_line g labels) (exchange_is g labels) trail

wide_parts : (head : Line) (a a' : List Line) (n n' p p' : Line) → a ≡ a' → n ≡ n' → p ≡ p' → head ∷ (a ++ ((codes "next" ∷ n) ∷ p ∷ [])) ≡ head ∷ (a' ++ ((codes "next" ∷ n') ∷ p' ∷ []))
wide_parts head a a' n n' p p' x y z = cc

wide_back : (g : Game) (table : List ℕ) (labels : List (List ℕ)) (goods : List GoodId) (columns : List Column) (rows : List Figures) (total : Figures) (trail : List Exchange) (next : Exchange) (place : Place)
    → lines_of (reply_value g (Solved table labels goods columns rows total (TooWide trail next place))) ≡ reply_lines g (Solved table labels goods columns rows total (TooWide trail next place))
unfolding all_members
wide_back g table labels goods columns rows total trail next place =
    wide_parts (codes "refused" ∷ codes "V1" ∷ printed_word table ∷ [])
    (map exchange_in (listed (items_of (map (exchange_value g labels) trail))))
    (map (exchange_line g labels) trail)
    (exchange_in (exchange_value g labels next))
    (exchange_line g labels next)
    (place_in (object (with_place g labels place no_members)))
    (place_line g labels place)
    (trail_is g labels trail)
    (exchange_is g labels next)
    (place_is g labels place)

budget_back : (g : Game) (table : List ℕ) (labels : List (List ℕ)) (goods : List GoodId) (columns : List Column) (rows : List Figures) (total : Figures) (trail : List Exchange)
    → lines_of (reply_value g (Solved table labels goods columns rows total (OutOfBudget trail))) ≡ reply_lines g (Solved table labels goods columns rows total (OutOfBudget trail))
unfolding all_members
budget_back g table labels goods columns rows total trail = ap (λ ls. (codes "refused" ∷ codes "V2" ∷ printed_word table ∷ []) ∷ ls) (trail_is g labels trail)

-- ---- refusals
effect_is : (kind : EffectKind) → printed_word (effect_word kind) ≡ effect_word kind
unfolding printed_word
effect_is Speed = refl
effect_is Productivity = refl
effect_is Consumption = refl
effect_is Pollution = refl

detail_is : (g : Game) (detail : Detail) → map word_in (listed (detail_items g detail)) ≡ detail_words g detail
unfolding all_members
detail_is g Bare = refl
detail_is g (Word (Some kind) name) = refl
detail_is g (Word None name) = refl
detail_is g (Node node) = refl
detail_is g (Effect node kind) = ap (λ w. node_word g node ∷ w ∷ []) (effect_is kind)
detail_is g (Row label step) = refl

refused_back : (g : Game) (code : RefusalCode) (detail : Detail) (at : Option ℕ) → lines_of (reply_value g (Refused code detail at)) ≡ reply_lines g (Refused code detail at)
unfolding all_members
refused_back g code detail None = ap (λ ws. (codes "refused" ∷ code_word code ∷ (ws ++ [])) ∷ []) (detail_is g detail)
refused_back g code detail (Some line) = ap (λ ws. (codes "refused" ∷ code_word code ∷ (ws ++ codes "at" ∷ decimal line ∷ [])) ∷ []) (detail_is g detail)

-- ---- every reply
pub reply_back : (g : Game) (reply : Reply) → lines_of (reply_value g reply) ≡ reply_lines g reply
unfolding all_members
reply_back g Ok = refl
reply_back g Nothing = refl
reply_back g Held = refl
reply_back g (Reach node rank) = refl
reply_back g (Listed kind nodes) = listed_back g kind nodes
reply_back g (Why node nodes) = why_back g node nodes
reply_back g (Missing node reached forbidden groups) = missing_back g node reached forbidden groups
reply_back g (Mask node reached milestones) = mask_back g node reached milestones
reply_back g (Milestones nodes) = milestones_back g nodes
reply_back g (Summary reached nodes milestones bits tables done undone) = refl
reply_back g (Rate table label effects rates beacons) = refl
reply_back g (Solved table labels goods columns rows total (Planned plan)) = plan_back g table labels goods columns rows total plan
reply_back g (Solved table labels goods columns rows total (Infeasible prices)) = infeasible_back g table labels goods columns rows total prices
reply_back g (Solved table labels goods columns rows total (TooWide trail next place)) = wide_back g table labels goods columns rows total trail next place
reply_back g (Solved table labels goods columns rows total (OutOfBudget trail)) = budget_back g table labels goods columns rows total trail
reply_back g (Refused code detail at) = refused_back g code detail at
