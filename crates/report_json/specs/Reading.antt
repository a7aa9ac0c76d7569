-- How the object of a reply is read: as the lines of words that are printed for the reply (`plan_report/specs/Layout`). Decimals are passed
-- over.
use Rattle.std.specs.Prelude.{ℕ, ◌==◌, Bool, true, false, List, [], ◌∷◌, ◌++◌, Option, Some, None, codes, decimal, if◌then◌else◌, length, map, bytes_eq, unwrap_or}
use Rattle.std.specs.List.{flat_map}
use Rattle.plan_report.specs.Layout.{Line}
use Rattle.plan_report.specs.Questions.{forbidden_lines}
use Rattle.plan_report.specs.Words.{printed_word}
use Rattle.serde_json.specs.Data.{array, boolean, Data, item, Items, Members, negative, no_items, no_members, null, Num, number, object, string, unsigned, float}
use Rattle.serde_json.specs.Find.{get}

-- ---- members
-- the member of a name, or null
abbrev pub field : List ℕ → Data → Data
field key d = unwrap_or (get key d) null

abbrev pub text_in : Data → List ℕ
text_in (string s) = s
text_in other = []

abbrev pub count_of_num : Num → ℕ
count_of_num (unsigned n) = n
count_of_num other = 0

abbrev pub count_in : Data → ℕ
count_in (number n) = count_of_num n
count_in other = 0

abbrev pub flag_in : Data → Bool
flag_in (boolean b) = b
flag_in other = false

abbrev pub listed : Items → List Data
listed no_items = []
listed (item d ds) = d ∷ listed ds

abbrev pub list_in : Data → List Data
list_in (array ds) = listed ds
list_in other = []

-- ---- words
-- a text is printed as a word, between quotes where it needs them, and a whole number in decimal
abbrev pub word_in : Data → List ℕ
word_in (string s) = printed_word s
word_in (number n) = decimal (count_of_num n)
word_in other = []

-- the exact text of a number
abbrev pub exact_in : Data → List ℕ
exact_in d = text_in (field (codes "exact") d)

-- a figure past the limits is null
abbrev pub figure_in : Data → List ℕ
figure_in null = codes "wide"
figure_in (boolean b) = []
figure_in (number n) = []
figure_in (string s) = []
figure_in (array ds) = []
figure_in (object ms) = exact_in (object ms)

-- the words `KEY NUMBER` of some keys
abbrev pub numbers_in : List (List ℕ) → Data → Line
numbers_in keys d = flat_map (λ key. key ∷ exact_in (field key d) ∷ []) keys

abbrev pub figures_in : List (List ℕ) → Data → Line
figures_in keys d = flat_map (λ key. key ∷ figure_in (field key d) ∷ []) keys

-- ---- questions
abbrev pub node_in : Data → List ℕ
node_in d = word_in (field (codes "node") d)

abbrev pub ranked_in : Data → Line
ranked_in d = node_in d ∷ codes "rank" ∷ decimal (count_in (field (codes "rank") d)) ∷ []

abbrev pub reach_in : Data → List Line
reach_in d =
    (if count_in (field (codes "rank") d) == 0 then codes "reach" ∷ node_in d ∷ codes "no" ∷ []
    else codes "reach" ∷ node_in d ∷ codes "rank" ∷ decimal (count_in (field (codes "rank") d)) ∷ []) ∷ []

abbrev pub listed_in : Data → List Line
listed_in d =
    (codes "list" ∷ text_in (field (codes "of") d) ∷ decimal (length (list_in (field (codes "nodes") d))) ∷ []) ∷ map ranked_in (list_in (field (codes "nodes") d))

abbrev pub support_in : Data → Line
support_in d =
    if flag_in (field (codes "granted") d) then node_in d ∷ codes "rank" ∷ decimal (count_in (field (codes "rank") d)) ∷ codes "granted" ∷ []
    else node_in d ∷ codes "rank" ∷ decimal (count_in (field (codes "rank") d)) ∷ []

abbrev pub why_lines_in : List ℕ → List Data → List Line
why_lines_in node [] = (codes "why" ∷ node ∷ codes "no" ∷ []) ∷ []
why_lines_in node (first ∷ others) = (codes "why" ∷ node ∷ []) ∷ map support_in (first ∷ others)

abbrev pub why_in : Data → List Line
why_in d = why_lines_in (node_in d) (list_in (field (codes "by") d))

abbrev pub group_in : Data → Line
group_in d = (if flag_in (field (codes "all") d) then codes "all" else codes "any") ∷ map word_in (list_in (field (codes "nodes") d))

abbrev pub missing_in : Data → List Line
missing_in d =
    if flag_in (field (codes "reached") d) then (codes "missing" ∷ node_in d ∷ codes "none" ∷ []) ∷ []
    else (codes "missing" ∷ node_in d ∷ []) ∷ (forbidden_lines (flag_in (field (codes "forbidden") d)) ++ map group_in (list_in (field (codes "groups") d)))

abbrev pub mask_words_in : Bool → List Data → Line
mask_words_in false milestones = codes "unreached" ∷ []
mask_words_in true [] = codes "none" ∷ []
mask_words_in true (first ∷ others) = map word_in (first ∷ others)

abbrev pub mask_in : Data → List Line
mask_in d = (codes "mask" ∷ node_in d ∷ mask_words_in (flag_in (field (codes "reached") d)) (list_in (field (codes "milestones") d))) ∷ []

abbrev pub milestones_in : Data → List Line
milestones_in d =
    (codes "milestones" ∷ decimal (length (list_in (field (codes "milestones") d))) ∷ []) ∷ map (λ node. word_in node ∷ []) (list_in (field (codes "milestones") d))

abbrev pub whole_in : List ℕ → Data → List ℕ
whole_in key d = decimal (count_in (field key d))

abbrev pub summary_in : Data → List Line
summary_in d =
    (codes "summary" ∷ codes "reached" ∷ whole_in (codes "reached") d ∷ codes "of" ∷ whole_in (codes "nodes") d ∷ codes "milestones" ∷ whole_in (codes "milestones") d
    ∷ codes "bits" ∷ whole_in (codes "bits") d ∷ codes "tables" ∷ whole_in (codes "tables") d ∷ codes "done" ∷ whole_in (codes "done") d
    ∷ codes "undone" ∷ whole_in (codes "undone") d ∷ []) ∷ []

-- ---- rates
abbrev pub effect_keys : List (List ℕ)
effect_keys = codes "speed" ∷ codes "productivity" ∷ codes "consumption" ∷ codes "pollution" ∷ []

abbrev pub take_keys : List (List ℕ)
take_keys = codes "machines" ∷ codes "power" ∷ codes "drain" ∷ codes "fuel" ∷ codes "emits" ∷ codes "beacons" ∷ []

abbrev pub rate_in : Data → List Line
rate_in d =
    (codes "rate" ∷ word_in (field (codes "table") d) ∷ word_in (field (codes "row") d)
    ∷ (numbers_in effect_keys (field (codes "effects") d) ++ numbers_in take_keys (field (codes "takes") d))) ∷ []

-- ---- plans
abbrev pub use_keys : List (List ℕ)
use_keys = codes "power" ∷ codes "drain" ∷ codes "beacons" ∷ codes "pollution" ∷ []

abbrev pub row_in : Data → Line
row_in d =
    codes "row" ∷ word_in (field (codes "row") d) ∷ codes "rate" ∷ exact_in (field (codes "rate") d)
    ∷ (figures_in (codes "machines" ∷ codes "count" ∷ []) d ++ figures_in use_keys d)

abbrev pub stream_in : Data → Line
stream_in d = text_in (field (codes "kind") d) ∷ word_in (field (codes "good") d) ∷ exact_in (field (codes "rate") d) ∷ []

abbrev pub price_in : Data → Line
price_in d = codes "price" ∷ word_in (field (codes "good") d) ∷ exact_in (field (codes "price") d) ∷ []

abbrev pub prices_in : Data → List Line
prices_in d = map price_in (list_in (field (codes "prices") d))

abbrev pub plan_in : Data → List Line
plan_in d =
    (codes "plan" ∷ word_in (field (codes "table") d) ∷ codes "cost" ∷ exact_in (field (codes "cost") d) ∷ [])
    ∷ (map row_in (list_in (field (codes "rows") d)) ++ (map stream_in (list_in (field (codes "streams") d))
    ++ (prices_in d ++ (codes "total" ∷ figures_in use_keys (field (codes "total") d)) ∷ [])))

abbrev pub infeasible_in : Data → List Line
infeasible_in d = (codes "infeasible" ∷ word_in (field (codes "table") d) ∷ []) ∷ prices_in d

-- ---- refusals
abbrev pub column_in : Data → Line
column_in d = text_in (field (codes "column") d) ∷ word_in (field (codes "name") d) ∷ []

abbrev pub exchange_in : Data → Line
exchange_in d = codes "enter" ∷ (column_in (field (codes "enter") d) ++ codes "leave" ∷ column_in (field (codes "leave") d))

-- the number that is past the limits
abbrev pub place_by : List ℕ → Data → Line
place_by kind d =
    if bytes_eq kind (codes "entry") then codes "entry" ∷ (column_in d ++ whole_in (codes "row") d ∷ [])
    else if bytes_eq kind (codes "value") then codes "value" ∷ whole_in (codes "row") d ∷ []
    else if bytes_eq kind (codes "reduced") then codes "reduced" ∷ column_in d
    else codes "total" ∷ []

abbrev pub place_in : Data → Line
place_in d = place_by (text_in (field (codes "number") d)) d

abbrev pub trail_in : Data → List Line
trail_in d = map exchange_in (list_in (field (codes "trail") d))

abbrev pub unsolved_head : Data → Line
unsolved_head d = codes "refused" ∷ text_in (field (codes "code") d) ∷ word_in (field (codes "table") d) ∷ []

abbrev pub too_wide_in : Data → List Line
too_wide_in d = unsolved_head d ∷ (trail_in d ++ ((codes "next" ∷ exchange_in (field (codes "next") d)) ∷ place_in (field (codes "place") d) ∷ []))

abbrev pub out_of_budget_in : Data → List Line
out_of_budget_in d = unsolved_head d ∷ trail_in d

-- the line of a batch, where there is one
abbrev pub at_in : Data → Line
at_in (number n) = codes "at" ∷ decimal (count_of_num n) ∷ []
at_in other = []

abbrev pub refused_in : Data → List Line
refused_in d = (codes "refused" ∷ text_in (field (codes "code") d) ∷ (map word_in (list_in (field (codes "words") d)) ++ at_in (field (codes "at") d))) ∷ []

-- the solver's refusals have a trail
abbrev pub refusal_in : Data → Data → List Line
refusal_in null d = refused_in d
refusal_in trail d = (if bytes_eq (text_in (field (codes "code") d)) (codes "V1") then too_wide_in d else out_of_budget_in d)

-- ---- every reply
abbrev pub lines_by : List ℕ → Data → List Line
lines_by kind d =
    if bytes_eq kind (codes "ok") then (codes "ok" ∷ []) ∷ []
    else if bytes_eq kind (codes "held") then (codes "held" ∷ []) ∷ []
    else if bytes_eq kind (codes "reach") then reach_in d
    else if bytes_eq kind (codes "list") then listed_in d
    else if bytes_eq kind (codes "why") then why_in d
    else if bytes_eq kind (codes "missing") then missing_in d
    else if bytes_eq kind (codes "mask") then mask_in d
    else if bytes_eq kind (codes "milestones") then milestones_in d
    else if bytes_eq kind (codes "summary") then summary_in d
    else if bytes_eq kind (codes "rate") then rate_in d
    else if bytes_eq kind (codes "plan") then plan_in d
    else if bytes_eq kind (codes "infeasible") then infeasible_in d
    else if bytes_eq kind (codes "refused") then refusal_in (field (codes "trail") d) d
    else []

-- the lines of words that are printed for the reply whose object this is
unfoldable pub lines_of : Data → List Line
lines_of d = lines_by (text_in (field (codes "kind") d)) d
