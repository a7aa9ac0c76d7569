-- Words say one thing at most.
use Rattle.std.specs.Prelude.{◌≡◌, ◌≢◌, ℕ, ◌<◌, ◌+◌, Bool, true, false, ◌==◌, List, [], ◌∷◌, ◌++◌, codes, length, drop, Option, Some, None, Result, Ok, Err, MatchOption, if◌then◌else◌}
use Rattle.std.proofs.Common.{refl, sym, ap, subst, ◌∙◌, inl, inr, arith}
use Rattle.fractions.specs.Fraction.{Fraction}
use Rattle.fractions.specs.Numeral.{numeral_value}
use Rattle.fractions.specs.Quotient.{quotient_value}
use Rattle.fractions.specs.Reading.{ReadsRatio}
use Rattle.fractions.proofs.Grammar.{numeral_found, quotient_found}
use Rattle.fractions.proofs.ReadsAs.{same_numeral, same_quotient, not_both}
use Rattle.plan_base.specs.declared.shape.Kind.{Kind}
use Rattle.plan_base.specs.declared.shape.Kind.TheVariants.{Special, Item, Fluid, Recipe, Source, Machine, Tech}
use Rattle.plan_lines.specs.declared.change.Object.{Object}
use Rattle.plan_lines.specs.declared.change.RowPart.{RowPart}
use Rattle.plan_lines.specs.declared.change.RowPart.TheVariants as row
use Rattle.script_reader.specs.declared.fault.ScriptFault.{ScriptFault}
use Rattle.script_reader.specs.declared.fault.ScriptFault.TheVariants.{UnknownCommand, WrongWords, BadNumber, BadQuoting, BadObject}
use Rattle.script_reader.specs.declared.command_words.CommandWord.{CommandWord}
use Rattle.script_reader.specs.declared.command_words.CommandWord.TheVariants.{Reach, Why, Missing, Mask, List as ListWord, Milestones, Summary, Rate, Solve, Quiet, Undo, Redo, Batch, End, Cancel, Grant, Revoke, Forbid, Permit, Milestone, Unmilestone, Ingredient, Product, Unlock, Time, Enabled, Table, Untable, Row, Unrow, Price, Want, Import, Surplus, Power}
use Rattle.script_reader.specs.declared.fields.Place.{Place}
use Rattle.script_reader.specs.declared.fields.Place.TheVariants.{Node, Good, OneRecipe, OneTech, OneItem, OneFluid, OneMachine, Activity, TableGood}
use Rattle.script_reader.specs.declared.parts.PartWords.{PartWords}
use Rattle.script_reader.specs.declared.parts.PartWords.TheVariants.{Fuel, Module, Beacon, In, At}
use Rattle.script_reader.specs.Fields.{kind_word, IsObjectAt, WritesCount}
use Rattle.script_reader.specs.Commands.{command_word}
use Rattle.script_reader.specs.PartWords.{ArePartsOf}
use Rattle.script_reader.specs.Reading.{gives, refuses, the_one, and_then, no_word, one_word, two_words, three_words, five_words}
use Rattle.script_reader.specs.Arguments.{object, kind, count, ratio, ratio_or, switch_word, switch, no_words, node_words, kind_words, text_words, label_words, solve_words, switch_words, good_of_recipe_words, unlock_words, time_words, enabled_words, price_words, want_words, price_of_good_words, count_words, beacon_words, part_words, power_words, add_part, add_parts, parts_behind, row_words, arguments, named, command_of_words}
use Rattle.script_reader.specs.Lines.{has_no_command, utf8, spelled, command_unless, command_of_line}
use Rattle.script_reader.proofs.Spelling.{one_reading}
use Rattle.script_reader.proofs.PartLemmas.{one_list}

abbrev pub One : {A : Type 0} → (Result A ScriptFault → Type 0) → Type 0
One {A = A} reading = (r s : Result A ScriptFault) → reading r → reading s → r ≡ s

-- ---- readings of readings
one_gives : {A : Type 0} (a : A) → One (gives a)
unfolding gives
one_gives a r s h k = h ∙ sym k

one_refuses : {A : Type 0} (fault : ScriptFault) → One {A = A} (refuses fault)
unfolding refuses
one_refuses fault r s h k = h ∙ sym k

one_the : {A : Type 0} (P : A → Type 0) (fault : ScriptFault) → ((a b : A) → P a → P b → a ≡ b) → One (the_one P fault)
unfolding the_one
one_the P fault u (Ok a) (Ok b) h k = ap Ok (u a b h k)
one_the P fault u (Ok a) (Err g) h k = absurd (k.1 a h)
one_the P fault u (Err f) (Ok b) h k = absurd (h.1 b k)
one_the P fault u (Err f) (Err g) h k = ap Err (h.0 ∙ sym k.0)

abbrev ok_of : {A : Type 0} → A → Result A ScriptFault
ok_of a = Ok a

abbrev err_of : {A : Type 0} → ScriptFault → Result A ScriptFault
err_of f = Err f

same_ok : {A : Type 0} (a b : A) → ok_of a ≡ ok_of b → a ≡ b
same_ok a b e = cc

same_err : {A : Type 0} (f g : ScriptFault) → err_of {A = A} f ≡ err_of g → f ≡ g
same_err f g e = cc

not_same : {A : Type 0} (a : A) (f : ScriptFault) → ok_of a ≡ err_of f → ⊥
not_same a f e = cc

one_then : {A B : Type 0} (first : Result A ScriptFault → Type 0) (next : A → Result B ScriptFault → Type 0) → One first → ((a : A) → One (next a)) → One (and_then first next)
unfolding and_then
one_then first next u v (Ok b) (Ok d) h k =
    v k.0 (Ok b) (Ok d) (subst (λ a. next a (Ok b)) (same_ok h.0 k.0 (u (Ok h.0) (Ok k.0) h.1 k.1)) h.2) k.2
one_then first next u v (Ok b) (Err g) h (inl k) = absurd (not_same h.0 g (u (Ok h.0) (Err g) h.1 k))
one_then first next u v (Ok b) (Err g) h (inr k) =
    v k.0 (Ok b) (Err g) (subst (λ a. next a (Ok b)) (same_ok h.0 k.0 (u (Ok h.0) (Ok k.0) h.1 k.1)) h.2) k.2
one_then first next u v (Err f) (Ok d) (inl h) k = absurd (not_same k.0 f (u (Ok k.0) (Err f) k.1 h))
one_then first next u v (Err f) (Ok d) (inr h) k =
    v k.0 (Err f) (Ok d) (subst (λ a. next a (Err f)) (same_ok h.0 k.0 (u (Ok h.0) (Ok k.0) h.1 k.1)) h.2) k.2
one_then first next u v (Err f) (Err g) (inl h) (inl k) = ap Err (same_err f g (u (Err f) (Err g) h k))
one_then first next u v (Err f) (Err g) (inl h) (inr k) = absurd (not_same k.0 f (u (Ok k.0) (Err f) k.1 h))
one_then first next u v (Err f) (Err g) (inr h) (inl k) = absurd (not_same h.0 g (u (Ok h.0) (Err g) h.1 k))
one_then first next u v (Err f) (Err g) (inr h) (inr k) =
    v k.0 (Err f) (Err g) (subst (λ a. next a (Err f)) (same_ok h.0 k.0 (u (Ok h.0) (Ok k.0) h.1 k.1)) h.2) k.2

one_last : {A B : Type 0} (first : Result A ScriptFault → Type 0) (make : A → B) → One first → One (and_then first (λ a. gives (make a)))
one_last first make u = one_then first (λ a. gives (make a)) u (λ a. one_gives (make a))

one_none : {A : Type 0} (reading : Result A ScriptFault → Type 0) → One reading → (words : List (List ℕ)) → One (no_word reading words)
unfolding no_word
one_none reading u [] = u
one_none reading u (a ∷ words) = one_refuses WrongWords

one_one : {A : Type 0} (reading : List ℕ → Result A ScriptFault → Type 0) → ((a : List ℕ) → One (reading a)) → (words : List (List ℕ)) → One (one_word reading words)
unfolding one_word
one_one reading u [] = one_refuses WrongWords
one_one reading u (a ∷ []) = u a
one_one reading u (a ∷ b ∷ words) = one_refuses WrongWords

one_two : {A : Type 0} (reading : List ℕ → List ℕ → Result A ScriptFault → Type 0) → ((a b : List ℕ) → One (reading a b)) → (words : List (List ℕ)) → One (two_words reading words)
unfolding two_words
one_two reading u [] = one_refuses WrongWords
one_two reading u (a ∷ []) = one_refuses WrongWords
one_two reading u (a ∷ b ∷ []) = u a b
one_two reading u (a ∷ b ∷ c ∷ words) = one_refuses WrongWords

one_three : {A : Type 0} (reading : List ℕ → List ℕ → List ℕ → Result A ScriptFault → Type 0) → ((a b c : List ℕ) → One (reading a b c)) → (words : List (List ℕ)) → One (three_words reading words)
unfolding three_words
one_three reading u [] = one_refuses WrongWords
one_three reading u (a ∷ []) = one_refuses WrongWords
one_three reading u (a ∷ b ∷ []) = one_refuses WrongWords
one_three reading u (a ∷ b ∷ c ∷ []) = u a b c
one_three reading u (a ∷ b ∷ c ∷ d ∷ words) = one_refuses WrongWords

one_five : {A : Type 0} (reading : List ℕ → List ℕ → List ℕ → List ℕ → List ℕ → List (List ℕ) → Result A ScriptFault → Type 0) → ((a b c d e : List ℕ) (rest : List (List ℕ)) → One (reading a b c d e rest)) → (words : List (List ℕ)) → One (five_words reading words)
unfolding five_words
one_five reading u [] = one_refuses WrongWords
one_five reading u (a ∷ []) = one_refuses WrongWords
one_five reading u (a ∷ b ∷ []) = one_refuses WrongWords
one_five reading u (a ∷ b ∷ c ∷ []) = one_refuses WrongWords
one_five reading u (a ∷ b ∷ c ∷ d ∷ []) = one_refuses WrongWords
one_five reading u (a ∷ b ∷ c ∷ d ∷ e ∷ words) = u a b c d e words

-- ---- one word
-- the kind whose name stands in front
kind_there : List ℕ → Kind
kind_there [] = Item
kind_there (c ∷ []) = Item
kind_there (c ∷ d ∷ cs) =
    if c == 115 then (if d == 112 then Special else Source)
    else if c == 102 then Fluid
    else if c == 114 then Recipe
    else if c == 109 then Machine
    else if c == 116 then Tech
    else Item

kind_found : (k : Kind) (rest : List ℕ) → kind_there (kind_word k ++ rest) ≡ k
unfolding kind_there
kind_found Special rest = refl
kind_found Item rest = refl
kind_found Fluid rest = refl
kind_found Recipe rest = refl
kind_found Source rest = refl
kind_found Machine rest = refl
kind_found Tech rest = refl

kind_alone : (k : Kind) → kind_there (kind_word k) ≡ k
unfolding kind_there
kind_alone Special = refl
kind_alone Item = refl
kind_alone Fluid = refl
kind_alone Recipe = refl
kind_alone Source = refl
kind_alone Machine = refl
kind_alone Tech = refl

name_found : (k : Kind) (name : List ℕ) → drop (length (kind_word k) + 1) (kind_word k ++ 58 ∷ name) ≡ name
name_found Special name = refl
name_found Item name = refl
name_found Fluid name = refl
name_found Recipe name = refl
name_found Source name = refl
name_found Machine name = refl
name_found Tech name = refl

same_object : (o p : Object) → o.kind ≡ p.kind → o.name ≡ p.name → o ≡ p
same_object o p e f = ap (λ (k : Kind). (let q : Object = record { kind = k; name = o.name } in q)) e ∙ ap (λ (l : List ℕ). (let q : Object = record { kind = p.kind; name = l } in q)) f

one_object_at : (place : Place) (word : List ℕ) (o p : Object) → IsObjectAt place word o → IsObjectAt place word p → o ≡ p
one_object_at place word o p h k =
    let e : kind_word o.kind ++ 58 ∷ o.name ≡ kind_word p.kind ++ 58 ∷ p.name = sym h.writes.word_is ∙ k.writes.word_is in
    let kinds : o.kind ≡ p.kind = sym (kind_found o.kind (58 ∷ o.name)) ∙ (ap kind_there e ∙ kind_found p.kind (58 ∷ p.name)) in
    same_object o p kinds (sym (name_found o.kind o.name) ∙ (ap (drop (length (kind_word o.kind) + 1)) e ∙ (ap (λ j. drop (length (kind_word j) + 1) (kind_word p.kind ++ 58 ∷ p.name)) kinds ∙ name_found p.kind p.name)))

one_object : (place : Place) (word : List ℕ) → One (object place word)
one_object place word = one_the (IsObjectAt place word) BadObject (one_object_at place word)

one_kind : (word : List ℕ) → One (kind word)
one_kind word = one_the _ BadObject (λ k j h i. sym (kind_alone k) ∙ (ap kind_there (sym h ∙ i) ∙ kind_alone j))

one_count : (least most : ℕ) (word : List ℕ) → One (count least most word)
one_count least most word = one_the (WritesCount least most word) BadNumber (λ m n h k. h.value ∙ sym k.value)

one_amount : (word : List ℕ) (x y : Fraction) → ReadsRatio word (Ok x) → ReadsRatio word (Ok y) → x ≡ y
one_amount word x y (inl n) (inl m) = n.2.1 ∙ (ap numeral_value (same_numeral word n.0 m.0 (numeral_found word n.0 n.1) m.1) ∙ sym m.2.1)
one_amount word x y (inl n) (inr q) = absurd (not_both word n.0 q.0 n.1 q.1)
one_amount word x y (inr q) (inl m) = absurd (not_both word m.0 q.0 m.1 q.1)
one_amount word x y (inr p) (inr q) = p.2.1 ∙ (ap quotient_value (same_quotient word p.0 q.0 (quotient_found word p.0 p.1) q.1) ∙ sym q.2.1)

one_ratio : (word : List ℕ) → One (ratio word)
one_ratio word = one_the (λ x. ReadsRatio word (Ok x)) BadNumber (one_amount word)

one_ratio_or : (other word : List ℕ) → One (ratio_or other word)
one_ratio_or other word = one_the (λ x. MatchOption x (word ≡ other) (λ y. (word ≢ other) × ReadsRatio word (Ok y))) BadNumber by
  where
    by : (x y : Option Fraction) → MatchOption x (word ≡ other) (λ z. (word ≢ other) × ReadsRatio word (Ok z)) → MatchOption y (word ≡ other) (λ z. (word ≢ other) × ReadsRatio word (Ok z)) → x ≡ y
    by None None h k = refl
    by None (Some y) h k = absurd (k.0 h)
    by (Some x) None h k = absurd (h.0 k)
    by (Some x) (Some y) h k = ap Some (one_amount word x y h.1 k.1)

unequal : {X : Type 0} (a b : ℕ) → a < b → a ≡ b → X
unequal a b l e = absurd (omega arith)

one_switch : (word : List ℕ) → One (switch word)
one_switch word = one_the (λ on. word ≡ switch_word on) WrongWords by
  where
    by : (a b : Bool) → word ≡ switch_word a → word ≡ switch_word b → a ≡ b
    by true true h k = refl
    by true false h k = unequal 2 3 (omega arith) (ap length (sym h ∙ k))
    by false true h k = unequal 2 3 (omega arith) (ap length (sym k ∙ h))
    by false false h k = refl

-- ---- the words of a command
one_nothing : (words : List (List ℕ)) → One (no_words words)
one_nothing words = one_none _ (one_gives tt) words

one_node : (words : List (List ℕ)) → One (node_words words)
one_node words = one_one _ (one_object Node) words

one_kinds : (words : List (List ℕ)) → One (kind_words words)
one_kinds words = one_one _ one_kind words

one_text : (words : List (List ℕ)) → One (text_words words)
one_text words = one_one _ (λ text. one_gives text) words

one_label : (words : List (List ℕ)) → One (label_words words)
one_label words = one_two _ (λ table label. one_gives _) words

one_budget : (words : List (List ℕ)) → One (two_words (λ table budget. and_then (count 1 100000 budget) (λ steps. gives (let p : List ℕ × ℕ = (table, steps) in p))) words)
one_budget words = one_two _ (λ table budget. one_last _ _ (one_count 1 100000 budget)) words

one_solve : (words : List (List ℕ)) → One (solve_words words)
one_solve [] = one_budget []
one_solve (table ∷ []) = one_gives _
one_solve (table ∷ b ∷ words) = one_budget (table ∷ b ∷ words)

one_switches : (words : List (List ℕ)) → One (switch_words words)
one_switches words = one_one _ one_switch words

one_good_of_recipe : (words : List (List ℕ)) → One (good_of_recipe_words words)
one_good_of_recipe words = one_three _ (λ recipe good amount. one_then _ _ (one_object OneRecipe recipe) (λ r. one_then _ _ (one_object Good good) (λ g. one_last _ _ (one_ratio_or (codes "drop") amount)))) words

one_unlock : (words : List (List ℕ)) → One (unlock_words words)
one_unlock words = one_three _ (λ tech recipe on. one_then _ _ (one_switch on) (λ s. one_then _ _ (one_object OneTech tech) (λ t. one_last _ _ (one_object OneRecipe recipe)))) words

one_time : (words : List (List ℕ)) → One (time_words words)
one_time words = one_two _ (λ recipe seconds. one_then _ _ (one_object OneRecipe recipe) (λ r. one_last _ _ (one_ratio seconds))) words

one_enabled : (words : List (List ℕ)) → One (enabled_words words)
one_enabled words = one_two _ (λ recipe on. one_then _ _ (one_switch on) (λ s. one_last _ _ (one_object OneRecipe recipe))) words

one_price : (words : List (List ℕ)) → One (price_words words)
one_price words = one_three _ (λ table label price. one_last _ _ (one_ratio price)) words

one_want : (words : List (List ℕ)) → One (want_words words)
one_want words = one_three _ (λ table good amount. one_then _ _ (one_object TableGood good) (λ g. one_last _ _ (one_ratio amount))) words

one_price_of_good : (words : List (List ℕ)) → One (price_of_good_words words)
one_price_of_good words = one_three _ (λ table good price. one_then _ _ (one_object TableGood good) (λ g. one_last _ _ (one_ratio_or (codes "off") price))) words

one_power : (words : List (List ℕ)) → One (power_words words)
one_power words = one_two _ (λ table on. one_last _ _ (one_switch on)) words

-- ---- the parts of a row
one_counted : (make : Object → ℕ → RowPart) (item number : List ℕ) → One (count_words make item number)
one_counted make item number = one_then _ _ (one_object OneItem item) (λ o. one_last _ _ (one_count 0 65535 number))

one_beacon : (machine number share : List ℕ) → One (beacon_words machine number share)
one_beacon machine number share = one_then _ _ (one_object OneMachine machine) (λ o. one_then _ _ (one_count 0 65535 number) (λ n. one_last _ _ (one_count 0 65535 share)))

one_part_words : (part : PartWords) → One (part_words part)
one_part_words (Fuel item) = one_last _ _ (one_object OneItem item)
one_part_words (Module item number) = one_counted row.Module item number
one_part_words (Beacon machine number share) = one_beacon machine number share
one_part_words (In item number) = one_counted row.In item number
one_part_words (At fluid) = one_last _ _ (one_object OneFluid fluid)

one_part_more : (parts : List RowPart) (part : PartWords) → One (add_part parts part)
one_part_more parts part = one_last _ _ (one_part_words part)

one_parts_more : (parts : List RowPart) (words : List PartWords) → One (add_parts parts words)
one_parts_more parts [] = one_gives parts
one_parts_more parts (part ∷ rest) = one_then _ _ (one_part_more parts part) (λ more. one_parts_more more rest)

one_behind : (by : List ℕ) (words : List (List ℕ)) → One (parts_behind by words)
one_behind by words = one_the (λ parts. (by ≡ codes "by") × ArePartsOf words parts) WrongWords (λ parts others h k. one_list parts others (sym h.1.written ∙ k.1.written))

one_row : (words : List (List ℕ)) → One (row_words words)
one_row words = one_five _ (λ table label activity by machine rest.
    one_then _ _ (one_behind by rest) (λ parts. one_then _ _ (one_object Activity activity) (λ a. one_then _ _ (one_object OneMachine machine) (λ m. one_last _ _ (one_parts_more [] parts))))) words

-- ---- the commands
one_arguments : (word : CommandWord) (words : List (List ℕ)) → One (arguments word words)
one_arguments Reach words = one_last _ _ (one_node words)
one_arguments Why words = one_last _ _ (one_node words)
one_arguments Missing words = one_last _ _ (one_node words)
one_arguments Mask words = one_last _ _ (one_node words)
one_arguments ListWord words = one_last _ _ (one_kinds words)
one_arguments Milestones words = one_last _ _ (one_nothing words)
one_arguments Summary words = one_last _ _ (one_nothing words)
one_arguments Rate words = one_last _ _ (one_label words)
one_arguments Solve words = one_last _ _ (one_solve words)
one_arguments Quiet words = one_last _ _ (one_switches words)
one_arguments Undo words = one_last _ _ (one_nothing words)
one_arguments Redo words = one_last _ _ (one_nothing words)
one_arguments Batch words = one_last _ _ (one_nothing words)
one_arguments End words = one_last _ _ (one_nothing words)
one_arguments Cancel words = one_last _ _ (one_nothing words)
one_arguments Grant words = one_last _ _ (one_node words)
one_arguments Revoke words = one_last _ _ (one_node words)
one_arguments Forbid words = one_last _ _ (one_node words)
one_arguments Permit words = one_last _ _ (one_node words)
one_arguments Milestone words = one_last _ _ (one_node words)
one_arguments Unmilestone words = one_last _ _ (one_node words)
one_arguments Ingredient words = one_last _ _ (one_good_of_recipe words)
one_arguments Product words = one_last _ _ (one_good_of_recipe words)
one_arguments Unlock words = one_last _ _ (one_unlock words)
one_arguments Time words = one_last _ _ (one_time words)
one_arguments Enabled words = one_last _ _ (one_enabled words)
one_arguments Table words = one_last _ _ (one_text words)
one_arguments Untable words = one_last _ _ (one_text words)
one_arguments Row words = one_last _ _ (one_row words)
one_arguments Unrow words = one_last _ _ (one_label words)
one_arguments Price words = one_last _ _ (one_price words)
one_arguments Want words = one_last _ _ (one_want words)
one_arguments Import words = one_last _ _ (one_price_of_good words)
one_arguments Surplus words = one_last _ _ (one_price_of_good words)
one_arguments Power words = one_last _ _ (one_power words)

one_named : (word : Option CommandWord) (words : List (List ℕ)) → One (named word words)
one_named (Some word) words = one_arguments word words
one_named None words = one_refuses UnknownCommand

pub one_command : (words : List (List ℕ)) → One (command_of_words words)
one_command [] = one_refuses UnknownCommand
one_command (word ∷ words) = one_named (command_word word) words

-- ---- lines
one_utf8 : (line : List ℕ) → One (utf8 line)
one_utf8 line = one_the _ BadQuoting (λ u v h k. refl)

one_spelled : (line : List ℕ) → One (spelled line)
one_spelled line = one_the _ BadQuoting (λ us vs h k. one_reading line us vs h.0 k.0)

one_unless : (b : Bool) (line : List ℕ) → One (command_unless b line)
one_unless true line = one_gives None
one_unless false line = one_then _ _ (one_spelled line) (λ words. one_last _ _ (one_command words))

pub one_line : (line : List ℕ) → One (command_of_line line)
one_line line = one_then _ _ (one_utf8 line) (λ u. one_unless (has_no_command line) line)
