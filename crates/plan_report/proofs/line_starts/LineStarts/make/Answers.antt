use Rattle.std.proofs.Common.{◌≡◌, ◌∙◌, ◌+◌, ◌++◌, ◌∷◌, ℕ, List, [], ap, ap₂, sym, map, string_bytes, arith}
use Rattle.std.specs.List.{range_with_len}
use Rattle.std.proofs.lemmas.List.{map-append}
use Rattle.std.proofs.lemmas.List.FromFn.{map-range_with_len_more}
use Rattle.plan_base.specs.Shape.{node_count}
use Rattle.game_types.specs.Nodes.{shape_of}
use Rattle.game_types.specs.declared.games.Game.{Game}
use Rattle.plan_report.specs.LineStarts.{line_start, line_starts}
use Rattle.plan_report.proofs.line_starts.LineStarts.make.Goals as goal

-- one more start
start_more : {A : Type 0} (read : A → List ℕ) (f : ℕ → List ℕ) (k : ℕ) (found more : List A) (one : A) → more ≡ found ++ one ∷ [] → read one ≡ f k
    → map read found ≡ map f (range_with_len 0 k) → map read more ≡ map f (range_with_len 0 (k + 1))
start_more read f k found more one is said before =
    ap (map read) is
    ∙ map-append read found (one ∷ [])
    ∙ ap₂ (λ (texts : List (List ℕ)) (text : List ℕ). texts ++ text ∷ []) before said
    ∙ sym (map-range_with_len_more f 0 k k (omega arith))

starts_end : {A : Type 0} (read : A → List ℕ) (g : Game) (k : ℕ) (found : List A) → k ≡ node_count (shape_of g) → map read found ≡ map (line_start g) (range_with_len 0 k) → map read found ≡ line_starts g
unfolding line_starts
starts_end read g k found end before = before ∙ ap (λ n. map (line_start g) (range_with_len 0 n)) end

pub loop-number-preserved : goal.loop-number-preserved
loop-number-preserved c =
    let said : string_bytes c.in_ok-from_str.field-0 ≡ line_start c.args.game.now c.loop-number.number =
    c.in_ok-from_str.ensures.ok ∙ c.deref.ensures ∙ c.in_ok-push_line_start.ensures ∙ ap (λ (text : List ℕ). text ++ line_start c.args.game.now c.loop-number.number) c.clear.ensures.bytes in
    start_more string_bytes (line_start c.args.game.now) c.loop-number.number c.loop-number.starts.items c.push.new.self.items c.in_ok-from_str.field-0 c.in_ok-push.ensures.items said c.loop-number.invariant

pub returns : goal.returns
returns c =
    let end : c.loop-number.number ≡ c.len-count.result = omega (arith, c.loop-number.auto.number-end, c.loop-number-test.false) in
    starts_end string_bytes c.args.game.now c.loop-number.number c.loop-number.starts.items (end ∙ c.len-count.ensures ∙ ap node_count c.shape.ensures) c.loop-number.invariant
