-- Lines that are answered with nothing solved.
use Rattle.std.proofs.Common.{◌≡◌, ◌∙◌, ℕ, false, List, Option, None, Some, Result, Ok, Err, IfOk, refl, sym, ap, subst}
use Rattle.std.proofs.lemmas.Result.{IfOk-weaker}
use Rattle.game_types.specs.declared.games.Game.{Game}
use Rattle.linear_table.specs.declared.Linear.{Linear}
use Rattle.plan_lines.specs.declared.command.Command.{Command}
use Rattle.plan_lines.specs.declared.command.Command.TheVariants as command
use Rattle.plan_lines.specs.declared.reply.Reply.{Reply as AnyReply}
use Rattle.planner_tables.specs.Effects.{table_at, table_named}
use Rattle.planner_tables.specs.Questions.{IsSolveReply, IsSolveReplyAt, IsSolvedWhere, linear_outcome}
use Rattle.table_rows.specs.Refusals.{refused}
use Rattle.table_rows.specs.declared.refusals.TableRefusal.{TableRefusal}
use Rattle.production_table.specs.declared.tables.Table.{Table}
use Rattle.game_types.specs.Steps.{◌▸◌}
use Rattle.planner_tables.specs.Questions.{linear_named}
use Rattle.planner_core.specs.Lines.{Held, IsStep, IsStepIn, Planned, is_free}
use Rattle.planner_core.specs.Posing.{IsPosed, IsPosedTable, IsPosedWhere, form_asked, form_in, form_of}
use Rattle.planner_core.specs.declared.posing.Posed.{Posed}
use Rattle.planner_core.specs.declared.posing.Posed.TheVariants as posed

abbrev pub IsAnswered : ℕ → Planned → Command → Planned → Posed → Type 0
IsAnswered line p asked r said = (answer : AnyReply) × (said ≡ posed.Reply answer) × IsStep line p asked r answer

no_form : (line : ℕ) (p : Planned) (asked : Command) (r : Planned) (said : Posed) → form_asked p asked ≡ None → IsAnswered line p asked r said → IsPosed line p asked r said
unfolding IsPosed
no_form line p asked r said none is = subst (λ (o : Option Linear). IsPosedWhere o line p asked r said) (sym none) is

batch_has_no_form : (batch : Option (List Held)) (p : Planned) (asked : Command) → is_free batch ≡ false → form_in batch p asked ≡ None
batch_has_no_form None p asked held = absurd cc
batch_has_no_form (Some held) p asked is = refl

held_no_form : (p : Planned) (asked : Command) → is_free p.batch ≡ false → form_asked p asked ≡ None
unfolding form_asked
held_no_form p asked held = batch_has_no_form p.batch p asked held

-- where a batch is open
pub posed_held : {E : Type 0} (result : Result Posed E) (line : ℕ) (p : Planned) (asked : Command) (r : Planned) → is_free p.batch ≡ false → IfOk result (λ said. IsAnswered line p asked r said) → IfOk result (λ said. IsPosed line p asked r said)
posed_held result line p asked r held told = IfOk-weaker result _ _ (λ said is. no_form line p asked r said (held_no_form p asked held) is) told

other_form : (batch : Option (List Held)) (p : Planned) (asked : Command) → ((table : List ℕ) (budget : ℕ) → asked ≡ command.Solve table budget → ⊥) → form_in batch p asked ≡ None
other_form (Some held) p asked other = refl
other_form None p (command.Solve table budget) other = absurd (other table budget refl)
other_form None p (command.Reach object) other = refl
other_form None p (command.Why object) other = refl
other_form None p (command.Missing object) other = refl
other_form None p (command.Mask object) other = refl
other_form None p (command.List kind) other = refl
other_form None p command.Milestones other = refl
other_form None p command.Summary other = refl
other_form None p (command.Rate table label) other = refl
other_form None p (command.Quiet on) other = refl
other_form None p command.Undo other = refl
other_form None p command.Redo other = refl
other_form None p command.Batch other = refl
other_form None p command.End other = refl
other_form None p command.Cancel other = refl
other_form None p (command.Change change) other = refl

other_no_form : (p : Planned) (asked : Command) → ((table : List ℕ) (budget : ℕ) → asked ≡ command.Solve table budget → ⊥) → form_asked p asked ≡ None
unfolding form_asked
other_no_form p asked other = other_form p.batch p asked other

-- a line that is no `solve` line
pub posed_other : {E : Type 0} (result : Result Posed E) (line : ℕ) (p : Planned) (asked : Command) (r : Planned) → ((table : List ℕ) (budget : ℕ) → asked ≡ command.Solve table budget → ⊥) → IfOk result (λ said. IsAnswered line p asked r said) → IfOk result (λ said. IsPosed line p asked r said)
posed_other result line p asked r other told = IfOk-weaker result _ _ (λ said is. no_form line p asked r said (other_no_form p asked other) is) told

-- ---- a `solve` line
refused_at : (g : Game) (ts : List Table) (budget : ℕ) (refusal : TableRefusal) (o : Result ℕ TableRefusal) → (o ▸ λ place. linear_outcome g (table_at ts place)) ≡ Err refusal → IsSolveReplyAt g ts budget o (refused g refusal None)
refused_at g ts budget refusal (Ok place) is = subst (λ (o : Result Linear TableRefusal). IsSolvedWhere g (table_at ts place) budget o (refused g refusal None)) (sym is) refl
refused_at g ts budget refusal (Err first) is = let same : first ≡ refusal = cc in ap (λ (x : TableRefusal). refused g x None) (sym same)

refused_reply : (g : Game) (ts : List Table) (table : List ℕ) (budget : ℕ) (refusal : TableRefusal) → linear_named g ts table ≡ Err refusal → IsSolveReply g ts table budget (refused g refusal None)
unfolding IsSolveReply linear_named
refused_reply g ts table budget refusal is = refused_at g ts budget refusal (table_named ts table) is

solve_form : (p : Planned) (table : List ℕ) (budget : ℕ) → p.batch ≡ None → form_asked p (command.Solve table budget) ≡ form_of (linear_named p.state.book.game p.state.tables table)
unfolding form_asked
solve_form p table budget free = ap (λ (b : Option (List Held)). form_in b p (command.Solve table budget)) free

step_refused : (line : ℕ) (p : Planned) (table : List ℕ) (budget : ℕ) (refusal : TableRefusal) → p.batch ≡ None → linear_named p.state.book.game p.state.tables table ≡ Err refusal
    → IsStep line p (command.Solve table budget) p (refused p.state.book.game refusal None)
step_refused line p table budget refusal free is = record {
  does = subst (λ (b : Option (List Held)). IsStepIn line b p (command.Solve table budget) p (refused p.state.book.game refusal None)) (sym free)
      (refl, refused_reply p.state.book.game p.state.tables table budget refusal is);
  grows = λ base from. from;
}

posed_table : (line : ℕ) (p : Planned) (table : List ℕ) (budget : ℕ) (said : Posed) (o : Result Linear TableRefusal) → p.batch ≡ None → linear_named p.state.book.game p.state.tables table ≡ o
    → IsPosedTable p.state.book.game o said → IsPosed line p (command.Solve table budget) p said
unfolding IsPosed
posed_table line p table budget said (Ok form) free is told =
    subst (λ (o : Option Linear). IsPosedWhere o line p (command.Solve table budget) p said) (sym (solve_form p table budget free ∙ ap form_of is)) (refl, told)
posed_table line p table budget said (Err refusal) free is told =
    no_form line p (command.Solve table budget) p said (solve_form p table budget free ∙ ap form_of is) (refused p.state.book.game refusal None, told, step_refused line p table budget refusal free is)

pub posed_solve : {E : Type 0} (result : Result Posed E) (line : ℕ) (p : Planned) (table : List ℕ) (budget : ℕ) → p.batch ≡ None
    → IfOk result (IsPosedTable p.state.book.game (linear_named p.state.book.game p.state.tables table)) → IfOk result (λ said. IsPosed line p (command.Solve table budget) p said)
posed_solve result line p table budget free told = IfOk-weaker result _ _ (λ said is. posed_table line p table budget said (linear_named p.state.book.game p.state.tables table) free refl is) told
