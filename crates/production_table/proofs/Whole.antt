-- The linear form of a table, as far as it is made.
use Rattle.std.proofs.Common.{◌≡◌, ◌∙◌, ◌<◌, ◌≤◌, ℕ, List, length, refl, sym, ap, subst, arith, Result}
use Rattle.std.specs.Prelude.{Bool, true, false, nat_lt, Ok, Err, if◌then◌else◌}
use Rattle.std.proofs.lemmas.Bool.Decides.{nat_tests}
use Rattle.fractions.specs.Fraction.{Fraction}
use Rattle.plan_base.specs.declared.denied.Denied.{Denied}
use Rattle.plan_base.specs.declared.ids.GoodId.{GoodId}
use Rattle.plan_base.specs.Outcomes.{Gives, IsRefused}
use Rattle.game_types.specs.declared.games.Game.{Game}
use Rattle.game_types.specs.Steps.{◌▸◌}
use Rattle.linear_table.specs.declared.Linear.{Linear}
use Rattle.production_table.specs.declared.faults.TableFault.{TableFault}
use Rattle.production_table.specs.declared.faults.TableFault.TheVariants.{Full}
use Rattle.production_table.specs.declared.tables.Table.{Table}
use Rattle.production_table.specs.Linear.{columns_of, few_enough, linear_of, linear_with, table_goods}

pub rows_fault : (g : Game) (t : Table) (fault : Denied TableFault) (r : Result Linear (Denied TableFault)) → r ≡ Err fault → IsRefused (columns_of g t.power t.rows) fault → Gives (linear_of g t) r
unfolding linear_of
rows_fault g t fault r e h =
    subst (λ (o : Result Linear (Denied TableFault)). Gives (linear_of g t) o) (sym e)
    (λ refusal is. ap (λ (o : Result (List (List (GoodId × Fraction))) TableFault). o ▸ λ columns. few_enough t columns (table_goods t columns)) (h refusal is))

counted : (n : ℕ) (b : Bool) (linear : Linear) → nat_lt 512 n ≡ b → 512 < n → (if b then Err Full else Ok linear) ≡ Err Full
counted n true linear h k = refl
counted n false linear h k = absurd (grind (arith, nat_tests))

few : (n : ℕ) (b : Bool) (linear : Linear) → nat_lt 512 n ≡ b → n ≤ 512 → (if b then Err Full else Ok linear) ≡ Ok linear
few n true linear h k = absurd (grind (arith, nat_tests))
few n false linear h k = refl

start : (g : Game) (t : Table) (columns : List (List (GoodId × Fraction))) → columns_of g t.power t.rows ≡ Ok columns → linear_of g t ≡ few_enough t columns (table_goods t columns)
unfolding linear_of
start g t columns h = ap (λ (o : Result (List (List (GoodId × Fraction))) TableFault). o ▸ λ columns. few_enough t columns (table_goods t columns)) h

pub too_many : (g : Game) (t : Table) (columns : List (List (GoodId × Fraction))) (goods : List GoodId) → columns_of g t.power t.rows ≡ Ok columns → goods ≡ table_goods t columns → 512 < length goods → linear_of g t ≡ Err Full
too_many g t columns goods h e k =
    start g t columns h ∙ ap (λ (gs : List GoodId). few_enough t columns gs) (sym e) ∙ counted (length goods) (nat_lt 512 (length goods)) (linear_with t goods columns) refl k

pub whole : (g : Game) (t : Table) (columns : List (List (GoodId × Fraction))) (goods : List GoodId) → columns_of g t.power t.rows ≡ Ok columns → goods ≡ table_goods t columns → length goods ≤ 512 → linear_of g t ≡ Ok (linear_with t goods columns)
whole g t columns goods h e k =
    start g t columns h ∙ ap (λ (gs : List GoodId). few_enough t columns gs) (sym e) ∙ few (length goods) (nat_lt 512 (length goods)) (linear_with t goods columns) refl k
