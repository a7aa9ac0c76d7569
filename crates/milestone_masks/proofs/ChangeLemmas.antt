-- After a change of rows and marks, the worlds agree but for the changed nodes.
use Rattle.std.specs.Prelude.{◌==◌}
use Rattle.std.proofs.Common.{◌≡◌, ◌||◌, ℕ, Bool, false, List, [], ◌∷◌, Option, None, Some, length, slice_get, get_or, refl, sym, ◌∙◌, ap, subst}
use Rattle.std.proofs.lemmas.Bool.{eqb-false, or_parts}
use Rattle.std.proofs.lemmas.List.{get_or-set_other}
use Rattle.std.proofs.Math.ListN.{set}
use Rattle.plan_base.specs.declared.NodeId.{NodeId}
use Rattle.graph_store.specs.declared.Row.{Row}
use Rattle.graph_store.specs.Rows.{has_node}
use Rattle.reach_ranks.specs.Rounds.{world, is_barred, is_granted, is_node, has_groups, IsWhole}
use Rattle.reach_ranks.specs.Ranks.{AgreeBut, within, AreRanks, Agrees, IsOneAboveLeast}
use Rattle.reach_ranks.proofs.RankLemmas.{Agrees-from_ranks}
use Rattle.milestone_masks.specs.Worlds.{Kept, AgreeInWorlds, AreWorlds}

-- the rows and marks of a node, as before
pub record SameAt (rows rows' : List Row) (barred barred' granted granted' : List Bool) (n : ℕ) : Type 0 where
  pub row : slice_get rows' n ≡ slice_get rows n
  pub barred_same : get_or barred' n false ≡ get_or barred n false
  pub granted_same : get_or granted' n false ≡ get_or granted n false

pub agrees-same : (rows rows' : List Row) (barred barred' granted granted' : List Bool) (e : Option NodeId) (ranks : List ℕ) (n : ℕ) → SameAt rows rows' barred barred' granted granted' n → Agrees (world rows barred granted e) ranks n → Agrees (world rows' barred' granted' e) ranks n
agrees-same rows rows' barred barred' granted granted' e ranks n same a =
    let bar : is_barred (world rows' barred' granted' e) n ≡ is_barred (world rows barred granted e) n = ap (λ (b : Bool). b || is_node e n) same.barred_same in
    let grant : is_granted (world rows' barred' granted' e) n ≡ is_granted (world rows barred granted e) n = same.granted_same in
    record {
      barred = λ h. a.barred (sym bar ∙ h);
      granted = λ h g. a.granted (sym bar ∙ h) (sym grant ∙ g);
      by_row = λ h g. subst
          (λ (o : Option Row). IsOneAboveLeast (λ k. has_groups (within ranks k) o) (get_or ranks n 0))
          (sym same.row)
          (a.by_row (sym bar ∙ h) (sym grant ∙ g));
    }

pub agree-in_world : (rows rows' : List Row) (barred barred' granted granted' : List Bool) (changed : List NodeId) (e : Option NodeId) (ranks : List ℕ) → length rows' ≡ length rows → ((n : ℕ) → has_node changed n ≡ false → SameAt rows rows' barred barred' granted granted' n) → IsWhole (world rows barred granted e) → AreRanks (world rows barred granted e) ranks → AgreeBut (world rows' barred' granted' e) changed ranks
agree-in_world rows rows' barred barred' granted granted' changed e ranks long same whole are = record {
  as_long = are.as_long ∙ sym long;
  each = λ n inside outside. agrees-same rows rows' barred barred' granted granted' e ranks n (same n outside) (Agrees-from_ranks (world rows barred granted e) whole ranks are n);
}

-- what `repair_all` asks, from what held before the change
pub agree-in_worlds : (rows rows' : List Row) (barred barred' granted granted' : List Bool) (changed : List NodeId) (kept : Kept) → length rows' ≡ length rows → ((n : ℕ) → has_node changed n ≡ false → SameAt rows rows' barred barred' granted granted' n) → IsWhole (world rows barred granted None) → AreWorlds rows barred granted kept → AgreeInWorlds rows' barred' granted' changed kept
agree-in_worlds rows rows' barred barred' granted granted' changed kept long same whole are = record {
  base = agree-in_world rows rows' barred barred' granted granted' changed None kept.base long same whole are.base;
  each = λ k d lt. agree-in_world rows rows' barred barred' granted granted' changed (Some (get_or kept.milestones k d).node) (get_or kept.milestones k d).ranks long same (record { barred = whole.barred; granted = whole.granted }) (are.each k d lt);
}

-- where one node's bar was changed

pub bar-changed : (rows : List Row) (barred granted : List Bool) (node : NodeId) (b : Bool) (n : ℕ) → has_node (node ∷ []) n ≡ false → SameAt rows rows barred (set barred node.0 b) granted granted n
bar-changed rows barred granted node b n outside = record {
  row = refl;
  barred_same = get_or-set_other barred node.0 n b false (λ e. eqb-false node.0 n (or_parts (node.0 == n) false outside).0 (sym e));
  granted_same = refl;
}
