-- The tree that is written says the entries, has no float and nests few levels.
use Rattle.std.proofs.Common.{◌≡◌, ◌∙◌, ◌≤◌, ℕ, List, [], ◌∷◌, refl, sym, subst, ap, arith, false}
use Rattle.std.specs.Prelude.{max, Result, Ok, Err, IfOk, Some}
use Rattle.std.specs.Str.{IsUtf8}
use Rattle.std.proofs.lemmas.Result.{IfOk-weaker}
use Rattle.plan_base.specs.declared.text.NoMemory.{NoMemory}
use Rattle.serde_json.specs.Read.{read}
use Rattle.fractions.specs.Fraction.{Fraction}
use Rattle.fractions.specs.Print.{printed}
use Rattle.linear_table.specs.declared.Plan.{Plan}
use Rattle.serde_json.specs.Data.{Data, array, object, string, depth, items_depth}
use Rattle.serde_json.specs.Written.{compact_text, has_float, items_have_float}
use Rattle.certificate_file.specs.Narrow.{AreNarrow, AreNarrowEntries, IsNarrowClaim, IsNarrowPlan}
use Rattle.certificate_file.specs.Said.{EachSays, HaveLines, IsCertificate, IsLine, SaysCertificate, SaysEntry, SaysFraction, SaysPlan}
use Rattle.certificate_file.specs.Tree.{certificate_tree, entries_tree, entry_members, fractions_tree, plan_tree}
use Rattle.certificate_file.specs.declared.Claim.{Claim}
use Rattle.certificate_file.specs.declared.Claim.TheVariants.{Planned, Infeasible, Unsettled}
use Rattle.certificate_file.specs.declared.CertEntry.{CertEntry}

-- ---- what it says
fractions_said : (xs : List Fraction) → AreNarrow xs → EachSays SaysFraction (fractions_tree xs) xs
fractions_said [] narrow = tt
fractions_said (x ∷ xs) narrow = (record { text = refl; narrow = narrow.0 }, fractions_said xs narrow.1)

plan_said : (p : Plan) → IsNarrowPlan p → SaysPlan (plan_tree p) p
plan_said p narrow = record {
  cost = (string (printed p.cost), refl, record { text = refl; narrow = narrow.1 });
  prices = (array (fractions_tree p.prices), refl, (fractions_tree p.prices, refl, fractions_said p.prices narrow.2));
  rates = (array (fractions_tree p.rates), refl, (fractions_tree p.rates, refl, fractions_said p.rates narrow.0));
}

entry_said : (line : ℕ) (claim : Claim) → IsNarrowClaim claim → IsLine line → SaysEntry (object (entry_members line claim)) (record { line = line; claim = claim })
entry_said line (Planned p) narrow in_script = record { line = (refl, in_script); claim = (p, refl, plan_said p narrow) }
entry_said line (Infeasible prices) narrow in_script = record { line = (refl, in_script); claim = (prices, refl, (fractions_tree prices, refl, fractions_said prices narrow)) }
entry_said line Unsettled narrow in_script = record { line = (refl, in_script); claim = (refl, refl) }

entries_said : (es : List CertEntry) → AreNarrowEntries es → HaveLines es → EachSays SaysEntry (entries_tree es) es
entries_said [] narrow lines = tt
entries_said (e ∷ es) narrow lines = (entry_said e.line e.claim narrow.0 lines.0, entries_said es narrow.1 lines.1)

pub certificate_said : (es : List CertEntry) → AreNarrowEntries es → HaveLines es → SaysCertificate (certificate_tree es) es
certificate_said es narrow lines = record {
  version = refl;
  answers = (array (entries_tree es), refl, (entries_tree es, refl, entries_said es narrow lines));
}

-- ---- no floats
fractions_whole : (xs : List Fraction) → items_have_float (fractions_tree xs) ≡ false
fractions_whole [] = refl
fractions_whole (x ∷ xs) = fractions_whole xs

entry_whole : (line : ℕ) (claim : Claim) → has_float (object (entry_members line claim)) ≡ false
entry_whole line (Planned p) = rw (fractions_whole p.prices, fractions_whole p.rates) refl
entry_whole line (Infeasible prices) = rw (fractions_whole prices) refl
entry_whole line Unsettled = refl

entries_whole : (es : List CertEntry) → items_have_float (entries_tree es) ≡ false
entries_whole [] = refl
entries_whole (e ∷ es) = rw (entry_whole e.line e.claim) (entries_whole es)

pub certificate_whole : (es : List CertEntry) → has_float (certificate_tree es) ≡ false
certificate_whole es = rw (entries_whole es) refl

-- ---- few levels
fractions_flat : (xs : List Fraction) → items_depth (fractions_tree xs) ≡ 0
fractions_flat [] = refl
fractions_flat (x ∷ xs) = rw (fractions_flat xs) refl

entry_flat : (line : ℕ) (claim : Claim) → depth (object (entry_members line claim)) ≤ 3
entry_flat line (Planned p) = rw (fractions_flat p.prices, fractions_flat p.rates) (omega arith)
entry_flat line (Infeasible prices) = rw (fractions_flat prices) (omega arith)
entry_flat line Unsettled = omega arith

max_within : (a b n : ℕ) → a ≤ n → b ≤ n → max a b ≤ n
max_within a b n first second = grind arith

entries_flat : (es : List CertEntry) → items_depth (entries_tree es) ≤ 3
entries_flat [] = omega arith
entries_flat (e ∷ es) = max_within _ _ 3 (entry_flat e.line e.claim) (entries_flat es)

pub certificate_flat : (es : List CertEntry) → depth (certificate_tree es) ≤ 127
certificate_flat es = let few = entries_flat es in grind arith

-- ---- the text
pub written_text : (r : Result (List ℕ) NoMemory) (d : Data) (es : List CertEntry) → d ≡ certificate_tree es → IfOk r (λ text. has_float d ≡ false → text ≡ compact_text d) → IfOk r (λ text. text ≡ compact_text (certificate_tree es))
written_text r d es is told =
    IfOk-weaker r _ _ (λ text h. h (ap has_float is ∙ certificate_whole es) ∙ ap compact_text is) told

pub written_said : (r : Result (List ℕ) NoMemory) (d : Data) (es : List CertEntry) → d ≡ certificate_tree es → AreNarrowEntries es → IfOk r IsUtf8 → IfOk r (λ text. depth d ≤ 127 → read text ≡ Some d)
    → IfOk r (λ text. HaveLines es → IsCertificate text es)
written_said (Ok text) d es is narrow utf8 told =
    let few : depth d ≤ 127 = subst (λ (t : Data). depth t ≤ 127) (sym is) (certificate_flat es) in
    λ lines. record { data_ = certificate_tree es; json = record { utf8 = utf8; value = told few ∙ ap Some is }; says = certificate_said es narrow lines }
written_said (Err fault) d es is narrow utf8 told = tt
