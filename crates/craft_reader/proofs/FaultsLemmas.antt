-- A fault of a field in its prototype.
use Rattle.std.proofs.Common.{◌≡◌, ◌≢◌, ◌∙◌, ℕ, List, Err, ap, sym}
use Rattle.prototype_fields.specs.declared.fault.FieldFault.{FieldFault}
use Rattle.prototype_fields.specs.declared.fault.FieldCode.TheVariants as f
use Rattle.prototype_fields.specs.Values.{Reading}
use Rattle.craft_reader.specs.declared.fault.DumpCode.TheVariants as d
use Rattle.craft_reader.specs.declared.fault.DumpFault.{DumpFault}
use Rattle.craft_reader.specs.Faults.{code_of, fault_in, in_prototype}

pub placed_fault : {A : Type 0} (section name : List ℕ) (meant : Reading A) (fault : FieldFault) (placed : DumpFault) → (fault.code ≢ f.NoMemory → meant ≡ Err fault)
    → (placed.code ≢ d.NoMemory → placed ≡ fault_in section name fault) → placed.code ≢ d.NoMemory → in_prototype section name meant ≡ Err placed
unfolding fault_in
placed_fault section name meant fault placed means is had =
    let same : placed ≡ fault_in section name fault = is had in
    ap (in_prototype section name) (means (λ out. had (ap (λ (p : DumpFault). p.code) same ∙ ap code_of out))) ∙ ap Err (sym same)
