-- One thing after another: what all make of a state is what the rest makes of the state so far.
use Rattle.std.proofs.Common.{◌≡◌, ◌∙◌, ◌<◌, ◌≤◌, ◌+◌, ℕ, List, Ok, Err, Result, length, map, drop, get_or, refl, ap}
use Rattle.plan_base.proofs.Walks.{drop_all}
use Rattle.prototype_fields.proofs.Each.{next}
use Rattle.craft_reader.specs.declared.fault.DumpFault.{DumpFault}
use Rattle.dump_reader.specs.Dump.{◌▷◌, each_after}

abbrev pub SoFar : {X Z G : Type 0} → (X → Z) → (Z → G → Result G DumpFault) → List X → ℕ → G → G → Type 0
SoFar view read xs k start g = each_after read (map view xs) start ≡ each_after read (map view (drop k xs)) g

pub first : {X Z G : Type 0} (view : X → Z) (read : Z → G → Result G DumpFault) (xs : List X) (g : G) → SoFar view read xs 0 g g
first view read xs g = refl

step : {X Z G : Type 0} (view : X → Z) (read : Z → G → Result G DumpFault) (xs : List X) (k : ℕ) (x : X) (start g : G) (r : Result G DumpFault) → k < length xs → x ≡ get_or xs k x
    → read (view x) g ≡ r → SoFar view read xs k start g → each_after read (map view xs) start ≡ (r ▷ λ h. each_after read (map view (drop (k + 1) xs)) h)
step view read xs k x start g r within is gives before =
    before ∙ ap (λ ys. each_after read (map view ys) g) (next xs k x within is) ∙ ap (λ one. one ▷ λ h. each_after read (map view (drop (k + 1) xs)) h) gives

pub more : {X Z G : Type 0} (view : X → Z) (read : Z → G → Result G DumpFault) (xs : List X) (k : ℕ) (x : X) (start g h : G) → k < length xs → x ≡ get_or xs k x
    → read (view x) g ≡ Ok h → SoFar view read xs k start g → SoFar view read xs (k + 1) start h
more view read xs k x start g h within is gives before = step view read xs k x start g (Ok h) within is gives before

pub fails : {X Z G : Type 0} (view : X → Z) (read : Z → G → Result G DumpFault) (xs : List X) (k : ℕ) (x : X) (start g : G) (fault : DumpFault) → k < length xs → x ≡ get_or xs k x
    → read (view x) g ≡ Err fault → SoFar view read xs k start g → each_after read (map view xs) start ≡ Err fault
fails view read xs k x start g fault within is gives before = step view read xs k x start g (Err fault) within is gives before

pub done : {X Z G : Type 0} (view : X → Z) (read : Z → G → Result G DumpFault) (xs : List X) (k : ℕ) (start g : G) → length xs ≤ k → SoFar view read xs k start g → each_after read (map view xs) start ≡ Ok g
done view read xs k start g end before = before ∙ ap (λ ys. each_after read (map view ys) g) (drop_all xs k end)
