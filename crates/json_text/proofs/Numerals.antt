-- Numerals, byte by byte.
use Rattle.std.proofs.Common.{◌≡◌, ℕ, List, [], ◌∷◌, ◌++◌, refl, ap, sym, subst, ◌∙◌, arith, false, true, Bool, inl, inr, append_assoc, append-nil, Some, None, length-append}
use Rattle.std.specs.Prelude.{◌⊎◌, ◌==◌, ◌≢◌, if◌then◌else◌}
use Rattle.std.specs.List.{list_all}
use Rattle.std.specs.Char.{is_ascii_digit}
use Rattle.std.proofs.lemmas.Bool.Decides.{nat_tests}
use Rattle.std.proofs.lemmas.Bool.{and_parts, and_from}
use Rattle.json_text.specs.Text.{IsDigits, IsWhole, IsFraction, IsSign, IsExponent, IsNumber}
use Rattle.json_text.specs.Lexing.{number_next, is_whole, is_digit, is_nonzero, is_mark, is_sign}
use Rattle.json_text.specs.declared.number.Phase.{Phase}
use Rattle.json_text.specs.declared.number.Phase.TheVariants.{Minus, Zero, Whole, Dot, Fraction, Mark, Sign, Exponent}
use Rattle.json_text.specs.Cutting.{Phases, Starts, starts_zero, starts_whole, starts_minus}
use Rattle.json_text.proofs.Chars.{split}

abbrev pub IsMinus : List ℕ → Type 0
IsMinus m = (m ≡ []) ⊎ (m ≡ 45 ∷ [])

abbrev pub IsMark : ℕ → Type 0
IsMark k = (k ≡ 101) ⊎ (k ≡ 69)

-- what has been read of a numeral
abbrev pub NumberSoFar : Phase → List ℕ → Type 0
NumberSoFar Minus raw = raw ≡ 45 ∷ []
NumberSoFar Zero raw = (m : List ℕ) × IsMinus m × (raw ≡ m ++ 48 ∷ [])
NumberSoFar Whole raw = (m : List ℕ) × (d : ℕ) × (ds : List ℕ) × IsMinus m × (d ≢ 48) × (list_all is_ascii_digit (d ∷ ds) ≡ true) × (raw ≡ m ++ (d ∷ ds))
NumberSoFar Dot raw = (m w : List ℕ) × IsMinus m × IsWhole w × (raw ≡ m ++ (w ++ 46 ∷ []))
NumberSoFar Fraction raw = (m w ds : List ℕ) × IsMinus m × IsWhole w × IsDigits ds × (raw ≡ m ++ (w ++ 46 ∷ ds))
NumberSoFar Mark raw = (m w f : List ℕ) × (k : ℕ) × IsMinus m × IsWhole w × IsFraction f × IsMark k × (raw ≡ m ++ (w ++ (f ++ k ∷ [])))
NumberSoFar Sign raw = (m w f : List ℕ) × (k s : ℕ) × IsMinus m × IsWhole w × IsFraction f × IsMark k × IsSign (s ∷ []) × (raw ≡ m ++ (w ++ (f ++ k ∷ s ∷ [])))
NumberSoFar Exponent raw = (m w f : List ℕ) × (k : ℕ) × (s ds : List ℕ) × IsMinus m × IsWhole w × IsFraction f × IsMark k × IsSign s × IsDigits ds × (raw ≡ m ++ (w ++ (f ++ k ∷ (s ++ ds))))

all_push : (xs : List ℕ) (x : ℕ) → list_all is_ascii_digit xs ≡ true → is_ascii_digit x ≡ true → list_all is_ascii_digit (xs ++ x ∷ []) ≡ true
all_push [] x h d = and_from (is_ascii_digit x) true d refl
all_push (y ∷ xs) x h d = let parts = and_parts (is_ascii_digit y) (list_all is_ascii_digit xs) h in and_from (is_ascii_digit y) (list_all is_ascii_digit (xs ++ x ∷ [])) parts.0 (all_push xs x parts.1 d)

digits_push : (ds : List ℕ) (x : ℕ) → IsDigits ds → is_ascii_digit x ≡ true → IsDigits (ds ++ x ∷ [])
digits_push ds x h d = (omega (arith, length-append ds (x ∷ []), h.0), all_push ds x h.1 d)

one_digit : (x : ℕ) → is_ascii_digit x ≡ true → IsDigits (x ∷ [])
one_digit x d = (omega arith, and_from (is_ascii_digit x) true d refl)

ascii_digit : (b : ℕ) → is_digit b ≡ true → is_ascii_digit b ≡ true
ascii_digit b h = grind (arith, nat_tests)

nonzero_digit : (b : ℕ) → is_nonzero b ≡ true → (is_ascii_digit b ≡ true) × (b ≢ 48)
nonzero_digit b h = (grind (arith, nat_tests), λ e. grind (arith, nat_tests))

mark_is : (b : ℕ) → is_mark b ≡ true → IsMark b
mark_is b h = grind (arith, nat_tests)

sign_is : (b : ℕ) → is_sign b ≡ true → IsSign (b ∷ [])
sign_is b h = on (grind (arith, nat_tests))
  where
    on : (b ≡ 43) ⊎ (b ≡ 45) → IsSign (b ∷ [])
    on (inl e) = inr (inl (ap (λ x. x ∷ []) e))
    on (inr e) = inr (inr (ap (λ x. x ∷ []) e))

is_eq : (a b : ℕ) → (a == b) ≡ true → a ≡ b
is_eq a b h = grind (arith, nat_tests)

zero_whole : IsWhole (48 ∷ [])
zero_whole = (omega arith, refl)

some_whole : (d : ℕ) (ds : List ℕ) → d ≢ 48 → list_all is_ascii_digit (d ∷ ds) ≡ true → IsWhole (d ∷ ds)
some_whole d [] n h = (omega arith, h)
some_whole d (e ∷ ds) n h = (n, (omega arith, h))

push1 : (raw m x : List ℕ) (b : ℕ) → raw ≡ m ++ x → raw ++ b ∷ [] ≡ m ++ (x ++ b ∷ [])
push1 raw m x b e = ap (λ y. y ++ b ∷ []) e ∙ append_assoc m x (b ∷ [])

push2 : (raw m w x : List ℕ) (b : ℕ) → raw ≡ m ++ (w ++ x) → raw ++ b ∷ [] ≡ m ++ (w ++ (x ++ b ∷ []))
push2 raw m w x b e = push1 raw m (w ++ x) b e ∙ ap (λ y. m ++ y) (append_assoc w x (b ∷ []))

push3 : (raw m w f x : List ℕ) (b : ℕ) → raw ≡ m ++ (w ++ (f ++ x)) → raw ++ b ∷ [] ≡ m ++ (w ++ (f ++ (x ++ b ∷ [])))
push3 raw m w f x b e = push2 raw m w (f ++ x) b e ∙ ap (λ y. m ++ (w ++ y)) (append_assoc f x (b ∷ []))

push4 : (raw m w f : List ℕ) (k : ℕ) (s ds : List ℕ) (b : ℕ) → raw ≡ m ++ (w ++ (f ++ k ∷ (s ++ ds))) → raw ++ b ∷ [] ≡ m ++ (w ++ (f ++ k ∷ (s ++ (ds ++ b ∷ []))))
push4 raw m w f k s ds b e = push3 raw m w f (k ∷ (s ++ ds)) b e ∙ ap (λ y. m ++ (w ++ (f ++ k ∷ y))) (append_assoc s ds (b ∷ []))

to_phase : (raw : List ℕ) (p q : Phase) → p ≡ q → NumberSoFar p raw → NumberSoFar q raw
to_phase raw p q e h = subst (λ x. NumberSoFar x raw) e h

-- no fraction, and one of some digits
no_fraction : IsFraction []
no_fraction = inl refl

fraction_of : (ds : List ℕ) → IsDigits ds → IsFraction (46 ∷ ds)
fraction_of ds h = inr (ds, h, refl)

pub number_reads : (raw : List ℕ) (phase next : Phase) (b : ℕ) → NumberSoFar phase raw → number_next phase b ≡ Some next → NumberSoFar next (raw ++ b ∷ [])
number_reads raw Minus next b p h =
    split (b == 48) (Some Zero) (if is_nonzero b then Some Whole else None) (Some next) h
    (λ e g. to_phase (raw ++ b ∷ []) Zero next (cc) (45 ∷ [], inr refl, ap (λ y. y ++ b ∷ []) p ∙ ap (λ x. 45 ∷ x ∷ []) (is_eq b 48 e)))
    (λ e g. split (is_nonzero b) (Some Whole) None (Some next) g
    (λ f k. let d = nonzero_digit b f in to_phase (raw ++ b ∷ []) Whole next (cc) (45 ∷ [], b, [], inr refl, d.1, and_from (is_ascii_digit b) true d.0 refl, ap (λ y. y ++ b ∷ []) p))
    (λ f k. absurd (cc)))
number_reads raw Zero next b p h =
    split (b == 46) (Some Dot) (if is_mark b then Some Mark else None) (Some next) h
    (λ e g. to_phase (raw ++ b ∷ []) Dot next (cc) (p.0, 48 ∷ [], p.1, zero_whole, push1 raw p.0 (48 ∷ []) b p.2 ∙ ap (λ x. p.0 ++ 48 ∷ x ∷ []) (is_eq b 46 e)))
    (λ e g. split (is_mark b) (Some Mark) None (Some next) g
    (λ f k. to_phase (raw ++ b ∷ []) Mark next (cc) (p.0, 48 ∷ [], [], b, p.1, zero_whole, no_fraction, mark_is b f, push1 raw p.0 (48 ∷ []) b p.2))
    (λ f k. absurd (cc)))
number_reads raw Whole next b p h =
    let m = p.0 in
    let d = p.1 in
    let ds = p.2 in
    let whole = some_whole d ds p.4 p.5 in
    split (is_digit b) (Some Whole) (if b == 46 then Some Dot else if is_mark b then Some Mark else None) (Some next) h
    (λ e g. to_phase (raw ++ b ∷ []) Whole next (cc) (m, d, ds ++ b ∷ [], p.3, p.4, all_push (d ∷ ds) b p.5 (ascii_digit b e), push1 raw m (d ∷ ds) b p.6))
    (λ e g. split (b == 46) (Some Dot) (if is_mark b then Some Mark else None) (Some next) g
    (λ f k. to_phase (raw ++ b ∷ []) Dot next (cc) (m, d ∷ ds, p.3, whole, push1 raw m (d ∷ ds) b p.6 ∙ ap (λ x. m ++ ((d ∷ ds) ++ x ∷ [])) (is_eq b 46 f)))
    (λ f k. split (is_mark b) (Some Mark) None (Some next) k
    (λ i j. to_phase (raw ++ b ∷ []) Mark next (cc) (m, d ∷ ds, [], b, p.3, whole, no_fraction, mark_is b i, push1 raw m (d ∷ ds) b p.6))
    (λ i j. absurd (cc))))
number_reads raw Dot next b p h =
    split (is_digit b) (Some Fraction) None (Some next) h
    (λ e g. to_phase (raw ++ b ∷ []) Fraction next (cc) (p.0, p.1, b ∷ [], p.2, p.3, one_digit b (ascii_digit b e), push2 raw p.0 p.1 (46 ∷ []) b p.4))
    (λ e g. absurd (cc))
number_reads raw Fraction next b p h =
    let m = p.0 in
    let w = p.1 in
    let ds = p.2 in
    split (is_digit b) (Some Fraction) (if is_mark b then Some Mark else None) (Some next) h
    (λ e g. to_phase (raw ++ b ∷ []) Fraction next (cc) (m, w, ds ++ b ∷ [], p.3, p.4, digits_push ds b p.5 (ascii_digit b e), push2 raw m w (46 ∷ ds) b p.6))
    (λ e g. split (is_mark b) (Some Mark) None (Some next) g
    (λ f k. to_phase (raw ++ b ∷ []) Mark next (cc) (m, w, 46 ∷ ds, b, p.3, p.4, fraction_of ds p.5, mark_is b f, push2 raw m w (46 ∷ ds) b p.6))
    (λ f k. absurd (cc)))
number_reads raw Mark next b p h =
    let m = p.0 in
    let w = p.1 in
    let f = p.2 in
    let k = p.3 in
    split (is_digit b) (Some Exponent) (if is_sign b then Some Sign else None) (Some next) h
    (λ e g. to_phase (raw ++ b ∷ []) Exponent next (cc) (m, w, f, k, [], b ∷ [], p.4, p.5, p.6, p.7, inl refl, one_digit b (ascii_digit b e), push3 raw m w f (k ∷ []) b p.8))
    (λ e g. split (is_sign b) (Some Sign) None (Some next) g
    (λ i j. to_phase (raw ++ b ∷ []) Sign next (cc) (m, w, f, k, b, p.4, p.5, p.6, p.7, sign_is b i, push3 raw m w f (k ∷ []) b p.8))
    (λ i j. absurd (cc)))
number_reads raw Sign next b p h =
    let m = p.0 in
    let w = p.1 in
    let f = p.2 in
    let k = p.3 in
    let s = p.4 in
    split (is_digit b) (Some Exponent) None (Some next) h
    (λ e g. to_phase (raw ++ b ∷ []) Exponent next (cc) (m, w, f, k, s ∷ [], b ∷ [], p.5, p.6, p.7, p.8, p.9, one_digit b (ascii_digit b e), push3 raw m w f (k ∷ s ∷ []) b p.10))
    (λ e g. absurd (cc))
number_reads raw Exponent next b p h =
    let m = p.0 in
    let w = p.1 in
    let f = p.2 in
    let k = p.3 in
    let s = p.4 in
    let ds = p.5 in
    split (is_digit b) (Some Exponent) None (Some next) h
    (λ e g. to_phase (raw ++ b ∷ []) Exponent next (cc) (m, w, f, k, s, ds ++ b ∷ [], p.6, p.7, p.8, p.9, p.10, digits_push ds b p.11 (ascii_digit b e), push4 raw m w f k s ds b p.12))
    (λ e g. absurd (cc))

exponent_of : (k : ℕ) (s ds : List ℕ) → IsMark k → IsSign s → IsDigits ds → IsExponent (k ∷ (s ++ ds))
exponent_of k s ds (inl e) sign digits = inr (k ∷ [], s, ds, inl (ap (λ x. x ∷ []) e), sign, digits, refl)
exponent_of k s ds (inr e) sign digits = inr (k ∷ [], s, ds, inr (ap (λ x. x ∷ []) e), sign, digits, refl)

numeral : (raw m w f e : List ℕ) → IsMinus m → IsWhole w → IsFraction f → IsExponent e → raw ≡ m ++ (w ++ (f ++ e)) → IsNumber raw
numeral raw m w f e im iw fr ie spelled = record { minus = m; whole = w; fraction = f; exponent = e; spelled = spelled; minus_is = im; whole_is = iw; fraction_is = fr; exponent_is = ie }

pub number_read : (raw : List ℕ) (phase : Phase) → NumberSoFar phase raw → is_whole phase ≡ true → IsNumber raw
number_read raw Minus p h = absurd (cc)
number_read raw Zero p h = numeral raw p.0 (48 ∷ []) [] [] p.1 zero_whole no_fraction (inl refl) p.2
number_read raw Whole p h = numeral raw p.0 (p.1 ∷ p.2) [] [] p.3 (some_whole p.1 p.2 p.4 p.5) no_fraction (inl refl) (p.6 ∙ ap (λ y. p.0 ++ y) (sym (append-nil (p.1 ∷ p.2))))
number_read raw Dot p h = absurd (cc)
number_read raw Fraction p h = numeral raw p.0 p.1 (46 ∷ p.2) [] p.3 p.4 (fraction_of p.2 p.5) (inl refl) (p.6 ∙ ap (λ y. p.0 ++ (p.1 ++ y)) (sym (append-nil (46 ∷ p.2))))
number_read raw Mark p h = absurd (cc)
number_read raw Sign p h = absurd (cc)
number_read raw Exponent p h = numeral raw p.0 p.1 p.2 (p.3 ∷ (p.4 ++ p.5)) p.6 p.7 p.8 (exponent_of p.3 p.4 p.5 p.9 p.10 p.11) p.12

-- The other way: a numeral is read whole.
pub phases_append : (p q r : Phase) (xs ys : List ℕ) → Phases p xs q → Phases q ys r → Phases p (xs ++ ys) r
phases_append p q r [] ys h i = subst (λ x. Phases x ys r) (sym h) i
phases_append p q r (b ∷ xs) ys h i = (h.0, h.1, phases_append h.0 q r xs ys h.2 i)

digit_again : (b : ℕ) → is_ascii_digit b ≡ true → is_digit b ≡ true
digit_again b h = grind (arith, nat_tests)

whole_digits : (ds : List ℕ) → list_all is_ascii_digit ds ≡ true → Phases Whole ds Whole
whole_digits [] h = refl
whole_digits (b ∷ ds) h = let parts = and_parts (is_ascii_digit b) (list_all is_ascii_digit ds) h in (Whole, rw (digit_again b parts.0) refl, whole_digits ds parts.1)

fraction_digits : (ds : List ℕ) → list_all is_ascii_digit ds ≡ true → Phases Fraction ds Fraction
fraction_digits [] h = refl
fraction_digits (b ∷ ds) h = let parts = and_parts (is_ascii_digit b) (list_all is_ascii_digit ds) h in (Fraction, rw (digit_again b parts.0) refl, fraction_digits ds parts.1)

exponent_digits : (ds : List ℕ) → list_all is_ascii_digit ds ≡ true → Phases Exponent ds Exponent
exponent_digits [] h = refl
exponent_digits (b ∷ ds) h = let parts = and_parts (is_ascii_digit b) (list_all is_ascii_digit ds) h in (Exponent, rw (digit_again b parts.0) refl, exponent_digits ds parts.1)

dot_digits : (ds : List ℕ) → IsDigits ds → Phases Dot ds Fraction
dot_digits [] h = absurd (omega (arith, h.0))
dot_digits (b ∷ ds) h = let parts = and_parts (is_ascii_digit b) (list_all is_ascii_digit ds) h.1 in (Fraction, rw (digit_again b parts.0) refl, fraction_digits ds parts.1)

mark_digits : (ds : List ℕ) → IsDigits ds → Phases Mark ds Exponent
mark_digits [] h = absurd (omega (arith, h.0))
mark_digits (b ∷ ds) h = let parts = and_parts (is_ascii_digit b) (list_all is_ascii_digit ds) h.1 in (Exponent, rw (digit_again b parts.0) refl, exponent_digits ds parts.1)

sign_digits : (ds : List ℕ) → IsDigits ds → Phases Sign ds Exponent
sign_digits [] h = absurd (omega (arith, h.0))
sign_digits (b ∷ ds) h = let parts = and_parts (is_ascii_digit b) (list_all is_ascii_digit ds) h.1 in (Exponent, rw (digit_again b parts.0) refl, exponent_digits ds parts.1)

behind_mark : (s ds : List ℕ) → IsSign s → IsDigits ds → Phases Mark (s ++ ds) Exponent
behind_mark s ds (inl e) h = rw e (mark_digits ds h)
behind_mark s ds (inr (inl e)) h = rw e (Sign, refl, sign_digits ds h)
behind_mark s ds (inr (inr e)) h = rw e (Sign, refl, sign_digits ds h)

-- where a whole part or a fraction ends, an exponent may follow
pub record EndsWhole (p : Phase) (bytes : List ℕ) : Type 0 where
  pub last : Phase
  pub phases : Phases p bytes last
  pub whole : is_whole last ≡ true

abbrev pub TakesMark : Phase → Type 0
TakesMark p = (is_whole p ≡ true) × ((b : ℕ) → IsMark b → number_next p b ≡ Some Mark)

zero_mark : TakesMark Zero
zero_mark = (refl, λ b h. on b h)
  where
    on : (b : ℕ) → IsMark b → number_next Zero b ≡ Some Mark
    on b (inl e) = rw e refl
    on b (inr e) = rw e refl

whole_mark : TakesMark Whole
whole_mark = (refl, λ b h. on b h)
  where
    on : (b : ℕ) → IsMark b → number_next Whole b ≡ Some Mark
    on b (inl e) = rw e refl
    on b (inr e) = rw e refl

fraction_mark : TakesMark Fraction
fraction_mark = (refl, λ b h. on b h)
  where
    on : (b : ℕ) → IsMark b → number_next Fraction b ≡ Some Mark
    on b (inl e) = rw e refl
    on b (inr e) = rw e refl

exponent_ends : (p : Phase) (e : List ℕ) → TakesMark p → IsExponent e → EndsWhole p e
exponent_ends p e t (inl n) = record { last = p; phases = rw n refl; whole = t.0 }
exponent_ends p e t (inr x) =
    let s = x.1 in
    let ds = x.2 in
    let found : (k : ℕ) × IsMark k × (x.0 ≡ k ∷ []) = elim x.3 [ inl m ↦ (101, inl refl, m) | inr m ↦ (69, inr refl, m) ] in
    let spelled : e ≡ found.0 ∷ (s ++ ds) = x.6 ∙ ap (λ y. y ++ (s ++ ds)) found.2 in
    record { last = Exponent; phases = subst (λ y. Phases p y Exponent) (sym spelled) (Mark, t.1 found.0 found.1, behind_mark s ds x.4 x.5); whole = refl }

fraction_ends : (p : Phase) (f e : List ℕ) → TakesMark p → number_next p 46 ≡ Some Dot → IsFraction f → IsExponent e → EndsWhole p (f ++ e)
fraction_ends p f e t dot (inl n) ie = rw n (exponent_ends p e t ie)
fraction_ends p f e t dot (inr x) ie =
    let r = exponent_ends Fraction e fraction_mark ie in
    let spelled : f ≡ 46 ∷ x.0 = x.2 in
    record { last = r.last; phases = subst (λ y. Phases p (y ++ e) r.last) (sym spelled) (Dot, dot, phases_append Dot Fraction r.last x.0 e (dot_digits x.0 x.1) r.phases); whole = r.whole }

pub record NumberRuns (digits : List ℕ) : Type 0 where
  pub first : ℕ
  pub rest : List ℕ
  pub phase : Phase
  pub spelled : digits ≡ first ∷ rest
  pub starts : Starts first phase
  pub ends : EndsWhole phase rest

nonzero_first : (d : ℕ) → d ≢ 48 → is_ascii_digit d ≡ true → is_nonzero d ≡ true
nonzero_first d n h = grind (arith, nat_tests)

pub nonzero_unsigned : (b : ℕ) → is_nonzero b ≡ true → number_next Minus b ≡ Some Whole
nonzero_unsigned b h = let no : (b == 48) ≡ false = grind (arith, nat_tests) in rw (no, h) refl

record WholeRuns (digits : List ℕ) : Type 0 where
  first : ℕ
  rest : List ℕ
  phase : Phase
  spelled : digits ≡ first ∷ rest
  starts : Starts first phase
  unsigned : number_next Minus first ≡ Some phase
  ends : EndsWhole phase rest

whole_runs : (w f e : List ℕ) → IsWhole w → IsFraction f → IsExponent e → WholeRuns (w ++ (f ++ e))
whole_runs [] f e iw fr ie = absurd iw
whole_runs (d ∷ []) f e iw fr ie = on (d == 48) refl
  where
    on : (t : Bool) → (d == 48) ≡ t → WholeRuns ((d ∷ []) ++ (f ++ e))
    on true h = let same : d ≡ 48 = is_eq d 48 h in record { first = 48; rest = f ++ e; phase = Zero; spelled = ap (λ x. x ∷ (f ++ e)) same; starts = starts_zero; unsigned = refl; ends = fraction_ends Zero f e zero_mark refl fr ie }
    on false h = record { first = d; rest = f ++ e; phase = Whole; spelled = refl; starts = starts_whole d (nonzero_first d (λ x. grind (arith, nat_tests)) (and_parts (is_ascii_digit d) true iw.1).0); unsigned = nonzero_unsigned d (nonzero_first d (λ x. grind (arith, nat_tests)) (and_parts (is_ascii_digit d) true iw.1).0); ends = fraction_ends Whole f e whole_mark refl fr ie }
whole_runs (d ∷ c ∷ ds) f e iw fr ie =
    let parts = and_parts (is_ascii_digit d) (list_all is_ascii_digit (c ∷ ds)) iw.1.1 in
    let r = fraction_ends Whole f e whole_mark refl fr ie in
    record { first = d; rest = (c ∷ ds) ++ (f ++ e); phase = Whole; spelled = refl; starts = starts_whole d (nonzero_first d iw.0 parts.0); unsigned = nonzero_unsigned d (nonzero_first d iw.0 parts.0); ends = record { last = r.last; phases = phases_append Whole Whole r.last (c ∷ ds) (f ++ e) (whole_digits (c ∷ ds) parts.1) r.phases; whole = r.whole } }

number_parts : (digits tail : List ℕ) (m : List ℕ) → IsMinus m → digits ≡ m ++ tail → WholeRuns tail → NumberRuns digits
number_parts digits tail m (inl e) spelled r = record { first = r.first; rest = r.rest; phase = r.phase; spelled = spelled ∙ ap (λ y. y ++ tail) e ∙ r.spelled; starts = r.starts; ends = r.ends }
number_parts digits tail m (inr e) spelled r = record {
  first = 45;
  rest = tail;
  phase = Minus;
  spelled = spelled ∙ ap (λ y. y ++ tail) e;
  starts = starts_minus;
  ends = record { last = r.ends.last; phases = subst (λ y. Phases Minus y r.ends.last) (sym r.spelled) (r.phase, r.unsigned, r.ends.phases); whole = r.ends.whole };
}

pub number_runs : (digits : List ℕ) → IsNumber digits → NumberRuns digits
number_runs digits n = number_parts digits (n.whole ++ (n.fraction ++ n.exponent)) n.minus n.minus_is n.spelled (whole_runs n.whole n.fraction n.exponent n.whole_is n.fraction_is n.exponent_is)
