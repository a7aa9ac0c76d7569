-- UTF-8, byte by byte: the bytes that make a character, and those that can't.
use Rattle.std.proofs.Common.{◌≡◌, ℕ, ◌+◌, ◌-◌, ◌*◌, ◌/◌, ◌%◌, ◌<◌, ◌≤◌, List, [], ◌∷◌, ◌++◌, refl, ap, sym, ◌∙◌, arith, lt-ltb, le-ltb, true, inl, inr}
use Rattle.std.specs.Prelude.{encode_utf8, ◌⊎◌}
use Rattle.std.specs.Char.{IsScalar}
use Rattle.std.specs.Str.{IsUtf8, encode_utf8_all, all_scalars}
use Rattle.std.proofs.lemmas.Bool.Decides.{nat_tests}
use Rattle.std.proofs.lemmas.Bool.{and_parts}

pub scalar_low : (c : ℕ) → c < 55296 → IsScalar c
scalar_low c h = grind (arith, nat_tests)

pub scalar_high : (c : ℕ) → 57344 ≤ c → c < 1114112 → IsScalar c
scalar_high c low high = grind (arith, nat_tests)

pub scalar_range : (c : ℕ) → IsScalar c → (c < 1114112) × ((c < 55296) ⊎ (57344 ≤ c))
scalar_range c h = grind (arith, nat_tests)

pub two : (b c x : ℕ) → 194 ≤ b → b ≤ 223 → 128 ≤ c → c ≤ 191 → x ≡ (b - 192) * 64 + (c - 128) → encode_utf8 x ≡ b ∷ c ∷ []
unfolding lib.Utf8.encode
two b c x low high clow chigh e =
    let first : 192 + x / 64 ≡ b = omega arith in
    let second : 128 + x % 64 ≡ c = omega arith in
    rw (le-ltb x 128 (omega arith), lt-ltb x 2048 (omega arith), first, second) refl

pub three : (b c d x : ℕ) → 224 ≤ b → b ≤ 239 → 128 ≤ c → c ≤ 191 → 128 ≤ d → d ≤ 191 → 2048 ≤ x → x < 65536 → x ≡ ((b - 224) * 64 + (c - 128)) * 64 + (d - 128) → encode_utf8 x ≡ b ∷ c ∷ d ∷ []
unfolding lib.Utf8.encode
three b c d x low high clow chigh dlow dhigh xlow xhigh e =
    let first : 224 + x / 4096 ≡ b = omega arith in
    let middle : x / 64 ≡ (b - 224) * 64 + (c - 128) = omega arith in
    let second : 128 + (x / 64) % 64 ≡ c = rw middle (omega arith) in
    let third : 128 + x % 64 ≡ d = omega arith in
    rw (le-ltb x 128 (omega arith), le-ltb x 2048 (omega arith), lt-ltb x 65536 (omega arith), first, second, third) refl

pub four : (b c d e x : ℕ) → 240 ≤ b → b ≤ 244 → 128 ≤ c → c ≤ 191 → 128 ≤ d → d ≤ 191 → 128 ≤ e → e ≤ 191 → 65536 ≤ x → x ≡ (((b - 240) * 64 + (c - 128)) * 64 + (d - 128)) * 64 + (e - 128) → encode_utf8 x ≡ b ∷ c ∷ d ∷ e ∷ []
unfolding lib.Utf8.encode
four b c d e x low high clow chigh dlow dhigh elow ehigh xlow h =
    let top : x / 262144 ≡ b - 240 = omega arith in
    let first : 240 + x / 262144 ≡ b = omega arith in
    let a : x / 4096 ≡ (b - 240) * 64 + (c - 128) = omega arith in
    let second : 128 + (x / 4096) % 64 ≡ c = rw a (omega arith) in
    let m : x / 64 ≡ ((b - 240) * 64 + (c - 128)) * 64 + (d - 128) = omega arith in
    let third : 128 + (x / 64) % 64 ≡ d = rw m (omega arith) in
    let fourth : 128 + x % 64 ≡ e = omega arith in
    rw (le-ltb x 128 (omega arith), le-ltb x 2048 (omega arith), le-ltb x 65536 xlow, first, second, third, fourth) refl

-- the bytes of a character
pub data Encoded (c : ℕ) : Type 0 where
  one_byte : c < 128 → encode_utf8 c ≡ c ∷ [] → Encoded c
  two_bytes : 128 ≤ c → c < 2048 → encode_utf8 c ≡ (192 + c / 64) ∷ (128 + c % 64) ∷ [] → Encoded c
  three_bytes : 2048 ≤ c → c < 65536 → encode_utf8 c ≡ (224 + c / 4096) ∷ (128 + (c / 64) % 64) ∷ (128 + c % 64) ∷ [] → Encoded c
  four_bytes : 65536 ≤ c → encode_utf8 c ≡ (240 + c / 262144) ∷ (128 + (c / 4096) % 64) ∷ (128 + (c / 64) % 64) ∷ (128 + c % 64) ∷ [] → Encoded c

pub order : (m n : ℕ) → (m < n) ⊎ (n ≤ m)
order m n = grind arith

pub encoded : (c : ℕ) → Encoded c
unfolding lib.Utf8.encode
encoded c = first (order c 128)
  where
    third : (c < 65536) ⊎ (65536 ≤ c) → 2048 ≤ c → Encoded c
    third (inl h) low = three_bytes low h (rw (le-ltb c 128 (omega arith), le-ltb c 2048 low, lt-ltb c 65536 h) refl)
    third (inr h) low = four_bytes h (rw (le-ltb c 128 (omega arith), le-ltb c 2048 low, le-ltb c 65536 h) refl)

    second : (c < 2048) ⊎ (2048 ≤ c) → 128 ≤ c → Encoded c
    second (inl h) low = two_bytes low h (rw (le-ltb c 128 low, lt-ltb c 2048 h) refl)
    second (inr h) low = third (order c 65536) h

    first : (c < 128) ⊎ (128 ≤ c) → Encoded c
    first (inl h) = one_byte h (rw (lt-ltb c 128 h) refl)
    first (inr h) = second (order c 2048) h

-- the character that begins some bytes of UTF-8
pub record Begins (b : ℕ) (bytes : List ℕ) : Type 0 where
  pub char : ℕ
  pub rest : List ℕ
  pub scalar : IsScalar char
  pub spelled : encode_utf8 char ++ rest ≡ b ∷ bytes

pub begins : (b : ℕ) (bytes : List ℕ) → IsUtf8 (b ∷ bytes) → Begins b bytes
begins b bytes u = on u.0 u.1.0 u.1.1
  where
    on : (cs : List ℕ) → all_scalars cs ≡ true → encode_utf8_all cs ≡ b ∷ bytes → Begins b bytes
    on [] s e = absurd (cc)
    on (c ∷ cs) s e = record { char = c; rest = encode_utf8_all cs; scalar = (and_parts _ _ s).0; spelled = e }

pub first_byte : (b : ℕ) (bytes : List ℕ) → IsUtf8 (b ∷ bytes) → (b < 128) ⊎ ((194 ≤ b) × (b ≤ 244))
first_byte b bytes u =
    let v = begins b bytes u in
    let c = v.char in
    let range = scalar_range c v.scalar in
    elim (encoded c) [
      | one_byte low e ↦ let same : c ≡ b = (let s : (c ∷ []) ++ v.rest ≡ b ∷ bytes = ap (λ x. x ++ v.rest) (sym e) ∙ v.spelled in cc) in inl (omega arith)
      | two_bytes low high e ↦ let same : 192 + c / 64 ≡ b = (let s : ((192 + c / 64) ∷ (128 + c % 64) ∷ []) ++ v.rest ≡ b ∷ bytes = ap (λ x. x ++ v.rest) (sym e) ∙ v.spelled in cc) in inr (omega arith, omega arith)
      | three_bytes low high e ↦ let same : 224 + c / 4096 ≡ b = (let s : ((224 + c / 4096) ∷ (128 + (c / 64) % 64) ∷ (128 + c % 64) ∷ []) ++ v.rest ≡ b ∷ bytes = ap (λ x. x ++ v.rest) (sym e) ∙ v.spelled in cc) in inr (omega arith, omega arith)
      | four_bytes low e ↦ let same : 240 + c / 262144 ≡ b = (let s : ((240 + c / 262144) ∷ (128 + (c / 4096) % 64) ∷ (128 + (c / 64) % 64) ∷ (128 + c % 64) ∷ []) ++ v.rest ≡ b ∷ bytes = ap (λ x. x ++ v.rest) (sym e) ∙ v.spelled in cc) in inr (omega arith, omega (arith, range.0))
    ]

-- what a second byte must be
pub record Second (b x : ℕ) : Type 0 where
  pub low : 128 ≤ x
  pub high : x ≤ 191
  pub e0 : b ≡ 224 → 160 ≤ x
  pub ed : b ≡ 237 → x ≤ 159
  pub f0 : b ≡ 240 → 144 ≤ x
  pub f4 : b ≡ 244 → x ≤ 143

second_of_two : (b x c : ℕ) → 128 ≤ c → c < 2048 → 192 + c / 64 ≡ b → 128 + c % 64 ≡ x → Second b x
second_of_two b x c low high e f = record { low = omega arith; high = omega arith; e0 = λ h. omega arith; ed = λ h. omega arith; f0 = λ h. omega arith; f4 = λ h. omega arith }

second_of_three : (b x c : ℕ) → 2048 ≤ c → c < 65536 → (c < 55296) ⊎ (57344 ≤ c) → 224 + c / 4096 ≡ b → 128 + (c / 64) % 64 ≡ x → Second b x
second_of_three b x c low high range e f = record { low = omega arith; high = omega arith; e0 = λ h. omega arith; ed = λ h. omega arith; f0 = λ h. omega arith; f4 = λ h. omega arith }

second_of_four : (b x c : ℕ) → 65536 ≤ c → c < 1114112 → 240 + c / 262144 ≡ b → 128 + (c / 4096) % 64 ≡ x → Second b x
second_of_four b x c low high e f = record { low = omega arith; high = omega arith; e0 = λ h. omega arith; ed = λ h. omega arith; f0 = λ h. omega arith; f4 = λ h. omega arith }

pub second_byte : (b x : ℕ) (bytes : List ℕ) → 128 ≤ b → IsUtf8 (b ∷ x ∷ bytes) → Second b x
second_byte b x bytes big u =
    let v = begins b (x ∷ bytes) u in
    let c = v.char in
    let range = scalar_range c v.scalar in
    elim (encoded c) [
      | one_byte low e ↦ let same : c ≡ b = (let s : (c ∷ []) ++ v.rest ≡ b ∷ x ∷ bytes = ap (λ x. x ++ v.rest) (sym e) ∙ v.spelled in cc) in absurd (omega arith)
      | two_bytes low high e ↦ let s : ((192 + c / 64) ∷ (128 + c % 64) ∷ []) ++ v.rest ≡ b ∷ x ∷ bytes = ap (λ x. x ++ v.rest) (sym e) ∙ v.spelled in second_of_two b x c low high (cc) (cc)
      | three_bytes low high e ↦ let s : ((224 + c / 4096) ∷ (128 + (c / 64) % 64) ∷ (128 + c % 64) ∷ []) ++ v.rest ≡ b ∷ x ∷ bytes = ap (λ x. x ++ v.rest) (sym e) ∙ v.spelled in second_of_three b x c low high range.1 (cc) (cc)
      | four_bytes low e ↦ let s : ((240 + c / 262144) ∷ (128 + (c / 4096) % 64) ∷ (128 + (c / 64) % 64) ∷ (128 + c % 64) ∷ []) ++ v.rest ≡ b ∷ x ∷ bytes = ap (λ x. x ++ v.rest) (sym e) ∙ v.spelled in second_of_four b x c low range.0 (cc) (cc)
    ]

pub third_byte : (b x y : ℕ) (bytes : List ℕ) → 224 ≤ b → IsUtf8 (b ∷ x ∷ y ∷ bytes) → (128 ≤ y) × (y ≤ 191)
third_byte b x y bytes big u =
    let v = begins b (x ∷ y ∷ bytes) u in
    let c = v.char in
    elim (encoded c) [
      | one_byte low e ↦ let same : c ≡ b = (let s : (c ∷ []) ++ v.rest ≡ b ∷ x ∷ y ∷ bytes = ap (λ x. x ++ v.rest) (sym e) ∙ v.spelled in cc) in absurd (omega arith)
      | two_bytes low high e ↦ let same : 192 + c / 64 ≡ b = (let s : ((192 + c / 64) ∷ (128 + c % 64) ∷ []) ++ v.rest ≡ b ∷ x ∷ y ∷ bytes = ap (λ x. x ++ v.rest) (sym e) ∙ v.spelled in cc) in absurd (omega arith)
      | three_bytes low high e ↦ let same : 128 + c % 64 ≡ y = (let s : ((224 + c / 4096) ∷ (128 + (c / 64) % 64) ∷ (128 + c % 64) ∷ []) ++ v.rest ≡ b ∷ x ∷ y ∷ bytes = ap (λ x. x ++ v.rest) (sym e) ∙ v.spelled in cc) in (omega arith, omega arith)
      | four_bytes low e ↦ let same : 128 + (c / 64) % 64 ≡ y = (let s : ((240 + c / 262144) ∷ (128 + (c / 4096) % 64) ∷ (128 + (c / 64) % 64) ∷ (128 + c % 64) ∷ []) ++ v.rest ≡ b ∷ x ∷ y ∷ bytes = ap (λ x. x ++ v.rest) (sym e) ∙ v.spelled in cc) in (omega arith, omega arith)
    ]

pub fourth_byte : (b x y z : ℕ) (bytes : List ℕ) → 240 ≤ b → IsUtf8 (b ∷ x ∷ y ∷ z ∷ bytes) → (128 ≤ z) × (z ≤ 191)
fourth_byte b x y z bytes big u =
    let v = begins b (x ∷ y ∷ z ∷ bytes) u in
    let c = v.char in
    elim (encoded c) [
      | one_byte low e ↦ let same : c ≡ b = (let s : (c ∷ []) ++ v.rest ≡ b ∷ x ∷ y ∷ z ∷ bytes = ap (λ x. x ++ v.rest) (sym e) ∙ v.spelled in cc) in absurd (omega arith)
      | two_bytes low high e ↦ let same : 192 + c / 64 ≡ b = (let s : ((192 + c / 64) ∷ (128 + c % 64) ∷ []) ++ v.rest ≡ b ∷ x ∷ y ∷ z ∷ bytes = ap (λ x. x ++ v.rest) (sym e) ∙ v.spelled in cc) in absurd (omega arith)
      | three_bytes low high e ↦ let same : 224 + c / 4096 ≡ b = (let s : ((224 + c / 4096) ∷ (128 + (c / 64) % 64) ∷ (128 + c % 64) ∷ []) ++ v.rest ≡ b ∷ x ∷ y ∷ z ∷ bytes = ap (λ x. x ++ v.rest) (sym e) ∙ v.spelled in cc) in absurd (omega arith)
      | four_bytes low e ↦ let same : 128 + c % 64 ≡ z = (let s : ((240 + c / 262144) ∷ (128 + (c / 4096) % 64) ∷ (128 + (c / 64) % 64) ∷ (128 + c % 64) ∷ []) ++ v.rest ≡ b ∷ x ∷ y ∷ z ∷ bytes = ap (λ x. x ++ v.rest) (sym e) ∙ v.spelled in cc) in (omega arith, omega arith)
    ]

-- What makes of the bytes so far a character: a byte in the first range, then one in the next, and so on. A byte out of its
-- range makes no UTF-8 of them.
abbrev pub Promise : List ℕ → List (ℕ × ℕ) → Type 0
Promise pend [] = (c : ℕ) × IsScalar c × (128 ≤ c) × (encode_utf8 c ≡ pend)
Promise pend (r ∷ rs) = (b : ℕ) → (r.0 ≤ b → b ≤ r.1 → Promise (pend ++ b ∷ []) rs) × ((b < r.0) ⊎ (r.1 < b) → (more : List ℕ) → IsUtf8 (pend ++ b ∷ more) → ⊥)

out_of : (low high b : ℕ) → (b < low) ⊎ (high < b) → low ≤ b → b ≤ high → ⊥
out_of low high b (inl h) l r = omega arith
out_of low high b (inr h) l r = omega arith

pub promise2 : (b : ℕ) → 194 ≤ b → b ≤ 223 → Promise (b ∷ []) ((128, 191) ∷ [])
promise2 b low high = λ x. (
  (λ l h. let c = (b - 192) * 64 + (x - 128) in (c, scalar_low c (omega arith), omega arith, two b x c low high l h refl)),
  (λ out more u. let s = second_byte b x more (omega arith) u in out_of 128 191 x out s.low s.high),
)

promise_third : (b x : ℕ) → 224 ≤ b → b ≤ 239 → 128 ≤ x → x ≤ 191 → (b ≡ 224 → 160 ≤ x) → (b ≡ 237 → x ≤ 159) → Promise (b ∷ x ∷ []) ((128, 191) ∷ [])
promise_third b x low high l h e0 ed = λ y. (
  (λ yl yh. let c = ((b - 224) * 64 + (x - 128)) * 64 + (y - 128) in let small : 2048 ≤ c = at_least y yl yh in (c, is_scalar y yl yh, omega arith, three b x y c low high l h yl yh small (omega arith) refl)),
  (λ out more u. let s = third_byte b x y more low u in out_of 128 191 y out s.0 s.1),
)
  where
    at_least : (y : ℕ) → 128 ≤ y → y ≤ 191 → 2048 ≤ ((b - 224) * 64 + (x - 128)) * 64 + (y - 128)
    at_least y yl yh = elim (order 224 b) [ inl g ↦ omega arith | inr g ↦ (let far = e0 (omega arith) in omega arith) ]

    is_scalar : (y : ℕ) → 128 ≤ y → y ≤ 191 → IsScalar (((b - 224) * 64 + (x - 128)) * 64 + (y - 128))
    is_scalar y yl yh =
        let c = ((b - 224) * 64 + (x - 128)) * 64 + (y - 128) in
        elim (order b 237) [
          | inl g ↦ scalar_low c (omega arith)
          | inr g ↦ elim (order 237 b) [ inl k ↦ scalar_high c (omega arith) (omega arith) | inr k ↦ (let near = ed (omega arith) in scalar_low c (omega arith)) ]
        ]

pub promise3 : (b : ℕ) → 224 ≤ b → b ≤ 239 → (b ≡ 224 → ⊥) → (b ≡ 237 → ⊥) → Promise (b ∷ []) ((128, 191) ∷ (128, 191) ∷ [])
promise3 b low high n0 nd = λ x. (
  (λ l h. promise_third b x low high l h (λ e. absurd (n0 e)) (λ e. absurd (nd e))),
  (λ out more u. let s = second_byte b x more (omega arith) u in out_of 128 191 x out s.low s.high),
)

pub promise_e0 : Promise (224 ∷ []) ((160, 191) ∷ (128, 191) ∷ [])
promise_e0 = λ x. (
  (λ l h. promise_third 224 x (omega arith) (omega arith) (omega arith) h (λ e. l) (λ e. absurd (omega arith))),
  (λ out more u. let s = second_byte 224 x more (omega arith) u in out_of 160 191 x out (s.e0 refl) s.high),
)

pub promise_ed : Promise (237 ∷ []) ((128, 159) ∷ (128, 191) ∷ [])
promise_ed = λ x. (
  (λ l h. promise_third 237 x (omega arith) (omega arith) l (omega arith) (λ e. absurd (omega arith)) (λ e. h)),
  (λ out more u. let s = second_byte 237 x more (omega arith) u in out_of 128 159 x out s.low (s.ed refl)),
)

promise_rest : (b x : ℕ) → 240 ≤ b → b ≤ 244 → 128 ≤ x → x ≤ 191 → (b ≡ 240 → 144 ≤ x) → (b ≡ 244 → x ≤ 143) → Promise (b ∷ x ∷ []) ((128, 191) ∷ (128, 191) ∷ [])
promise_rest b x low high l h f0 f4 = λ y. (
  (λ yl yh z. (
    (λ zl zh. let c = (((b - 240) * 64 + (x - 128)) * 64 + (y - 128)) * 64 + (z - 128) in
        let small : 65536 ≤ c = at_least y yl yh z zl zh in (c, scalar_high c (omega arith) (below y yl yh z zl zh), omega arith, four b x y z c low high l h yl yh zl zh small refl)),
    (λ out more u. let s = fourth_byte b x y z more low u in out_of 128 191 z out s.0 s.1),
  )),
  (λ out more u. let s = third_byte b x y more (omega arith) u in out_of 128 191 y out s.0 s.1),
)
  where
    at_least : (y : ℕ) → 128 ≤ y → y ≤ 191 → (z : ℕ) → 128 ≤ z → z ≤ 191 → 65536 ≤ (((b - 240) * 64 + (x - 128)) * 64 + (y - 128)) * 64 + (z - 128)
    at_least y yl yh z zl zh = elim (order 240 b) [ inl g ↦ omega arith | inr g ↦ (let far = f0 (omega arith) in omega arith) ]

    below : (y : ℕ) → 128 ≤ y → y ≤ 191 → (z : ℕ) → 128 ≤ z → z ≤ 191 → (((b - 240) * 64 + (x - 128)) * 64 + (y - 128)) * 64 + (z - 128) < 1114112
    below y yl yh z zl zh = elim (order b 244) [ inl g ↦ omega arith | inr g ↦ (let far = f4 (omega arith) in omega arith) ]

pub promise4 : (b : ℕ) → 241 ≤ b → b ≤ 243 → Promise (b ∷ []) ((128, 191) ∷ (128, 191) ∷ (128, 191) ∷ [])
promise4 b low high = λ x. (
  (λ l h. promise_rest b x (omega arith) (omega arith) l h (λ e. absurd (omega arith)) (λ e. absurd (omega arith))),
  (λ out more u. let s = second_byte b x more (omega arith) u in out_of 128 191 x out s.low s.high),
)

pub promise_f0 : Promise (240 ∷ []) ((144, 191) ∷ (128, 191) ∷ (128, 191) ∷ [])
promise_f0 = λ x. (
  (λ l h. promise_rest 240 x (omega arith) (omega arith) (omega arith) h (λ e. l) (λ e. absurd (omega arith))),
  (λ out more u. let s = second_byte 240 x more (omega arith) u in out_of 144 191 x out (s.f0 refl) s.high),
)

pub promise_f4 : Promise (244 ∷ []) ((128, 143) ∷ (128, 191) ∷ (128, 191) ∷ [])
promise_f4 = λ x. (
  (λ l h. promise_rest 244 x (omega arith) (omega arith) l (omega arith) (λ e. absurd (omega arith)) (λ e. h)),
  (λ out more u. let s = second_byte 244 x more (omega arith) u in out_of 128 143 x out s.low (s.f4 refl)),
)
