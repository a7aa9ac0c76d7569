-- The steps of the reader along a line.
use Rattle.std.specs.Str.{IsUtf8}
use Rattle.script_reader.specs.declared.fault.ScriptFault.{ScriptFault}
use Rattle.script_reader.specs.declared.fault.ScriptFault.TheVariants.{UnknownCommand, WrongWords, BadNumber, BadQuoting, BadObject, NoMemory}
use Rattle.script_reader.specs.Reading.{Answers, the_one}
use Rattle.script_reader.specs.Lines.{AreTexts, spelled, IsQuotingFault}
use Rattle.script_reader.proofs.Spelling.{Stops, BeginsWord, word_sound, behind_stops, blank_behind, behind_blank, first_found, first_sound, some_pair}
use Rattle.std.specs.Prelude.{Ok, Err, ◌≤◌, ◌≡◌, ℕ, ◌<◌, Bool, true, false, cond, ◌==◌, List, [], ◌∷◌, ◌++◌, length, Option, Some, None}
use Rattle.std.proofs.Common.{refl, sym, ap, subst, ◌∙◌, arith, append_assoc, length-append, ⊎_elim}
use Rattle.script_reader.specs.Words.{is_separator, escaped, SpellsLine}
use Rattle.script_reader.specs.Scan.{behind_by, put_front, put_all, unquote, first_word}

pair_more : (word : List ℕ) (c : ℕ) (q : Option (List ℕ × List ℕ)) → put_all word (put_front (Some c) q) ≡ put_all (word ++ c ∷ []) q
pair_more word c None = refl
pair_more word c (Some p) = ap (λ (w : List ℕ). Some (w, p.1)) (sym (append_assoc word (c ∷ []) p.0))

plain_by : (a b : Bool) (x y z : Option (List ℕ × List ℕ)) → a ≡ false → b ≡ false → cond a x (cond b y z) ≡ z
plain_by true b x y z e f = absurd (cc)
plain_by false true x y z e f = absurd (cc)
plain_by false false x y z e f = refl

escape_by : (a b : Bool) (x y z : Option (List ℕ × List ℕ)) → a ≡ false → b ≡ true → cond a x (cond b y z) ≡ y
escape_by true b x y z e f = absurd (cc)
escape_by false true x y z e f = refl
escape_by false false x y z e f = absurd (cc)

last_by : (a : Bool) (x : Option (List ℕ × List ℕ)) → a ≡ false → cond a x None ≡ None
last_by true x e = absurd (cc)
last_by false x e = refl

plain_here : (c : ℕ) (behind : List ℕ) → (c == 34) ≡ false → (c == 92) ≡ false → unquote (c ∷ behind) ≡ put_front (Some c) (unquote behind)
plain_here c [] e f = last_by (c == 34) _ e
plain_here c (d ∷ cs) e f = plain_by (c == 34) (c == 92) _ _ _ e f

-- a byte that stands for itself
pub plain_step : (word new rest behind : List ℕ) (c : ℕ) (all : Option (List ℕ × List ℕ)) → rest ≡ c ∷ behind → (c == 34) ≡ false → (c == 92) ≡ false → new ≡ word ++ c ∷ [] → put_all word (unquote rest) ≡ all → put_all new (unquote behind) ≡ all
plain_step word new rest behind c all e f g n h =
    ap (λ (w : List ℕ). put_all w (unquote behind)) n ∙ (sym (pair_more word c (unquote behind)) ∙ (ap (put_all word) (sym (ap unquote e ∙ plain_here c behind f g)) ∙ h))

-- an escape
pub escape_step : (word new rest behind further : List ℕ) (c d k : ℕ) (all : Option (List ℕ × List ℕ)) → rest ≡ c ∷ behind → behind ≡ d ∷ further → (c == 34) ≡ false → (c == 92) ≡ true → escaped d ≡ Some k → new ≡ word ++ k ∷ [] → put_all word (unquote rest) ≡ all → put_all new (unquote further) ≡ all
escape_step word new rest behind further c d k all e i f g o n h =
    ap (λ (w : List ℕ). put_all w (unquote further)) n ∙ (sym (pair_more word k (unquote further))
    ∙ (ap (put_all word) (sym (ap unquote (e ∙ ap (λ b. c ∷ b) i) ∙ (escape_by (c == 34) (c == 92) _ _ _ f g ∙ ap (λ (x : Option ℕ). put_front x (unquote further)) o))) ∙ h))

-- ---- the words, one behind another
-- the words from what begins with no separator on
abbrev pub Gathers : List ℕ → List (List ℕ) → Type 0
Gathers rest [] = rest ≡ []
Gathers rest (word ∷ words) = (behind : List ℕ) × (first_word rest ≡ some_pair word behind) × Gathers (behind_by is_separator behind) words

pub gathers_spelled : (line : List ℕ) (words : List (List ℕ)) → Gathers (behind_by is_separator line) words → SpellsLine line words
gathers_spelled line [] g = behind_blank line g
gathers_spelled line (word ∷ words) g = (g.0, first_sound line word g.0 g.1, gathers_spelled g.0 words g.2)

pub spelled_gathers : (line : List ℕ) (words : List (List ℕ)) → SpellsLine line words → Gathers (behind_by is_separator line) words
spelled_gathers line [] s = blank_behind line s
spelled_gathers line (word ∷ words) s = (s.0, first_found line word s.0 s.1, spelled_gathers s.0 words s.2)

-- the words so far, and what is left
pub record SoFar (line rest : List ℕ) (words : List (List ℕ)) : Type 0 where
  pub stops : Stops is_separator rest
  pub texts : AreTexts words
  pub ahead : (more : List (List ℕ)) → Gathers rest more → Gathers (behind_by is_separator line) (words ++ more)
  pub all : (every : List (List ℕ)) → Gathers (behind_by is_separator line) every → (more : List (List ℕ)) × (every ≡ words ++ more) × Gathers rest more

pub so_far_none : (line rest : List ℕ) (words : List (List ℕ)) → rest ≡ behind_by is_separator line → words ≡ [] → SoFar line rest words
so_far_none line rest words e n = subst (λ (r : List ℕ). SoFar line r words) (sym e) (subst (λ (w : List (List ℕ)). SoFar line (behind_by is_separator line) w) (sym n) (record {
  stops = behind_stops is_separator line;
  texts = tt;
  ahead = λ more g. g;
  all = λ every g. (every, refl, g);
}))

texts_more : (words : List (List ℕ)) (word : List ℕ) → AreTexts words → IsUtf8 word → AreTexts (words ++ word ∷ [])
texts_more [] word t u = (u, tt)
texts_more (w ∷ words) word t u = (t.0, texts_more words word t.1 u)

text_there : (words more : List (List ℕ)) (word : List ℕ) → AreTexts (words ++ word ∷ more) → IsUtf8 word
text_there [] more word t = t.0
text_there (w ∷ words) more word t = text_there words more word t.1

pairs_same : (a b c d : List ℕ) → some_pair a b ≡ some_pair c d → (a ≡ c) × (b ≡ d)
pairs_same a b c d e = (ap first_of e, ap second_of e)
  where
    first_of : Option (List ℕ × List ℕ) → List ℕ
    first_of None = []
    first_of (Some p) = p.0

    second_of : Option (List ℕ × List ℕ) → List ℕ
    second_of None = []
    second_of (Some p) = p.1

-- the word that comes first of what is left
record IsNext (word behind : List ℕ) (more : List (List ℕ)) : Type 0 where
  others : List (List ℕ)
  first : more ≡ word ∷ others
  rest : Gathers (behind_by is_separator behind) others

next_one : (rest word behind : List ℕ) (more : List (List ℕ)) → 0 < length rest → first_word rest ≡ some_pair word behind → Gathers rest more → IsNext word behind more
next_one rest word behind [] h f g = let n : length rest ≡ 0 = ap length g in absurd (omega arith)
next_one rest word behind (other ∷ others) h f g =
    let p : (other ≡ word) × (g.0 ≡ behind) = pairs_same other g.0 word behind (sym g.1 ∙ f) in
    record { others = others; first = ap (λ w. w ∷ others) p.0; rest = subst (λ (b : List ℕ). Gathers (behind_by is_separator b) others) p.1 g.2 }

pub so_far_more : (line rest : List ℕ) (words new : List (List ℕ)) (word bytes behind next : List ℕ) → SoFar line rest words → 0 < length rest → first_word rest ≡ Some (bytes, behind) → word ≡ bytes → IsUtf8 bytes → new ≡ words ++ word ∷ [] → next ≡ behind_by is_separator behind → SoFar line next new
so_far_more line rest words new word bytes behind next s h f w u n e =
    subst (λ (r : List ℕ). SoFar line r new) (sym e) (subst (λ (k : List (List ℕ)). SoFar line (behind_by is_separator behind) k) (sym (n ∙ ap (λ (b : List ℕ). words ++ b ∷ []) w)) (record {
      stops = behind_stops is_separator behind;
      texts = texts_more words bytes s.texts u;
      ahead = λ more g. subst (λ (l : List (List ℕ)). Gathers (behind_by is_separator line) l) (sym (append_assoc words (bytes ∷ []) more)) (s.ahead (bytes ∷ more) (behind, f, g));
      all = λ every g.
          let m : (more : List (List ℕ)) × (every ≡ words ++ more) × Gathers rest more = s.all every g in
          let k : IsNext bytes behind m.0 = next_one rest bytes behind m.0 h f m.2 in
          (k.others, m.1 ∙ (ap (λ (l : List (List ℕ)). words ++ l) k.first ∙ sym (append_assoc words (bytes ∷ []) k.others)), k.rest);
    }))

pub so_far_end : (line rest : List ℕ) (words : List (List ℕ)) → SoFar line rest words → length rest ≡ 0 → Answers (spelled line) (Ok words)
unfolding Answers the_one
so_far_end line (c ∷ rest) words s h = absurd (omega arith)
so_far_end line [] words s h = (gathers_spelled line words (subst (λ (l : List (List ℕ)). Gathers (behind_by is_separator line) l) (nothing_behind words) (s.ahead [] refl)), s.texts)
  where
    nothing_behind : (l : List (List ℕ)) → l ++ [] ≡ l
    nothing_behind [] = refl
    nothing_behind (x ∷ xs) = ap (λ t. x ∷ t) (nothing_behind xs)

-- no list of words where no word can be read
stuck_word : (line rest : List ℕ) (words : List (List ℕ)) → SoFar line rest words → 0 < length rest → first_word rest ≡ None → (every : List (List ℕ)) → ¬ (SpellsLine line every × AreTexts every)
stuck_word line rest words s h f every t = by (s.all every (spelled_gathers line every t.0))
  where
    by : ((more : List (List ℕ)) × (every ≡ words ++ more) × Gathers rest more) → ⊥
    by m = next (m.0) (m.2)
      where
        next : (more : List (List ℕ)) → Gathers rest more → ⊥
        next [] g = let n : length rest ≡ 0 = ap length g in absurd (omega arith)
        next (word ∷ others) g = let d : None ≡ some_pair word g.0 = sym f ∙ g.1 in cc

pub quoting_fault : (line rest : List ℕ) (words : List (List ℕ)) (fault : ScriptFault) → SoFar line rest words → 0 < length rest → IsQuotingFault fault → (fault ≡ BadQuoting → first_word rest ≡ None) → Answers (spelled line) (Err fault)
unfolding Answers the_one
quoting_fault line rest words NoMemory s h i f = tt
quoting_fault line rest words BadQuoting s h i f = (refl, stuck_word line rest words s h (f refl))
quoting_fault line rest words UnknownCommand s h i f = absurd i
quoting_fault line rest words WrongWords s h i f = absurd i
quoting_fault line rest words BadNumber s h i f = absurd i
quoting_fault line rest words BadObject s h i f = absurd i

pub no_text : (line rest : List ℕ) (words : List (List ℕ)) (bytes behind : List ℕ) → SoFar line rest words → 0 < length rest → first_word rest ≡ Some (bytes, behind) → ¬ (IsUtf8 bytes) → Answers (spelled line) (Err BadQuoting)
unfolding Answers the_one
no_text line rest words bytes behind s h f u = (
  refl,
  λ every t.
      let m : (more : List (List ℕ)) × (every ≡ words ++ more) × Gathers rest more = s.all every (spelled_gathers line every t.0) in
      let k : IsNext bytes behind m.0 = next_one rest bytes behind m.0 h f m.2 in
      u (text_there words k.others bytes (subst (λ (l : List (List ℕ)). AreTexts l) (m.1 ∙ ap (λ (l : List (List ℕ)). words ++ l) k.first) t.1)),
)

behind_length : (p : ℕ → Bool) (text : List ℕ) → length (behind_by p text) ≤ length text
behind_length p [] = omega arith
behind_length p (c ∷ cs) = by p c cs (p c) (behind_length p cs)
  where
    by : (p : ℕ → Bool) (c : ℕ) (cs : List ℕ) (b : Bool) → length (behind_by p cs) ≤ length cs → length (cond b (behind_by p cs) (c ∷ cs)) ≤ length (c ∷ cs)
    by p c cs true h = omega arith
    by p c cs false h = omega arith

-- each word takes bytes
pub shorter : (line rest : List ℕ) (words : List (List ℕ)) (bytes behind next : List ℕ) → SoFar line rest words → first_word rest ≡ Some (bytes, behind) → next ≡ behind_by is_separator behind → length next < length rest
shorter line rest words bytes behind next s f e =
    let b : BeginsWord rest bytes behind = word_sound rest bytes behind s.stops f in
    let some : 0 < length b.text = ⊎_elim (λ x. x.0) (λ q. let l : length b.text ≡ length (34 ∷ (q.0 ++ 34 ∷ [])) = ap length q.1 in omega arith) b.spells in
    let l : length rest ≡ length (b.text ++ behind) = ap length b.text_is in
    let m : length (behind_by is_separator behind) ≤ length behind = behind_length is_separator behind in
    let n : length next ≡ length (behind_by is_separator behind) = ap length e in
    omega (arith, length-append b.text behind)
