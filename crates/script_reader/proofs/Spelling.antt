-- The reader finds the words that a line spells, and no others.
use Rattle.std.specs.Prelude.{◌≡◌, ◌≢◌, ℕ, ◌<◌, Bool, true, false, not, cond, ◌==◌, ◌||◌, ◌&&◌, List, [], ◌∷◌, ◌++◌, length, Option, Some, None}
use Rattle.std.specs.List.{list_all}
use Rattle.std.proofs.Common.{refl, sym, ap, subst, ◌∙◌, arith, inl, inr, ⊎_elim, eqb-true, append_assoc, append-nil}
use Rattle.script_reader.specs.Words.{is_separator, is_plain, escaped, put, unquoted, SpellsWord, ends_word, SpellsFirst, SpellsLine}
use Rattle.script_reader.specs.Scan.{front_by, behind_by, put_front, unquote, ended, first_word}

-- ---- runs
-- the first does not pass
abbrev pub Stops : (ℕ → Bool) → List ℕ → Type 0
Stops p [] = Unit {0}
Stops p (c ∷ cs) = p c ≡ false

joined_by : (p : ℕ → Bool) (c : ℕ) (cs : List ℕ) (b : Bool) → front_by p cs ++ behind_by p cs ≡ cs → cond b (c ∷ front_by p cs) [] ++ cond b (behind_by p cs) (c ∷ cs) ≡ c ∷ cs
joined_by p c cs true e = ap (λ t. c ∷ t) e
joined_by p c cs false e = refl

pub front-behind : (p : ℕ → Bool) (text : List ℕ) → front_by p text ++ behind_by p text ≡ text
front-behind p [] = refl
front-behind p (c ∷ cs) = joined_by p c cs (p c) (front-behind p cs)

stops_by : (p : ℕ → Bool) (c : ℕ) (cs : List ℕ) (b : Bool) → p c ≡ b → Stops p (behind_by p cs) → Stops p (cond b (behind_by p cs) (c ∷ cs))
stops_by p c cs true e h = h
stops_by p c cs false e h = e

pub behind_stops : (p : ℕ → Bool) (text : List ℕ) → Stops p (behind_by p text)
behind_stops p [] = tt
behind_stops p (c ∷ cs) = stops_by p c cs (p c) refl (behind_stops p cs)

pub all_tail : (p : ℕ → Bool) (c : ℕ) (cs : List ℕ) → list_all p (c ∷ cs) ≡ true → (p c ≡ true) × (list_all p cs ≡ true)
all_tail p c cs h = by (p c) (list_all p cs) h
  where
    by : (a b : Bool) → (a && b) ≡ true → (a ≡ true) × (b ≡ true)
    by true b h = (refl, h)
    by false b h = cc

none_front : (p : ℕ → Bool) (rest : List ℕ) → Stops p rest → (front_by p rest ≡ []) × (behind_by p rest ≡ rest)
none_front p [] h = (refl, refl)
none_front p (c ∷ cs) h = (ap (λ b. cond b (c ∷ front_by p cs) []) h, ap (λ b. cond b (behind_by p cs) (c ∷ cs)) h)

pub front-append : (p : ℕ → Bool) (run rest : List ℕ) → list_all p run ≡ true → Stops p rest → (front_by p (run ++ rest) ≡ run) × (behind_by p (run ++ rest) ≡ rest)
front-append p [] rest h s = none_front p rest s
front-append p (c ∷ cs) rest h s =
    let t : (p c ≡ true) × (list_all p cs ≡ true) = all_tail p c cs h in
    let r : (front_by p (cs ++ rest) ≡ cs) × (behind_by p (cs ++ rest) ≡ rest) = front-append p cs rest t.1 s in
    (ap (λ b. cond b (c ∷ front_by p (cs ++ rest)) []) t.0 ∙ ap (λ l. c ∷ l) r.0, ap (λ b. cond b (behind_by p (cs ++ rest)) (c ∷ (cs ++ rest))) t.0 ∙ r.1)

-- ---- quoted words
put_found : (c : Option ℕ) (o : Option (List ℕ)) (q : Option (List ℕ × List ℕ)) (word rest : List ℕ) → ((w : List ℕ) → o ≡ Some w → q ≡ Some (w, rest)) → put c o ≡ Some word → put_front c q ≡ Some (word, rest)
put_found None o q word rest h e = cc
put_found (Some c) None q word rest h e = cc
put_found (Some c) (Some w) q word rest h e =
    let same : c ∷ w ≡ word = cc in
    ap (put_front (Some c)) (h w refl) ∙ ap (λ l. Some (l, rest)) same

one_by : (c : ℕ) (rest word : List ℕ) (a b : Bool) → cond (a || b) None (Some (c ∷ [])) ≡ Some word → cond a (Some ([], 34 ∷ rest)) (cond b (put_front (escaped 34) (unquote rest)) (put_front (Some c) (Some ([], rest)))) ≡ Some (word, rest)
one_by c rest word true b e = cc
one_by c rest word false true e = cc
one_by c rest word false false e = let same : c ∷ [] ≡ word = cc in ap (λ l. Some (l, rest)) same

closing : (rest : List ℕ) → unquote (34 ∷ rest) ≡ Some ([], rest)
closing [] = refl
closing (c ∷ cs) = refl

two_by : (c d : ℕ) (cs rest word : List ℕ) (a b : Bool) → ((w : List ℕ) → unquoted cs ≡ Some w → unquote (cs ++ 34 ∷ rest) ≡ Some (w, rest)) → ((w : List ℕ) → unquoted (d ∷ cs) ≡ Some w → unquote ((d ∷ cs) ++ 34 ∷ rest) ≡ Some (w, rest)) → cond a None (cond b (put (escaped d) (unquoted cs)) (put (Some c) (unquoted (d ∷ cs)))) ≡ Some word → cond a (Some ([], d ∷ (cs ++ 34 ∷ rest))) (cond b (put_front (escaped d) (unquote (cs ++ 34 ∷ rest))) (put_front (Some c) (unquote (d ∷ (cs ++ 34 ∷ rest))))) ≡ Some (word, rest)
two_by c d cs rest word true b f g e = cc
two_by c d cs rest word false true f g e = put_found (escaped d) (unquoted cs) (unquote (cs ++ 34 ∷ rest)) word rest f e
two_by c d cs rest word false false f g e = put_found (Some c) (unquoted (d ∷ cs)) (unquote (d ∷ (cs ++ 34 ∷ rest))) word rest g e

quote_found : (body rest word : List ℕ) → unquoted body ≡ Some word → unquote (body ++ 34 ∷ rest) ≡ Some (word, rest)
quote_found [] rest word e = let same : [] ≡ word = cc in closing rest ∙ ap (λ l. Some (l, rest)) same
quote_found (c ∷ []) rest word e =
    ap (λ q. cond (c == 34) (Some ([], 34 ∷ rest)) (cond (c == 92) (put_front (escaped 34) (unquote rest)) (put_front (Some c) q))) (closing rest)
    ∙ one_by c rest word (c == 34) (c == 92) e
quote_found (c ∷ d ∷ cs) rest word e =
    two_by c d cs rest word (c == 34) (c == 92) (λ w h. quote_found cs rest w h) (λ w h. quote_found (d ∷ cs) rest w h) e

-- the other way
pub record IsQuoted (text word rest : List ℕ) : Type 0 where
  pub body : List ℕ
  pub text_is : text ≡ body ++ 34 ∷ rest
  pub says : unquoted body ≡ Some word

record PutParts (c : ℕ) (q : Option (List ℕ × List ℕ)) (word rest : List ℕ) : Type 0 where
  tail : List ℕ
  was : q ≡ Some (tail, rest)
  word_is : word ≡ c ∷ tail

put_parts : (c : ℕ) (q : Option (List ℕ × List ℕ)) (word rest : List ℕ) → put_front (Some c) q ≡ Some (word, rest) → PutParts c q word rest
put_parts c None word rest e = cc
put_parts c (Some p) word rest e =
    let same : (c ∷ p.0, p.1) ≡ (word, rest) = cc in
    record { tail = p.0; was = ap (λ r. Some (p.0, r)) (ap (λ (x : List ℕ × List ℕ). x.1) same); word_is = sym (ap (λ (x : List ℕ × List ℕ). x.0) same) }

pub plain_more : (c : ℕ) (body : List ℕ) (word : List ℕ) → (c == 34) ≡ false → (c == 92) ≡ false → unquoted body ≡ Some word → unquoted (c ∷ body) ≡ Some (c ∷ word)
plain_more c [] word a b e =
    let same : [] ≡ word = cc in
    ap (λ k. cond (k || (c == 92)) None (Some (c ∷ []))) a ∙ (ap (λ k. cond k None (Some (c ∷ []))) b ∙ ap (λ l. Some (c ∷ l)) same)
plain_more c (d ∷ cs) word a b e =
    ap (λ k. cond k None (cond (c == 92) (put (escaped d) (unquoted cs)) (put (Some c) (unquoted (d ∷ cs))))) a
    ∙ (ap (λ k. cond k (put (escaped d) (unquoted cs)) (put (Some c) (unquoted (d ∷ cs)))) b ∙ ap (put (Some c)) e)

escape_more : (c d k : ℕ) (body word : List ℕ) → (c == 34) ≡ false → (c == 92) ≡ true → escaped d ≡ Some k → unquoted body ≡ Some word → unquoted (c ∷ d ∷ body) ≡ Some (k ∷ word)
escape_more c d k body word a b h e =
    ap (λ j. cond j None (cond (c == 92) (put (escaped d) (unquoted body)) (put (Some c) (unquoted (d ∷ body))))) a
    ∙ (ap (λ j. cond j (put (escaped d) (unquoted body)) (put (Some c) (unquoted (d ∷ body)))) b
    ∙ (ap (λ o. put o (unquoted body)) h ∙ ap (put (Some k)) e))

abbrev pub some_pair : List ℕ → List ℕ → Option (List ℕ × List ℕ)
some_pair a b = Some (a, b)

pair_parts : (a b c d : List ℕ) → some_pair a b ≡ some_pair c d → (a ≡ c) × (b ≡ d)
pair_parts a b c d e = (ap first_of e, ap second_of e)
  where
    first_of : Option (List ℕ × List ℕ) → List ℕ
    first_of None = []
    first_of (Some p) = p.0

    second_of : Option (List ℕ × List ℕ) → List ℕ
    second_of None = []
    second_of (Some p) = p.1

at_quote : (c : ℕ) (cs word rest : List ℕ) → (c == 34) ≡ true → some_pair [] cs ≡ some_pair word rest → IsQuoted (c ∷ cs) word rest
at_quote c cs word rest h e =
    let p : ([] ≡ word) × (cs ≡ rest) = pair_parts [] cs word rest e in
    record { body = []; text_is = ap (λ k. k ∷ cs) (eqb-true c 34 h) ∙ ap (λ l. 34 ∷ l) p.1; says = ap Some p.0 }

last_by : (c : ℕ) (word rest : List ℕ) (a : Bool) → (c == 34) ≡ a → cond a (some_pair [] []) None ≡ some_pair word rest → IsQuoted (c ∷ []) word rest
last_by c word rest true h e = at_quote c [] word rest h e
last_by c word rest false h e = cc

escape_by : (c d : ℕ) (cs word rest : List ℕ) (o : Option ℕ) → (c == 34) ≡ false → (c == 92) ≡ true → escaped d ≡ o → ((w : List ℕ) → unquote cs ≡ Some (w, rest) → IsQuoted cs w rest) → put_front o (unquote cs) ≡ Some (word, rest) → IsQuoted (c ∷ d ∷ cs) word rest
escape_by c d cs word rest None a b h f e = cc
escape_by c d cs word rest (Some k) a b h f e =
    let p : PutParts k (unquote cs) word rest = put_parts k (unquote cs) word rest e in
    let q : IsQuoted cs p.tail rest = f p.tail p.was in
    record {
      body = c ∷ d ∷ q.body;
      text_is = ap (λ l. c ∷ d ∷ l) q.text_is;
      says = escape_more c d k q.body p.tail a b h q.says ∙ ap Some (sym p.word_is);
    }

plain_by : (c : ℕ) (cs word rest : List ℕ) → (c == 34) ≡ false → (c == 92) ≡ false → ((w : List ℕ) → unquote cs ≡ Some (w, rest) → IsQuoted cs w rest) → put_front (Some c) (unquote cs) ≡ Some (word, rest) → IsQuoted (c ∷ cs) word rest
plain_by c cs word rest a b f e =
    let p : PutParts c (unquote cs) word rest = put_parts c (unquote cs) word rest e in
    let q : IsQuoted cs p.tail rest = f p.tail p.was in
    record { body = c ∷ q.body; text_is = ap (λ l. c ∷ l) q.text_is; says = plain_more c q.body p.tail a b q.says ∙ ap Some (sym p.word_is) }

more_by : (c d : ℕ) (cs word rest : List ℕ) (a b : Bool) → (c == 34) ≡ a → (c == 92) ≡ b → ((w : List ℕ) → unquote cs ≡ Some (w, rest) → IsQuoted cs w rest) → ((w : List ℕ) → unquote (d ∷ cs) ≡ Some (w, rest) → IsQuoted (d ∷ cs) w rest) → cond a (some_pair [] (d ∷ cs)) (cond b (put_front (escaped d) (unquote cs)) (put_front (Some c) (unquote (d ∷ cs)))) ≡ some_pair word rest → IsQuoted (c ∷ d ∷ cs) word rest
more_by c d cs word rest true b h k f g e = at_quote c (d ∷ cs) word rest h e
more_by c d cs word rest false true h k f g e = escape_by c d cs word rest (escaped d) h k refl f e
more_by c d cs word rest false false h k f g e = plain_by c (d ∷ cs) word rest h k g e

quote_sound : (text word rest : List ℕ) → unquote text ≡ Some (word, rest) → IsQuoted text word rest
quote_sound [] word rest e = cc
quote_sound (c ∷ []) word rest e = last_by c word rest (c == 34) refl e
quote_sound (c ∷ d ∷ cs) word rest e =
    more_by c d cs word rest (c == 34) (c == 92) refl refl (λ w h. quote_sound cs w rest h) (λ w h. quote_sound (d ∷ cs) w rest h) e

-- ---- the first word
is_quote_false : (c : ℕ) → is_plain c ≡ true → (c == 34) ≡ false
is_quote_false c h = by (is_separator c) (c == 34) h
  where
    by : (a b : Bool) → not (a || b) ≡ true → b ≡ false
    by true b h = cc
    by false true h = cc
    by false false h = refl

plain_no_separator : (c : ℕ) → is_plain c ≡ true → is_separator c ≡ false
plain_no_separator c h = by (is_separator c) (c == 34) h
  where
    by : (a b : Bool) → not (a || b) ≡ true → a ≡ false
    by true b h = cc
    by false b h = refl

quote_no_separator : (c : ℕ) → c ≡ 34 → is_separator c ≡ false
quote_no_separator c e = rw e refl

-- what ends a word is not plain
ends_stops : (rest : List ℕ) → ends_word rest ≡ true → Stops is_plain rest
ends_stops [] h = tt
ends_stops (c ∷ cs) h = ap (λ b. not (b || (c == 34))) h

ended_found : (word rest : List ℕ) → ends_word rest ≡ true → ended (some_pair word rest) ≡ some_pair word rest
ended_found word rest h = ap (λ b. cond b (some_pair word rest) None) h

bare_found : (text rest : List ℕ) → 0 < length text → list_all is_plain text ≡ true → ends_word rest ≡ true → first_word (text ++ rest) ≡ some_pair text rest
bare_found [] rest s h e = absurd (omega arith)
bare_found (c ∷ cs) rest s h e =
    let t : (is_plain c ≡ true) × (list_all is_plain cs ≡ true) = all_tail is_plain c cs h in
    let r : (front_by is_plain ((c ∷ cs) ++ rest) ≡ c ∷ cs) × (behind_by is_plain ((c ∷ cs) ++ rest) ≡ rest) = front-append is_plain (c ∷ cs) rest h (ends_stops rest e) in
    ap (λ b. cond b (ended (unquote (cs ++ rest))) (ended (some_pair (front_by is_plain ((c ∷ cs) ++ rest)) (behind_by is_plain ((c ∷ cs) ++ rest))))) (is_quote_false c t.0)
    ∙ (ap (λ l. ended (some_pair l (behind_by is_plain ((c ∷ cs) ++ rest)))) r.0
    ∙ (ap (λ l. ended (some_pair (c ∷ cs) l)) r.1 ∙ ended_found (c ∷ cs) rest e))

quoted_found : (body rest word : List ℕ) → unquoted body ≡ Some word → ends_word rest ≡ true → first_word ((34 ∷ (body ++ 34 ∷ [])) ++ rest) ≡ some_pair word rest
quoted_found body rest word u e =
    ap (λ l. ended (unquote l)) (append_assoc body (34 ∷ []) rest) ∙ (ap ended (quote_found body rest word u) ∙ ended_found word rest e)

pub word_found : (text word rest : List ℕ) → SpellsWord text word → ends_word rest ≡ true → first_word (text ++ rest) ≡ some_pair word rest
word_found text word rest s e =
    ⊎_elim
    (λ b. bare_found text rest b.0 b.1 e ∙ ap (λ w. some_pair w rest) (sym b.2))
    (λ q. ap (λ t. first_word (t ++ rest)) q.1 ∙ quoted_found q.0 rest word q.2 e)
    s

-- a text that begins with a word
pub record BeginsWord (t word rest : List ℕ) : Type 0 where
  pub text : List ℕ
  pub spells : SpellsWord text word
  pub ends : ends_word rest ≡ true
  pub text_is : t ≡ text ++ rest

record IsEnded (word rest : List ℕ) (o : Option (List ℕ × List ℕ)) : Type 0 where
  was : o ≡ some_pair word rest
  ends : ends_word rest ≡ true

ended_by : (p : List ℕ × List ℕ) (word rest : List ℕ) (b : Bool) → ends_word p.1 ≡ b → cond b (some_pair p.0 p.1) None ≡ some_pair word rest → IsEnded word rest (Some p)
ended_by p word rest true h e = record { was = e; ends = subst (λ (l : List ℕ). ends_word l ≡ true) (pair_parts p.0 p.1 word rest e).1 h }
ended_by p word rest false h e = cc

ended_parts : (o : Option (List ℕ × List ℕ)) (word rest : List ℕ) → ended o ≡ some_pair word rest → IsEnded word rest o
ended_parts None word rest e = cc
ended_parts (Some p) word rest e = ended_by p word rest (ends_word p.1) refl e

quoted_sound : (c : ℕ) (cs word rest : List ℕ) → (c == 34) ≡ true → ended (unquote cs) ≡ some_pair word rest → BeginsWord (c ∷ cs) word rest
quoted_sound c cs word rest h e =
    let p : IsEnded word rest (unquote cs) = ended_parts (unquote cs) word rest e in
    let q : IsQuoted cs word rest = quote_sound cs word rest p.was in
    record {
      text = 34 ∷ (q.body ++ 34 ∷ []);
      spells = inr (q.body, refl, q.says);
      ends = p.ends;
      text_is = ap (λ k. k ∷ cs) (eqb-true c 34 h) ∙ ap (λ l. 34 ∷ l) (q.text_is ∙ sym (append_assoc q.body (34 ∷ []) rest));
    }

front_all : (p : ℕ → Bool) (text : List ℕ) → list_all p (front_by p text) ≡ true
front_all p [] = refl
front_all p (c ∷ cs) = by p c cs (p c) refl (front_all p cs)
  where
    by : (p : ℕ → Bool) (c : ℕ) (cs : List ℕ) (b : Bool) → p c ≡ b → list_all p (front_by p cs) ≡ true → list_all p (cond b (c ∷ front_by p cs) []) ≡ true
    by p c cs true e h = ap (λ k. k && list_all p (front_by p cs)) e ∙ h
    by p c cs false e h = refl

bare_sound : (c : ℕ) (cs word rest : List ℕ) → is_separator c ≡ false → (c == 34) ≡ false → ended (some_pair (front_by is_plain (c ∷ cs)) (behind_by is_plain (c ∷ cs))) ≡ some_pair word rest → BeginsWord (c ∷ cs) word rest
bare_sound c cs word rest s h e =
    let p : IsEnded word rest (some_pair (front_by is_plain (c ∷ cs)) (behind_by is_plain (c ∷ cs))) = ended_parts _ word rest e in
    let q : (front_by is_plain (c ∷ cs) ≡ word) × (behind_by is_plain (c ∷ cs) ≡ rest) = pair_parts _ _ word rest p.was in
    let plain : is_plain c ≡ true = ap (λ b. not (b || (c == 34))) s ∙ ap not h in
    let some : 0 < length (front_by is_plain (c ∷ cs)) = subst (λ (l : List ℕ). 0 < length l) (sym (ap (λ b. cond b (c ∷ front_by is_plain cs) []) plain)) (omega arith) in
    record {
      text = front_by is_plain (c ∷ cs);
      spells = inl (some, front_all is_plain (c ∷ cs), sym q.0);
      ends = p.ends;
      text_is = sym (front-behind is_plain (c ∷ cs)) ∙ ap (λ l. front_by is_plain (c ∷ cs) ++ l) q.1;
    }

first_by : (c : ℕ) (cs word rest : List ℕ) (b : Bool) → is_separator c ≡ false → (c == 34) ≡ b → cond b (ended (unquote cs)) (ended (some_pair (front_by is_plain (c ∷ cs)) (behind_by is_plain (c ∷ cs)))) ≡ some_pair word rest → BeginsWord (c ∷ cs) word rest
first_by c cs word rest true s h e = quoted_sound c cs word rest h e
first_by c cs word rest false s h e = bare_sound c cs word rest s h e

pub word_sound : (t word rest : List ℕ) → Stops is_separator t → first_word t ≡ some_pair word rest → BeginsWord t word rest
word_sound [] word rest s e = cc
word_sound (c ∷ cs) word rest s e = first_by c cs word rest (c == 34) s refl e

-- ---- a line
word_stops : (text word rest : List ℕ) → SpellsWord text word → Stops is_separator (text ++ rest)
word_stops text word rest s =
    ⊎_elim (λ b. bare text rest b.0 b.1) (λ q. subst (λ (t : List ℕ). Stops is_separator (t ++ rest)) (sym q.1) refl) s
  where
    bare : (text rest : List ℕ) → 0 < length text → list_all is_plain text ≡ true → Stops is_separator (text ++ rest)
    bare [] rest h a = absurd (omega arith)
    bare (c ∷ cs) rest h a = plain_no_separator c (all_tail is_plain c cs a).0

-- a line of separators alone
pub blank_behind : (line : List ℕ) → list_all is_separator line ≡ true → behind_by is_separator line ≡ []
blank_behind [] h = refl
blank_behind (c ∷ cs) h =
    let t : (is_separator c ≡ true) × (list_all is_separator cs ≡ true) = all_tail is_separator c cs h in
    ap (λ b. cond b (behind_by is_separator cs) (c ∷ cs)) t.0 ∙ blank_behind cs t.1

pub behind_blank : (line : List ℕ) → behind_by is_separator line ≡ [] → list_all is_separator line ≡ true
behind_blank line e =
    subst (λ (l : List ℕ). list_all is_separator l ≡ true) (sym (append-nil (front_by is_separator line)) ∙ (ap (λ l. front_by is_separator line ++ l) (sym e) ∙ front-behind is_separator line)) (front_all is_separator line)

pub first_found : (line word rest : List ℕ) → SpellsFirst line word rest → first_word (behind_by is_separator line) ≡ some_pair word rest
first_found line word rest s =
    let r : (front_by is_separator (s.before ++ (s.text ++ rest)) ≡ s.before) × (behind_by is_separator (s.before ++ (s.text ++ rest)) ≡ s.text ++ rest) = front-append is_separator s.before (s.text ++ rest) s.blank (word_stops s.text word rest s.spells) in
    ap (λ l. first_word (behind_by is_separator l)) s.line_is ∙ (ap first_word r.1 ∙ word_found s.text word rest s.spells s.ends)

pub first_sound : (line word rest : List ℕ) → first_word (behind_by is_separator line) ≡ some_pair word rest → SpellsFirst line word rest
first_sound line word rest e =
    let b : BeginsWord (behind_by is_separator line) word rest = word_sound (behind_by is_separator line) word rest (behind_stops is_separator line) e in
    record {
      before = front_by is_separator line;
      text = b.text;
      blank = front_all is_separator line;
      spells = b.spells;
      ends = b.ends;
      line_is = sym (front-behind is_separator line) ∙ ap (λ l. front_by is_separator line ++ l) b.text_is;
    }

-- no word begins where nothing is left
pub first_some : (line word rest : List ℕ) → SpellsFirst line word rest → behind_by is_separator line ≢ []
first_some line word rest s e = let f : None ≡ some_pair word rest = sym (ap first_word e) ∙ first_found line word rest s in cc

-- ---- the words of a line are one list
same_words : (u v : List ℕ) (us vs : List (List ℕ)) → u ≡ v → us ≡ vs → u ∷ us ≡ v ∷ vs
same_words u v us vs e f = ap (λ w. w ∷ us) e ∙ ap (λ ws. v ∷ ws) f

pub one_reading : (line : List ℕ) (us vs : List (List ℕ)) → SpellsLine line us → SpellsLine line vs → us ≡ vs
one_reading line [] [] h k = refl
one_reading line [] (v ∷ vs) h k = absurd (first_some line v k.0 k.1 (blank_behind line h))
one_reading line (u ∷ us) [] h k = absurd (first_some line u h.0 h.1 (blank_behind line k))
one_reading line (u ∷ us) (v ∷ vs) h k =
    let p : (u ≡ v) × (h.0 ≡ k.0) = pair_parts u h.0 v k.0 (sym (first_found line u h.0 h.1) ∙ first_found line v k.0 k.1) in
    same_words u v us vs p.0 (one_reading k.0 us vs (subst (λ (l : List ℕ). SpellsLine l us) p.1 h.2) k.2)
