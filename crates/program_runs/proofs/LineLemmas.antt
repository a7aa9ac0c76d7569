-- What is said has no newline but its last byte.
use Rattle.std.proofs.Common.{◌≡◌, ◌∙◌, ◌++◌, ◌/◌, ◌%◌, ◌⊎◌, inl, inr, ◌∷◌, [], ℕ, zero, suc, Bool, true, false, not, List, length, ap, sym, refl, codes, arith, append_assoc}
use Rattle.std.specs.Prelude.{Option, Some, None, ◌==◌, ◌||◌, if◌then◌else◌, decimal}
use Rattle.std.specs.List.{flat_map, list_all}
use Rattle.std.specs.Fmt.{digit_glyph, digits, digits_onto}
use Rattle.std.proofs.lemmas.List.Folds.{list_all-append}
use Rattle.std.proofs.lemmas.List.Concat.{flat_map-cons}
use Rattle.std.proofs.lemmas.Grind.{common_steps}
use Rattle.std.proofs.lemmas.Bool.{and_parts}
use Rattle.plan_report.specs.Words.{in_quotes, is_bare, needs_quotes, printed_word, quoted}
use Rattle.program_runs.specs.Places.{is_newline}
use Rattle.program_runs.specs.Hints.{IsLine, cert_text, hint_line, hint_of, is_unbroken, long_hint, name_part}
use Rattle.program_runs.specs.Faults.{fault_text, field_text, field_words, begins_with, front_text, json_text_at, json_words, kind_text, known_place, or_else, part, text_by, words_at}
use Rattle.program_runs.specs.Names.{dump_name, script_name}
use Rattle.program_runs.specs.declared.place.Place.{Place}
use Rattle.json_text.specs.declared.fault.JsonCode.{JsonCode}
use Rattle.json_text.specs.declared.fault.JsonCode.TheVariants as j
use Rattle.json_text.specs.declared.fault.JsonFault.{JsonFault}
use Rattle.craft_reader.specs.declared.fault.DumpCode.{DumpCode}
use Rattle.craft_reader.specs.declared.fault.DumpCode.TheVariants as d
use Rattle.craft_reader.specs.declared.fault.DumpFault.{DumpFault}
use Rattle.certificate_file.specs.declared.CertFault.{CertFault}
use Rattle.certificate_file.specs.declared.CertFault.TheVariants as c
use Rattle.run_inputs.specs.declared.status.Long.{Long}
use Rattle.run_inputs.specs.declared.status.Long.TheVariants.{DumpBytes, ScriptBytes, ScriptLines, CertBytes}
use Rattle.run_inputs.specs.declared.status.Status.{Status}
use Rattle.run_inputs.specs.declared.status.Status.TheVariants.{Done, SomeRefused, BadWords, BadDump, ReadFault, WriteFault, NoMemory, TooLong, BadCert}

pub joined : (xs ys : List ℕ) → is_unbroken xs ≡ true → is_unbroken ys ≡ true → is_unbroken (xs ++ ys) ≡ true
joined xs ys first second = rw (list_all-append (λ byte. not (is_newline byte)) xs ys, first, second) refl

-- ---- numbers
glyph : (n : ℕ) → not (is_newline (digit_glyph false (n % 10))) ≡ true
glyph n = grind (arith, common_steps)

glyph_before : (n : ℕ) (later : List ℕ) → is_unbroken later ≡ true → is_unbroken (digit_glyph false (n % 10) ∷ later) ≡ true
glyph_before n later rest = rw (glyph n, rest) refl

either : (test : Bool) (xs ys : List ℕ) → is_unbroken xs ≡ true → is_unbroken ys ≡ true → is_unbroken (if test then xs else ys) ≡ true
either true xs ys first second = first
either false xs ys first second = second

digits_unbroken : (k n : ℕ) (later : List ℕ) → is_unbroken later ≡ true → is_unbroken (digits_onto k 10 false n later) ≡ true
digits_unbroken zero n later rest = rest
digits_unbroken (suc k) n later rest =
    either (n / 10 == 0) (digit_glyph false (n % 10) ∷ later) (digits_onto k 10 false (n / 10) (digit_glyph false (n % 10) ∷ later)) (glyph_before n later rest)
    (digits_unbroken k (n / 10) (digit_glyph false (n % 10) ∷ later) (glyph_before n later rest))

pub decimal_unbroken : (n : ℕ) → is_unbroken (decimal n) ≡ true
unfolding digits
decimal_unbroken n = digits_unbroken 64 n [] refl

-- ---- words
bare_byte : (byte : ℕ) → not (needs_quotes byte) ≡ true → not (is_newline byte) ≡ true
bare_byte byte bare = grind (arith, common_steps)

bare_bytes : (bytes : List ℕ) → list_all (λ b. not (needs_quotes b)) bytes ≡ true → is_unbroken bytes ≡ true
bare_bytes [] bare = refl
bare_bytes (byte ∷ bytes) bare =
    let parts = and_parts (not (needs_quotes byte)) (list_all (λ b. not (needs_quotes b)) bytes) bare in
    rw (bare_byte byte parts.0, bare_bytes bytes parts.1) refl

bare_word : (word : List ℕ) → is_bare word ≡ true → is_unbroken word ≡ true
bare_word [] bare = refl
bare_word (byte ∷ bytes) bare = bare_bytes (byte ∷ bytes) (and_parts (not (byte == 35)) (list_all (λ b. not (needs_quotes b)) (byte ∷ bytes)) bare).1

quoted_byte : (byte : ℕ) → is_unbroken (in_quotes byte) ≡ true
quoted_byte byte = grind (arith, common_steps)

quoted_bytes : (bytes : List ℕ) → is_unbroken (flat_map in_quotes bytes) ≡ true
quoted_bytes [] = refl
quoted_bytes (byte ∷ bytes) = rw flat_map-cons (joined (in_quotes byte) (flat_map in_quotes bytes) (quoted_byte byte) (quoted_bytes bytes))

pub word_unbroken : (word : List ℕ) → is_unbroken (printed_word word) ≡ true
unfolding printed_word
word_unbroken word = by_test (is_bare word) refl
  where
    by_test : (test : Bool) → is_bare word ≡ test → is_unbroken (if test then word else quoted word) ≡ true
    by_test true is = bare_word word is
    by_test false is = joined (codes "\"") (flat_map in_quotes word ++ codes "\"") refl (joined (flat_map in_quotes word) (codes "\"") (quoted_bytes word) refl)

-- ---- faults
json_words_unbroken : (code : JsonCode) → is_unbroken (json_words code) ≡ true
json_words_unbroken j.NotJson = refl
json_words_unbroken j.TooDeep = refl
json_words_unbroken j.Repeated = refl
json_words_unbroken j.NotUtf8 = refl
json_words_unbroken j.TooMany = refl
json_words_unbroken j.NoMemory = refl

json_text_unbroken : (place : Option Place) (fault : JsonFault) → is_unbroken (json_text_at place fault) ≡ true
json_text_unbroken (Some place) fault =
    let what = words_at place fault.code in
    let behind_column = codes ": " ++ what in
    let column = decimal place.column ++ behind_column in
    let behind_line = codes ", column " ++ column in
    joined (codes "line ") (decimal place.line ++ behind_line) refl
    (joined (decimal place.line) behind_line (decimal_unbroken place.line)
    (joined (codes ", column ") column refl
    (joined (decimal place.column) behind_column (decimal_unbroken place.column)
    (joined (codes ": ") what refl
    (either place.at_end (codes "the file ends here, and its JSON does not") (json_words fault.code) refl (json_words_unbroken fault.code))))))
json_text_unbroken None fault =
    let what = codes " bytes: " ++ json_words fault.code in
    joined (codes "after ") (decimal fault.at ++ what) refl
    (joined (decimal fault.at) what (decimal_unbroken fault.at) (joined (codes " bytes: ") (json_words fault.code) refl (json_words_unbroken fault.code)))

field_words_unbroken : (code : DumpCode) → is_unbroken (field_words code) ≡ true
field_words_unbroken d.Missing = refl
field_words_unbroken d.WrongKind = refl
field_words_unbroken d.UnknownName = refl
field_words_unbroken d.Number = refl
field_words_unbroken d.Energy = refl
field_words_unbroken d.Twice = refl
field_words_unbroken d.Limit = refl
field_words_unbroken (d.Json json) = json_words_unbroken json.code
field_words_unbroken d.NoMemory = refl

part_unbroken : (name : List ℕ) → is_unbroken (part name) ≡ true
part_unbroken name = either (length name == 0) [] (printed_word name ++ codes ": ") refl (joined (printed_word name) (codes ": ") (word_unbroken name) refl)

field_text_unbroken : (fault : DumpFault) → is_unbroken (field_text fault) ≡ true
field_text_unbroken fault =
    joined (part fault.section) _ (part_unbroken fault.section)
    (joined (part fault.name) _ (part_unbroken fault.name)
    (joined (part fault.field) _ (part_unbroken fault.field) (field_words_unbroken fault.code)))

kind_text_unbroken : (fault : DumpFault) → is_unbroken (kind_text fault) ≡ true
kind_text_unbroken fault = either (length fault.section == 0) (codes "no section of Factorio 1.1 found") (field_text fault) refl (field_text_unbroken fault)

found : (is : Bool) (text : List ℕ) (others : Option (List ℕ)) (other : List ℕ) → is_unbroken text ≡ true → is_unbroken (or_else others other) ≡ true → is_unbroken (or_else (if is then Some text else others) other) ≡ true
found true text others other one rest = one
found false text others other one rest = rest

front_unbroken : (dump : Option (List ℕ)) (other : List ℕ) → is_unbroken other ≡ true → is_unbroken (or_else (front_text dump) other) ≡ true
front_unbroken (Some bytes) other rest =
    found (begins_with bytes (31 ∷ 139 ∷ [])) (codes "the file is packed by gzip, and has to be unpacked first") _ other refl
    (found (begins_with bytes (80 ∷ 75 ∷ 3 ∷ 4 ∷ [])) (codes "the file is packed by zip, and has to be unpacked first") _ other refl
    (found (begins_with bytes (253 ∷ 55 ∷ 122 ∷ 88 ∷ 90 ∷ [])) (codes "the file is packed by xz, and has to be unpacked first") _ other refl
    (found (begins_with bytes (40 ∷ 181 ∷ 47 ∷ 253 ∷ [])) (codes "the file is packed by zstd, and has to be unpacked first") _ other refl
    (found (begins_with bytes (239 ∷ 187 ∷ 191 ∷ [])) (codes "the file begins with a byte order mark") _ other refl
    (found (begins_with bytes (255 ∷ 254 ∷ []) || begins_with bytes (254 ∷ 255 ∷ [])) (codes "the file is UTF-16, and has to be UTF-8") None other refl rest)))))
front_unbroken None other rest = rest

text_by_unbroken : (code : DumpCode) (fault : DumpFault) (dump : Option (List ℕ)) → is_unbroken (text_by code fault dump) ≡ true
text_by_unbroken (d.Json json) fault dump = front_unbroken dump (json_text_at (known_place dump json.at) json) (json_text_unbroken (known_place dump json.at) json)
text_by_unbroken d.WrongKind fault dump = kind_text_unbroken fault
text_by_unbroken d.Missing fault dump = field_text_unbroken fault
text_by_unbroken d.UnknownName fault dump = field_text_unbroken fault
text_by_unbroken d.Number fault dump = field_text_unbroken fault
text_by_unbroken d.Energy fault dump = field_text_unbroken fault
text_by_unbroken d.Twice fault dump = field_text_unbroken fault
text_by_unbroken d.Limit fault dump = field_text_unbroken fault
text_by_unbroken d.NoMemory fault dump = field_text_unbroken fault

fault_text_unbroken : (fault : DumpFault) (dump : Option (List ℕ)) → is_unbroken (fault_text fault dump) ≡ true
unfolding fault_text
fault_text_unbroken fault dump = text_by_unbroken fault.code fault dump

-- ---- lines
name_part_unbroken : (file : Option (List ℕ)) → is_unbroken (name_part file) ≡ true
name_part_unbroken (Some name) = joined (printed_word name) (codes ": ") (word_unbroken name) refl
name_part_unbroken None = refl

pub is_line : (file : Option (List ℕ)) (what : List ℕ) → is_unbroken what ≡ true → IsLine (hint_line file what)
unfolding hint_line
is_line file what unbroken = (
  codes "factoplan: " ++ (name_part file ++ what),
  ap (λ (text : List ℕ). codes "factoplan: " ++ text) (sym (append_assoc (name_part file) what (codes "\n"))) ∙ sym (append_assoc (codes "factoplan: ") (name_part file ++ what) (codes "\n")),
  joined (codes "factoplan: ") (name_part file ++ what) refl (joined (name_part file) what (name_part_unbroken file) unbroken),
)

long_is_line : (long : Long) (words : List (List ℕ)) (cert : Option (List ℕ)) → IsLine (long_hint long words cert)
long_is_line DumpBytes words cert = is_line (dump_name words) (codes "the dump has more than 268,435,456 bytes") refl
long_is_line ScriptBytes words cert = is_line (script_name words) (codes "the script has more than 16,777,216 bytes") refl
long_is_line ScriptLines words cert = is_line (script_name words) (codes "the script has more than 100,000 lines") refl
long_is_line CertBytes words cert = is_line cert (codes "the certificate has more than 268,435,456 bytes") refl

cert_unbroken : (fault : CertFault) → is_unbroken (cert_text fault) ≡ true
cert_unbroken c.NoMemory = refl
cert_unbroken c.NotJson = refl
cert_unbroken c.BadForm = refl

pub hint_is_line : (status : Status) (words : List (List ℕ)) (cert dump : Option (List ℕ)) → (hint_of status words cert dump ≡ []) ⊎ IsLine (hint_of status words cert dump)
hint_is_line Done words cert dump = inl refl
hint_is_line SomeRefused words cert dump = inl refl
hint_is_line BadWords words cert dump = inr (is_line None _ refl)
hint_is_line (BadDump fault) words cert dump = inr (is_line (dump_name words) _ (fault_text_unbroken fault dump))
hint_is_line ReadFault words cert dump = inr (is_line None _ refl)
hint_is_line WriteFault words cert dump = inr (is_line None _ refl)
hint_is_line NoMemory words cert dump = inr (is_line None _ refl)
hint_is_line (TooLong long) words cert dump = inr (long_is_line long words cert)
hint_is_line (BadCert fault) words cert dump = inr (is_line cert (cert_text fault) (cert_unbroken fault))
