-- What is said on standard error of how a run ended: one line, or nothing where every line of the script was answered.
use Rattle.std.specs.Prelude.{◌≡◌, ℕ, List, [], ◌++◌, Bool, not, true, Option, None, Some, codes}
use Rattle.std.specs.List.{list_all}
use Rattle.plan_report.specs.Words.{printed_word}
use Rattle.certificate_file.specs.declared.CertFault.{CertFault}
use Rattle.certificate_file.specs.declared.CertFault.TheVariants as fault
use Rattle.run_inputs.specs.declared.status.Long.{Long}
use Rattle.run_inputs.specs.declared.status.Long.TheVariants.{DumpBytes, ScriptBytes, ScriptLines, CertBytes}
use Rattle.run_inputs.specs.declared.status.Status.{Status}
use Rattle.run_inputs.specs.declared.status.Status.TheVariants.{Done, SomeRefused, BadWords, BadDump, ReadFault, WriteFault, NoMemory, TooLong, BadCert}
use Rattle.program_runs.specs.Faults.{fault_text}
use Rattle.program_runs.specs.Names.{dump_name, script_name}
use Rattle.program_runs.specs.Places.{is_newline}

-- no newline is among the bytes
abbrev pub is_unbroken : List ℕ → Bool
is_unbroken bytes = list_all (λ byte. not (is_newline byte)) bytes

-- one line, with the newline that ends it
abbrev pub IsLine : List ℕ → Type 0
IsLine text = (line : List ℕ) × (text ≡ line ++ codes "\n") × (is_unbroken line ≡ true)

abbrev pub name_part : Option (List ℕ) → List ℕ
name_part (Some name) = printed_word name ++ codes ": "
name_part None = []

-- a line of the program: the file that it is about, where there is one, and what is wrong
unfoldable pub hint_line : Option (List ℕ) → List ℕ → List ℕ
hint_line file what = codes "factoplan: " ++ (name_part file ++ (what ++ codes "\n"))

-- which file is too long, and by what it is
abbrev pub long_hint : Long → List (List ℕ) → Option (List ℕ) → List ℕ
long_hint DumpBytes words cert = hint_line (dump_name words) (codes "the dump has more than 268,435,456 bytes")
long_hint ScriptBytes words cert = hint_line (script_name words) (codes "the script has more than 16,777,216 bytes")
long_hint ScriptLines words cert = hint_line (script_name words) (codes "the script has more than 100,000 lines")
long_hint CertBytes words cert = hint_line cert (codes "the certificate has more than 268,435,456 bytes")

-- what is wrong with a certificate; want of memory is not told so
abbrev pub cert_text : CertFault → List ℕ
cert_text fault.NoMemory = codes "no memory is left"
cert_text fault.NotJson = codes "the certificate is no JSON in UTF-8 of at most 127 levels"
cert_text fault.BadForm = codes "the JSON is no certificate of version 1"

-- by the status of the run, its words without the option of the certificate, the name of that where there is one, and the bytes of the dump where they are told
abbrev pub hint_of : Status → List (List ℕ) → Option (List ℕ) → Option (List ℕ) → List ℕ
hint_of Done words cert dump = []
hint_of SomeRefused words cert dump = []
hint_of BadWords words cert dump = hint_line None (codes "usage: factoplan run DUMP SCRIPT, prove DUMP SCRIPT, check DUMP SCRIPT --cert FILE, or sample NUMBER SIZE")
hint_of (BadDump fault) words cert dump = hint_line (dump_name words) (fault_text fault dump)
hint_of ReadFault words cert dump = hint_line None (codes "a file could not be read")
hint_of WriteFault words cert dump = hint_line None (codes "the report could not be written")
hint_of NoMemory words cert dump = hint_line None (codes "no memory is left")
hint_of (TooLong long) words cert dump = long_hint long words cert
hint_of (BadCert fault) words cert dump = hint_line cert (cert_text fault)
