-- The certificate of a session: the lines of its entries, and what its text says.
use Rattle.std.proofs.Common.{◌≤◌, ◌+◌, ◌++◌, ◌∷◌, [], ℕ, List, length, arith, rules, sym, subst, ◌∙◌}
use Rattle.std.specs.Prelude.{Option, Some, None, codes, option_map}
use Rattle.std.specs.List.{cons_option}
use Rattle.std.specs.Str.{IsUtf8}
use Rattle.std.proofs.lemmas.Str.{IsUtf8-append, IsUtf8-from_ascii}
use Rattle.linear_table.specs.declared.SolveAnswer.{SolveAnswer}
use Rattle.planner_core.specs.Lines.{Planned}
use Rattle.certificate_file.specs.Said.{HaveLines, IsCertificate, IsLine}
use Rattle.certificate_file.specs.declared.CertEntry.{CertEntry}
use Rattle.script_runner.specs.Answers.{Answered, solved_in}
use Rattle.script_runner.specs.Certificates.{entries_of, entry_for}
use Rattle.script_runner.specs.Sessions.{IsSession}
use Rattle.script_runner.proofs.FollowLemmas.{Follows, follows}
use Rattle.script_runner.proofs.NewlineLemmas.{read_ended}

newline_utf8 : IsUtf8 (codes "\n")
newline_utf8 = IsUtf8-from_ascii (codes "\n") (search rules)

-- a newline behind a certificate changes nothing of what it says
pub newline_says : (text : List ℕ) (entries : List CertEntry) → IsCertificate text entries → IsCertificate (text ++ codes "\n") entries
newline_says text entries is = record {
  data_ = is.data_;
  json = record { utf8 = IsUtf8-append text (codes "\n") is.json.utf8 newline_utf8; value = read_ended text ∙ is.json.value };
  says = is.says;
}

one_more : (number : ℕ) (o : Option SolveAnswer) (entries : List CertEntry) → IsLine number → HaveLines entries → HaveLines (cons_option (option_map (entry_for number) o) entries)
one_more number None entries here rest = rest
one_more number (Some answer) entries here rest = (here, rest)

have_lines_from : (number : ℕ) (first : Planned) (lines : List (List ℕ)) (answers : List Answered) (last : Planned) → 1 ≤ number → number + length lines ≤ 100_001 → Follows number first lines answers last → HaveLines (entries_of answers)
have_lines_from number first [] [] last some few session = tt
have_lines_from number first [] (a ∷ answers) last some few session = absurd session
have_lines_from number first (line ∷ lines) [] last some few session = absurd session
have_lines_from number first (line ∷ lines) (a ∷ answers) last some few session =
    one_more a.number (solved_in a.reply) (entries_of answers) (subst (λ (n : ℕ). IsLine n) (sym session.1) (record { first = some; last = omega arith }))
    (have_lines_from (number + 1) a.after lines answers last (omega arith) (omega arith) session.4)

-- the entries of a script that isn't too long are about lines that a script may have
pub have_lines : (first : Planned) (lines : List (List ℕ)) (answers : List Answered) (last : Planned) → length lines ≤ 100_000 → IsSession first lines answers last → HaveLines (entries_of answers)
have_lines first lines answers last few session = have_lines_from 1 first lines answers last (omega arith) (omega arith) (follows first lines answers last session)
