-- Why a line is refused: the code of each cause, and what is said of it.
use Rattle.std.specs.Prelude.{ℕ, List, ◌++◌, codes, take}
use Rattle.std.specs.List.{slice_get}
use Rattle.plan_base.specs.declared.shape.Kind.{Kind}
use Rattle.plan_base.specs.declared.shape.Kind.TheVariants as kind
use Rattle.plan_lines.specs.declared.reply.RefusalCode.{RefusalCode}
use Rattle.plan_lines.specs.declared.reply.RefusalCode.TheVariants as r
use Rattle.script_reader.specs.declared.command_words.CommandWord.{CommandWord}
use Rattle.plan_report.specs.Words.{printed_word}
use Rattle.line_causes.specs.declared.causes.Cause.{Cause}
use Rattle.line_causes.specs.declared.causes.Cause.TheVariants as cause
use Rattle.line_causes.specs.declared.words.QuoteFault.{QuoteFault}
use Rattle.line_causes.specs.declared.words.QuoteFault.TheVariants as quote
use Rattle.line_causes.specs.Forms.{form, front_words, next_words, slot_code, slot_words}

-- what a code says of a line, where no more is known
abbrev pub code_words : RefusalCode → List ℕ
code_words r.Q1 = codes "the first word is no command"
code_words r.Q2 = codes "the line has too few words or too many, or another word stands for a fixed one"
code_words r.Q3 = codes "a word is no number of the kind that stands there"
code_words r.Q4 = codes "the line is not in UTF-8, or a word is badly quoted"
code_words r.Q5 = codes "a word names no object of a kind that stands there"
code_words r.X1 = codes "nothing has this name, or not of the kind that is needed"
code_words r.X2 = codes "all would be as before"
code_words r.X3 = codes "an amount or a time has to be above 0"
code_words r.X4 = codes "a list would have more than 1,024 entries"
code_words r.M1 = codes "there are 256 milestones already"
code_words r.M2 = codes "it is a milestone already"
code_words r.M3 = codes "it is no milestone"
code_words r.H1 = codes "nothing is there to undo"
code_words r.H2 = codes "nothing is there to do again"
code_words r.H3 = codes "a batch is open, and takes only edits that it can hold, end, cancel and quiet"
code_words r.H4 = codes "no batch is open"
code_words r.H5 = codes "the batch holds 1,024 edits already"
code_words r.P1 = codes "no table or row has this name, or the good has no such price"
code_words r.P2 = codes "a wanted rate or a price may not be below 0"
code_words r.P3 = codes "there are 64 tables already, or the table has 512 rows, wants, imports, surpluses or goods already"
code_words r.P4 = codes "a temperature that the row takes is not there"
code_words r.P5 = codes "the name is used already"
code_words r.K1 = codes "the machine does not do the activity"
code_words r.K2 = codes "the machine is fixed to another recipe"
code_words r.K3 = codes "the source needs this fluid, and the drill has no box for it"
code_words r.K4 = codes "a number of the rates of the row would pass 127 bits"
code_words r.K5 = codes "the machine gives nothing so"
code_words r.L1 = codes "the machine burns a fuel, and none is named"
code_words r.L2 = codes "the machine does not take this fuel"
code_words r.L3 = codes "a fuel is named, and the machine burns none"
code_words r.L4 = codes "the energy of the machine is not planned"
code_words r.U1 = codes "there are more modules than slots"
code_words r.U2 = codes "an effect of the module is not allowed here"
code_words r.U3 = codes "the module is not allowed on this recipe"
code_words r.B1 = codes "no machine shares the beacon"
code_words r.V1 = codes "a number of the solver would pass 127 bits"
code_words r.V2 = codes "the budget of exchanges is used up"

-- how a line is no line of words
abbrev pub quote_words : QuoteFault → List ℕ
quote_words quote.NotUtf8 = codes "the line is not in UTF-8"
quote_words quote.Within = codes "a quote stands within a word"
quote_words quote.Open = codes "a quote is not closed"
quote_words quote.Behind = codes "a word goes on behind its closing quote"
quote_words quote.Escape = codes "a backslash in quotes stands before none of n, t, r, quote and backslash"

abbrev pub kind_noun : Kind → List ℕ
kind_noun kind.Special = codes "special thing"
kind_noun kind.Item = codes "item"
kind_noun kind.Fluid = codes "fluid"
kind_noun kind.Recipe = codes "recipe"
kind_noun kind.Source = codes "source"
kind_noun kind.Machine = codes "machine"
kind_noun kind.Tech = codes "technology"

-- what stands behind so many words of a command
abbrev pub stands_text : List ℕ → CommandWord → ℕ → List ℕ
stands_text first command at =
    codes "behind " ++ (printed_word first ++ (front_words (take at (form command)) ++ (codes " stands " ++ next_words (slice_get (form command) at))))

-- each cause is one of this code
abbrev pub code_of : Cause → RefusalCode
code_of (cause.Coded code) = code
code_of (cause.Of word code) = code
code_of cause.Mark = r.Q1
code_of (cause.NoCommand word) = r.Q1
code_of cause.Comment = r.Q2
code_of (cause.Stands first command at) = r.Q2
code_of (cause.Unfit word slot) = slot_code slot
code_of (cause.Quoting fault) = r.Q4
code_of (cause.NoObject kind word) = r.X1
code_of (cause.NoModule word) = r.X1
code_of (cause.NoBeacon word) = r.X1
code_of (cause.NoTable word) = r.P1
code_of (cause.NoRow table label) = r.P1
code_of (cause.NoPrice word) = r.P1
code_of (cause.Undone machine activity) = r.K1
code_of (cause.DoneBy machine activity other) = r.K1
code_of (cause.Warmer fluid machine variant) = r.K1
code_of (cause.Fuelless machine fuel) = r.L1

-- a table has no row of a label
abbrev pub no_row_text : List ℕ → List ℕ → List ℕ
no_row_text table label = (codes "table " ++ printed_word table) ++ (codes " has no row " ++ printed_word label)

-- another machine does what one doesn't
abbrev pub done_by_text : List ℕ → List ℕ → List ℕ → List ℕ
done_by_text machine activity other =
    (printed_word machine ++ (codes " does not do " ++ printed_word activity)) ++ (codes "; " ++ (printed_word other ++ codes " does"))

-- a machine gives a fluid at a temperature
abbrev pub warmer_text : List ℕ → List ℕ → List ℕ → List ℕ
warmer_text fluid machine variant =
    (printed_word fluid ++ codes " has several temperatures; ") ++ (printed_word machine ++ (codes " makes " ++ printed_word variant))

-- what is said of a cause
abbrev pub cause_text : Cause → List ℕ
cause_text (cause.Coded code) = code_words code
cause_text (cause.Of word code) = printed_word word ++ (codes ": " ++ code_words code)
cause_text cause.Mark = codes "the file begins with a byte order mark"
cause_text (cause.NoCommand word) = codes "no command is called " ++ printed_word word
cause_text cause.Comment = codes "a comment stands on a line of its own"
cause_text (cause.Stands first command at) = stands_text first command at
cause_text (cause.Unfit word slot) = printed_word word ++ (codes " is not " ++ slot_words slot)
cause_text (cause.Quoting fault) = quote_words fault
cause_text (cause.NoObject kind word) = codes "no " ++ (kind_noun kind ++ (codes " is called " ++ printed_word word))
cause_text (cause.NoModule word) = printed_word word ++ codes " is no module"
cause_text (cause.NoBeacon word) = printed_word word ++ codes " is no beacon"
cause_text (cause.NoTable word) = codes "no table is called " ++ printed_word word
cause_text (cause.NoRow table label) = no_row_text table label
cause_text (cause.NoPrice word) = printed_word word ++ codes " has no such price"
cause_text (cause.Undone machine activity) = printed_word machine ++ (codes " does not do " ++ printed_word activity)
cause_text (cause.DoneBy machine activity other) = done_by_text machine activity other
cause_text (cause.Warmer fluid machine variant) = warmer_text fluid machine variant
cause_text (cause.Fuelless machine fuel) = printed_word machine ++ (codes " burns a fuel, such as " ++ printed_word fuel)
