use Rattle.std.proofs.Common.{arith}
use Rattle.catalog_things.specs.Nodes.{thing_node}
use Rattle.catalog_text.specs.Things.{value_in}
use Rattle.catalog_laws.proofs.Reading.{text_is, text_reads}
use Rattle.catalog_laws.proofs.Sections.{value_fits}
use Rattle.catalog_laws.proofs.laws.things_read_back.Goals as goal

pub returns-clause-compact : goal.returns-clause-compact
returns-clause-compact c = λ s index kind number text is.
    text_is 4 (value_in s index is.shown kind number (thing_node s.book.game kind number)) text (value_fits s index is.shown kind number (thing_node s.book.game kind number)) is.is_text

pub returns-clause-reads_back : goal.returns-clause-reads_back
returns-clause-reads_back c = λ s index kind number text is.
    text_reads 4 (value_in s index is.shown kind number (thing_node s.book.game kind number)) text (omega arith) (value_fits s index is.shown kind number (thing_node s.book.game kind number)) is.is_text
