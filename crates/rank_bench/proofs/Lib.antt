mod DropLemmas
