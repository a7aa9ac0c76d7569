use Rattle.std.proofs.Common.{sym, ◌∙◌, ap}
use Rattle.name_table.specs.Names.{place_of}
use Rattle.name_table.proofs.NamesLemmas.{named_at}
use Rattle.name_table.proofs.Names.find.Goals as goal

pub returns-in-Some-clause-named : goal.returns-in-Some-clause-named
returns-in-Some-clause-named c = named_at c.args.self.now c.args.name.now c.in-Some.place
    (ap (λ names. place_of names c.args.name.now) (sym c.self.view_is) ∙ sym c.place_in.ensures.place ∙ c.in-Some.is)
