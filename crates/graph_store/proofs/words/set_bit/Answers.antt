use Rattle.std.proofs.Common.{◌∙◌, ◌/◌, ◌%◌, ap, arith, get_or, set}
use Rattle.std.proofs.lemmas.Nat.{one_shl}
use Rattle.std.specs.Int.Bits.{bit_or}
use Rattle.graph_store.specs.Words.{bit_in}
use Rattle.graph_store.proofs.WordLemmas.{bit_put}
use Rattle.graph_store.proofs.words.set_bit.Goals as goal

pub returns-clause-bits : goal.returns-clause-bits
returns-clause-bits c = λ p.
    let words = c.args.words.now in
    let word = c.args.place / 64 in
    ap (λ bit. bit_in (set words word (bit_or (get_or words word 0) bit)) p) (one_shl (c.args.place % 64) 64 (omega arith)) ∙ bit_put words c.args.place p c.requires
