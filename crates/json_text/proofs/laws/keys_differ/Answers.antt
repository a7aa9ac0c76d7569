use Rattle.std.proofs.Common.{refl}
use Rattle.json_text.proofs.laws.keys_differ.Goals as goal

pub returns : goal.returns
returns c = λ w bytes t h. h.different refl
