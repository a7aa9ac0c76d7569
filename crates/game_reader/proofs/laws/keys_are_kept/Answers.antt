use Rattle.game_reader.proofs.KeysKept.{section_kept, key_kept}
use Rattle.game_reader.proofs.laws.keys_are_kept.Goals as goal

pub returns-clause-sections : goal.returns-clause-sections
returns-clause-sections c = section_kept

pub returns-clause-fields : goal.returns-clause-fields
returns-clause-fields c = key_kept
