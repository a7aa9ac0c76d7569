-- The lists of keys in the code are those of the definition.
use Rattle.std.proofs.Common.{◌≡◌, map, refl}
use Rattle.game_reader.specs.Keys.{dump_wishes}
use Rattle.game_reader.specs.declared.keys.TheConstants.{SECTIONS, FIELDS}

pub sections_are : map (λ key. key.now) SECTIONS ≡ dump_wishes.sections
sections_are = refl

pub fields_are : map (λ key. key.now) FIELDS ≡ dump_wishes.fields
fields_are = refl
