-- The texts of a tree are UTF-8. Only clauses of private functions cite it.
use Rattle.std.specs.Prelude.{◌≡◌, true}
use Rattle.std.specs.Str.{is_utf8}
use Rattle.json_text.specs.Kept.{Kept}
use Rattle.json_text.specs.Kept as k

abbrev mutual
  pub IsTextual : Kept → Type 0
  IsTextual (k.null at) = Unit {0}
  IsTextual (k.flag at b) = Unit {0}
  IsTextual (k.word at) = Unit {0}
  IsTextual (k.number at digits) = is_utf8 digits ≡ true
  IsTextual (k.string at bytes) = is_utf8 bytes ≡ true
  IsTextual (k.list at elements) = AreTextual elements
  IsTextual (k.object at members) = MembersAreTextual members
  IsTextual (k.skipped at) = Unit {0}

  pub AreTextual : k.KeptList → Type 0
  AreTextual k.no_elements = Unit {0}
  AreTextual (k.element v rest) = IsTextual v × AreTextual rest

  pub MembersAreTextual : k.KeptObject → Type 0
  MembersAreTextual k.no_members = Unit {0}
  MembersAreTextual (k.member key v rest) = (is_utf8 key ≡ true) × IsTextual v × MembersAreTextual rest
