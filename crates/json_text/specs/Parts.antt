-- What the numbers, strings and keys of a kept tree are.
use Rattle.std.specs.Str.{IsUtf8}
use Rattle.json_text.specs.Text.{IsNumber}
use Rattle.json_text.specs.Kept.{Kept}
use Rattle.json_text.specs.Kept as k

-- each number is a numeral of RFC 8259, section 6
abbrev mutual
  pub HasNumerals : Kept → Type 0
  HasNumerals (k.null at) = Unit {0}
  HasNumerals (k.flag at b) = Unit {0}
  HasNumerals (k.word at) = Unit {0}
  HasNumerals (k.number at digits) = IsNumber digits
  HasNumerals (k.string at bytes) = Unit {0}
  HasNumerals (k.list at elements) = EachHasNumerals elements
  HasNumerals (k.object at members) = MembersHaveNumerals members
  HasNumerals (k.skipped at) = Unit {0}

  pub EachHasNumerals : k.KeptList → Type 0
  EachHasNumerals k.no_elements = Unit {0}
  EachHasNumerals (k.element v rest) = HasNumerals v × EachHasNumerals rest

  pub MembersHaveNumerals : k.KeptObject → Type 0
  MembersHaveNumerals k.no_members = Unit {0}
  MembersHaveNumerals (k.member key v rest) = HasNumerals v × MembersHaveNumerals rest

-- each string and each key is UTF-8
abbrev mutual
  pub HasUtf8 : Kept → Type 0
  HasUtf8 (k.null at) = Unit {0}
  HasUtf8 (k.flag at b) = Unit {0}
  HasUtf8 (k.word at) = Unit {0}
  HasUtf8 (k.number at digits) = Unit {0}
  HasUtf8 (k.string at bytes) = IsUtf8 bytes
  HasUtf8 (k.list at elements) = EachHasUtf8 elements
  HasUtf8 (k.object at members) = MembersHaveUtf8 members
  HasUtf8 (k.skipped at) = Unit {0}

  pub EachHasUtf8 : k.KeptList → Type 0
  EachHasUtf8 k.no_elements = Unit {0}
  EachHasUtf8 (k.element v rest) = HasUtf8 v × EachHasUtf8 rest

  pub MembersHaveUtf8 : k.KeptObject → Type 0
  MembersHaveUtf8 k.no_members = Unit {0}
  MembersHaveUtf8 (k.member key v rest) = IsUtf8 key × HasUtf8 v × MembersHaveUtf8 rest
