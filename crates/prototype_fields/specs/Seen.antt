-- What the readers' own types stand for.
use Rattle.std.specs.Prelude.{List}
use Rattle.json_text.specs.SpanSeen.{members_seen, spans_seen}
use Rattle.prototype_fields.specs.declared.fields.Fields.{Fields}
use Rattle.prototype_fields.specs.declared.fields.Members.{Members}
use Rattle.prototype_fields.specs.declared.fields.Members.TheVariants.{Object as ObjectMembers, Pair}
use Rattle.prototype_fields.specs.Objects.{Object, Member, pair_members}

abbrev pub listed_members : Members → List Member
listed_members (ObjectMembers members) = members_seen members.now
listed_members (Pair elements) = pair_members (spans_seen elements.now)

-- the object that fields are read of
unfoldable pub object_seen : Fields → Object
object_seen fields = record { within = fields.within; members = listed_members fields.members }
