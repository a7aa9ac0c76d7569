-- What the reader's own types stand for.
use Rattle.prototype_fields.specs.Seen.{object_seen}
use Rattle.craft_reader.specs.Goods.{FormOf}
use Rattle.craft_reader.specs.declared.goods.Form.{Form}

unfoldable pub form_seen : Form → FormOf
form_seen form = record { object = object_seen form.fields; listed = form.listed }
