use Rattle.dump_reader.specs.Draft.{draft_seen}
use Rattle.game_reader.proofs.SoundLinks.{answer_plain, answer_sound}
use Rattle.game_reader.proofs.links.link.Goals as goal

pub returns-clause-sound : goal.returns-clause-sound
returns-clause-sound c = answer_sound (draft_seen c.args.draft) c.requires c.link_draft.result c.link_draft.ensures

pub returns-clause-plain : goal.returns-clause-plain
returns-clause-plain c = answer_plain (draft_seen c.args.draft) c.requires c.link_draft.result c.link_draft.ensures
